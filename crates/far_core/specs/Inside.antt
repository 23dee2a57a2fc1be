-- What holds of a core's fields.
use Rattle.std.specs.Prelude.{◌≡◌, [], ◌+◌, ◌^◌, ◌<◌, ◌≤◌, if◌then◌else◌, reverse, vec_len, vec_capacity}
use Rattle.far_words.specs.Moves.{no_moves}
use Rattle.far_core.specs.declared.service.Core.TheInside.{Inside}
use Rattle.far_core.specs.Cores.{CoreView}

abbrev pub core_view : {K : Type 0} → Inside K → CoreView K
core_view c = record {
  shape = c.shape;
  pool = reverse c.slices.pool.items;
  hand = reverse c.slices.hand.items;
  tenant = c.tenant;
  moves = if c.is_own then c.tenant.moves else c.no_moves;
}

pub record IsWellCore {K : Type 0} (c : Inside K) : Type 0 where
  pub one_user : c.shape.users ≡ 1
  pub still : c.no_moves ≡ no_moves 0
  -- the hand has room for what is in the pool
  pub room : vec_len c.slices.pool + vec_len c.slices.hand ≤ vec_capacity c.slices.hand
  pub ended : (c.ended.items ≡ []) × (vec_len c.ended + 1 ≤ vec_capacity c.ended)
  pub limit : vec_capacity c.slices.hand < 2 ^ 32
