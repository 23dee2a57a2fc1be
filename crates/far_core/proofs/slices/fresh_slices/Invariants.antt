use Rattle.std.proofs.Common.{◌≡◌, reverse, vec_capacity, vec_len}
use Rattle.far_core.proofs.Made.{made_slices}
use Rattle.far_core.proofs.slices.fresh_slices.Given as goal

abbrev pub invariant-loop-made : goal.invariant-loop-made
invariant-loop-made l = record {
  len : vec_len l.slices ≡ l.made;
  room : vec_capacity l.slices ≡ l.count;
  made : reverse l.slices.items ≡ made_slices l.size l.count l.made;
}
