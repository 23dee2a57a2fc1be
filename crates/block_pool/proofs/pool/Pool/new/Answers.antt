use Rattle.std.proofs.Common.{is_some, length, map, sym, ap, subst, ◌∙◌, arith}
use Rattle.id_set.specs.Tables.{entries_of}
use Rattle.block_pool.specs.Inside.{AreInPlace}
use Rattle.block_pool.proofs.Places.{all_free, all_fresh, fresh_in_place, fresh_length}
use Rattle.block_pool.proofs.pool.Pool.new.Goals as goal

pub invariant_of-result : goal.invariant_of-result
invariant_of-result c =
    let places = c.in_ok-places.places.items in
    record {
      free = c.in_ok-free.ensures ∙ all_free c.args.size c.args.count ∙ ap (map is_some) (sym c.in_ok-places.ensures);
      ids = subst AreInPlace (sym c.in_ok-places.ensures) (fresh_in_place c.args.size c.args.count);
      limit = omega (arith, ap (λ xs. length xs) c.in_ok-places.ensures, fresh_length c.args.size c.args.count);
    }

pub returns : goal.returns
returns c = λ i. record {
  bound = (ap (λ xs. length xs) c.in_ok-places.ensures ∙ fresh_length c.args.size c.args.count) i;
  slices = (ap (λ xs. entries_of xs) c.in_ok-places.ensures ∙ all_fresh c.args.size c.args.count) i;
}
