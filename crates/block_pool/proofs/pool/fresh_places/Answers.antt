use Rattle.std.proofs.Common.{◌≡◌, ℕ, ◌+◌, ◌++◌, ◌∷◌, [], sym, ◌∙◌, arith, Some}
use Rattle.std.proofs.lemmas.List.FromFn.{map-range_with_len_more}
use Rattle.block_pool.specs.Pools.{fresh_slice}
use Rattle.block_pool.proofs.pool.fresh_places.Goals as goal

pub loop-id-preserved : goal.loop-id-preserved
loop-id-preserved c =
    let size : ℕ = c.args.size in
    let id : ℕ = c.loop-id.id in
    let from : 0 + id ≡ id = omega arith in
    let made : c.in-Ok.slice ≡ fresh_slice size id = c.in-Ok.ensures in
    record {
      made = c.push_reserved.ensures.items ∙ (λ i. c.loop-id.invariant.made i ++ Some (made i) ∷ []) ∙ sym (map-range_with_len_more (λ n. Some (fresh_slice size n)) 0 id id from);
      count = omega (arith, c.push_reserved.ensures.len, c.loop-id.invariant.count);
      room = omega (arith, c.push_reserved.ensures.capacity, c.loop-id.invariant.room);
    }
