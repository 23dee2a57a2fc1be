use Rattle.std.proofs.Common.{◌≡◌, ◌+◌, true, false, not, is_some, length, take, add-zero, sym, ap, ◌∙◌, arith}
use Rattle.block_list.specs.Lists.{parked_of}
use Rattle.block_list.proofs.Going.{counted_more}
use Rattle.block_list.proofs.count_parked.Goals as goal
use Rattle.block_list.proofs.count_parked.Goals.{then-is_none, else-is_none}

pub loop-block-preserved : goal.loop-block-preserved
loop-block-preserved g c =
    let purse = c.args.home.now.seats.purse in
    let blocks = c.args.blocks.now in
    let l = c.loop-block in
    let few = l.invariant.few in
    let place_is = ap is_some (sym c.place.ensures.place) ∙ c.is_none.ensures in
    elim c.if-is_none.branch [
      | then-is_none w ↦
          let count_is : c.if-is_none.count ≡ l.count + 1 = w.count-is in
          record {
            counted = count_is ∙ ap (λ n. n + 1) l.invariant.counted ∙ sym (counted_more purse blocks l.block-index c.loop-block-test.true false (place_is ∙ ap not w.if-is_none.true));
            few = omega arith;
          }
      | else-is_none w ↦
          let count_is : c.if-is_none.count ≡ l.count = w.count-is in
          let more : length (parked_of purse (take (l.block-index + 1) blocks)) ≡ length (parked_of purse (take l.block-index blocks)) + 0 = counted_more purse blocks l.block-index c.loop-block-test.true true (place_is ∙ ap not w.if-is_none.false) in
          record { counted = count_is ∙ l.invariant.counted ∙ sym (more ∙ add-zero (length (parked_of purse (take l.block-index blocks)))); few = omega arith }
    ]
