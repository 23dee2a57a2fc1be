use Rattle.std.proofs.Common.{◌≡◌, ◌<◌, ◌∙◌, ◌++◌, [], ◌∷◌, List, true, false, not, length, take, sym, ap, append-nil, arith}
use Rattle.std.specs.Prelude.{filter}
use Rattle.table_block.specs.Records.{Record, records_size}
use Rattle.slot_split.specs.Packing.{with_record, with_records}
use Rattle.slot_split.specs.Plans.{moves, stays}
use Rattle.slot_split.proofs.Parts.{front_size, kept-more, record_is}
use Rattle.slot_split.proofs.PackingLaws.{with_records-append}
use Rattle.slot_split.proofs.moves.split_block.Goals as goal
use Rattle.slot_split.proofs.moves.split_block.Goals.{then-is_moving+in_ok-put_first_fit, else-is_moving+in_ok-push}

pub push-requires-clause-few : goal.push-requires-clause-few
push-requires-clause-few c =
    let block = c.args.block.now in
    let at = c.loop-index.index in
    let r : Record = (c.key-key.result.now, c.value-value.result.now) in
    let is = record_is block at r.0 r.1 c.key-key.ensures.key c.value-value.ensures.value r in
    omega (
      arith,
      front_size (stays c.args.from c.args.to) block at r (omega arith),
      ap records_size c.loop-index.invariant.kept,
      ap (λ (r : Record). length r.0) is,
      ap (λ (r : Record). length r.1) is,
      c.len-index-end.ensures.limit,
    )

pub loop-index-preserved : goal.loop-index-preserved
loop-index-preserved c =
    let from = c.args.from in
    let to = c.args.to in
    let size = c.args.size in
    let block = c.args.block.now in
    let at = c.loop-index.index in
    let key = c.key-key.result.now in
    let value = c.value-value.result.now in
    let within : at < length block = omega arith in
    let keyed = c.key-key.ensures.key in
    let valued = c.value-value.ensures.value in
    let before = filter (moves from to) (take at block) in
    elim c.if-is_moving.branch [
      | then-is_moving+in_ok-put_first_fit w ↦
          let test : moves from to (key, value) ≡ true = sym c.is_moving.ensures ∙ w.if-is_moving.true in
          record {
            kept =
                w.kept-is ∙ c.loop-index.invariant.kept
                ∙ sym (kept-more (stays from to) block at key value false within keyed valued (ap not test) ∙ append-nil (filter (stays from to) (take at block)));
            moved =
                w.right-is ∙ w.in_ok-put_first_fit.ensures
                ∙ ap (λ (bs : List (List Record)). with_record size bs (key, value)) c.loop-index.invariant.moved
                ∙ sym (with_records-append size c.args.right.now before ((key, value) ∷ []))
                ∙ ap (with_records size c.args.right.now) (sym (kept-more (moves from to) block at key value true within keyed valued test));
          }
      | else-is_moving+in_ok-push w ↦
          let test : moves from to (key, value) ≡ false = sym c.is_moving.ensures ∙ w.if-is_moving.false in
          record {
            kept =
                w.kept-is ∙ w.in_ok-push.ensures.ok ∙ ap (λ (rs : List Record). rs ++ (key, value) ∷ []) c.loop-index.invariant.kept
                ∙ sym (kept-more (stays from to) block at key value true within keyed valued (ap not test));
            moved =
                w.right-is ∙ c.loop-index.invariant.moved
                ∙ ap (with_records size c.args.right.now)
                (sym (kept-more (moves from to) block at key value false within keyed valued test ∙ append-nil before));
          }
    ]
