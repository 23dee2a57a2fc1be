use Rattle.std.proofs.Common.{◌≡◌, ◌∙◌, ◌||◌, List, [], ℕ, true, false, get_or, sym, ap, arith}
use Rattle.std.proofs.lemmas.List.Folds.{list_any_at, list_any_more}
use Rattle.table_block.specs.Records.{Record}
use Rattle.table_block.specs.Slots.{slot_of}
use Rattle.slot_split.specs.Plans.{is_between, moves}
use Rattle.slot_split.proofs.moves.has_moving.Goals as goal

pub returns-then-is_moving : goal.returns-then-is_moving
returns-then-is_moving c =
    let d : Record = (c.key.result.now, []) in
    let test : moves c.args.from c.args.to (get_or c.args.block.now c.loop-index.index d) ≡ true =
    ap (λ (key : List ℕ). is_between c.args.from c.args.to (slot_of key)) (c.key.ensures.key d) ∙ sym c.is_moving.ensures ∙ c.if-is_moving.true in
    sym (list_any_at (moves c.args.from c.args.to) c.args.block.now c.loop-index.index d (omega arith) test)

pub loop-index-preserved : goal.loop-index-preserved
loop-index-preserved c =
    let d : Record = (c.key.result.now, []) in
    let test : moves c.args.from c.args.to (get_or c.args.block.now c.loop-index.index d) ≡ false =
    ap (λ (key : List ℕ). is_between c.args.from c.args.to (slot_of key)) (c.key.ensures.key d) ∙ sym c.is_moving.ensures ∙ c.if-is_moving.false in
    list_any_more (moves c.args.from c.args.to) c.args.block.now c.loop-index.index d (omega arith)
    ∙ (λ i. c.loop-index.invariant i || test i)
