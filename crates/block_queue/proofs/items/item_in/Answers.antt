use Rattle.std.proofs.Common.{◌≤◌, ℕ, List, length, Ok, sym, ap, subst, ◌∙◌}
use Rattle.std.proofs.lemmas.Result.{IfOk-weaker}
use Rattle.queue_block.specs.Items.{BeginsAt, ReadsAt, IsItem}
use Rattle.block_queue.proofs.Reading.{item_short}
use Rattle.block_queue.proofs.items.item_in.Goals as goal

pub returns-in-Ok-Some-clause-item : goal.returns-in-Ok-Some-clause-item
returns-in-Ok-Some-clause-item c =
    IfOk-weaker c.copied.result _ _
    (λ copy is whole begins. is ∙ subst (λ r. IsItem (λ item. item.now) whole r) (c.in-Ok-Some.is ∙ ap Ok c.in-Ok-Some.field-0-is) (c.next_item.ensures.only whole begins))
    c.copied.ensures.item

pub returns-in-Ok-Some-clause-short : goal.returns-in-Ok-Some-clause-short
returns-in-Ok-Some-clause-short c =
    let begins : BeginsAt c.args.bytes.now c.args.at c.in-Ok-Some.item.now =
    subst (λ r. ReadsAt (λ item. item.now) c.args.bytes.now c.args.at r) (c.in-Ok-Some.is ∙ ap Ok c.in-Ok-Some.field-0-is) c.next_item.ensures.reads in
    let short = item_short c.args.bytes.now c.args.at c.in-Ok-Some.item.now begins in
    IfOk-weaker c.copied.result _ _ (λ copy is. subst (λ (xs : List ℕ). length xs ≤ length c.args.bytes.now) (sym is) short) c.copied.ensures.item

pub returns-in-Ok-None-clause-item : goal.returns-in-Ok-None-clause-item
returns-in-Ok-None-clause-item c =
    IfOk-weaker c.copied-in-Ok-None.result _ _
    (λ copy is whole begins. absurd (subst (λ r. IsItem (λ item. item.now) whole r) (c.in-Ok-None.is ∙ ap Ok c.in-Ok-None.field-0-is) (c.next_item.ensures.only whole begins)))
    c.copied-in-Ok-None.ensures.item

pub returns-in-Err-clause-item : goal.returns-in-Err-clause-item
returns-in-Err-clause-item c =
    IfOk-weaker c.copied-in-Err.result _ _
    (λ copy is whole begins. absurd (subst (λ r. IsItem (λ item. item.now) whole r) c.in-Err.is (c.next_item.ensures.only whole begins)))
    c.copied-in-Err.ensures.item
