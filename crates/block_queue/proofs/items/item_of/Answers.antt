use Rattle.std.proofs.Common.{◌≤◌, ℕ, List, length, Ok, sym, ap, subst, ◌∙◌}
use Rattle.std.proofs.lemmas.Result.{IfOk-weaker}
use Rattle.queue_block.specs.Items.{BeginsAt, ReadsAt, IsItem}
use Rattle.block_queue.proofs.Reading.{item_short}
use Rattle.block_queue.proofs.items.item_of.Goals as goal

pub returns-in-Ok-Some-clause-item : goal.returns-in-Ok-Some-clause-item
returns-in-Ok-Some-clause-item c =
    IfOk-weaker c.copied.result _ _
    (λ copy is whole begins. is ∙ subst (λ r. IsItem (λ item. item.now) whole r) (c.in-Ok-Some.is ∙ ap Ok c.in-Ok-Some.field-0-is) (c.next_item.ensures.only whole begins))
    c.copied.ensures.item

pub returns-in-Ok-Some-clause-short : goal.returns-in-Ok-Some-clause-short
returns-in-Ok-Some-clause-short c =
    let begins : BeginsAt c.args.content.now c.args.at c.in-Ok-Some.item.now =
    subst (λ r. ReadsAt (λ item. item.now) c.args.content.now c.args.at r) (c.in-Ok-Some.is ∙ ap Ok c.in-Ok-Some.field-0-is) c.next_item.ensures.reads in
    let short = item_short c.args.content.now c.args.at c.in-Ok-Some.item.now begins in
    IfOk-weaker c.copied.result _ _ (λ copy is. subst (λ (xs : List ℕ). length xs ≤ length c.args.content.now) (sym is) short) c.copied.ensures.item

pub returns-in-Ok-None-clause-whole : goal.returns-in-Ok-None-clause-whole
returns-in-Ok-None-clause-whole c = λ whole begins.
    absurd (subst (λ r. IsItem (λ item. item.now) whole r) (c.in-Ok-None.is ∙ ap Ok c.in-Ok-None.field-0-is) (c.next_item.ensures.only whole begins))

pub returns-in-Err-clause-whole : goal.returns-in-Err-clause-whole
returns-in-Err-clause-whole c = λ whole begins.
    absurd (subst (λ r. IsItem (λ item. item.now) whole r) c.in-Err.is (c.next_item.ensures.only whole begins))
