use Rattle.std.proofs.Common.{◌≡◌, ℕ, List, length, Some, None, sym, ap, subst, ◌∙◌, arith}
use Rattle.std.proofs.lemmas.Option.{same_Some}
use Rattle.std.proofs.lemmas.Result.{IfOk-weaker}
use Rattle.shelf_link.specs.Blocks as map
use Rattle.block_seats.specs.Seatings.{bytes_at}
use Rattle.block_home.specs.Calls.{stamp_at}
use Rattle.block_home.proofs.Shelved.{seated_held}
use Rattle.queue_block.specs.Items.{BeginsAt}
use Rattle.block_queue.proofs.items.read_item.Goals as goal

pub returns-in_default-clause-item : goal.returns-in_default-clause-item
returns-in_default-clause-item g c =
    let home = c.args.home.now in
    let block = c.args.mark.now.block in
    let none : stamp_at home.seats.blocks block ≡ None = sym c.stamp.ensures.stamp ∙ c.in_default.is in
    IfOk-weaker c.item_in.result _ _
    (λ item is m bytes whole holds at begins.
    let here : map.block_at m block ≡ Some (bytes_at home.seats block) = seated_held m (g.K.Shelf.told home.shelf) home.user block home.seats.blocks c.requires.there none holds in
    let same : bytes ≡ c.bytes.result.now = same_Some bytes (bytes_at home.seats block) (sym at ∙ here) ∙ sym c.bytes.ensures.value in
    is whole (subst (λ (bs : List ℕ). BeginsAt bs c.args.mark.now.at whole) same begins))
    c.item_in.ensures.item

pub returns-in_default-clause-short : goal.returns-in_default-clause-short
returns-in_default-clause-short g c =
    IfOk-weaker c.item_in.result _ _ (λ item is. omega (arith, is, c.bytes.ensures.limit)) c.item_in.ensures.short

pub returns-in-Ok-clause-item : goal.returns-in-Ok-clause-item
returns-in-Ok-clause-item g c =
    IfOk-weaker c.item_of.result _ _
    (λ item is m bytes whole holds at begins.
    let same : bytes ≡ c.items.result.now = same_Some bytes c.in-Ok.content (sym at ∙ c.in-Ok.ensures.content m holds) ∙ sym c.items.ensures in
    is whole (subst (λ (bs : List ℕ). BeginsAt bs c.args.mark.now.at whole) same begins))
    c.item_of.ensures.item

pub returns-in-Ok-clause-short : goal.returns-in-Ok-clause-short
returns-in-Ok-clause-short g c =
    let same : length c.items.result.now ≡ length c.in-Ok.content = ap (λ (xs : List ℕ). length xs) c.items.ensures in
    IfOk-weaker c.item_of.result _ _ (λ item is. omega (arith, is, same, c.in-Ok.ensures.limit)) c.item_of.ensures.short

pub returns-in-Ok-clause-telling : goal.returns-in-Ok-clause-telling
returns-in-Ok-clause-telling g c = λ tells m bytes whole holds at begins.
    let same : bytes ≡ c.items.result.now = same_Some bytes c.in-Ok.content (sym at ∙ c.in-Ok.ensures.content m holds) ∙ sym c.items.ensures in
    c.item_of.ensures.whole whole (subst (λ (bs : List ℕ). BeginsAt bs c.args.mark.now.at whole) same begins)

pub returns-in-Err-clause-telling : goal.returns-in-Err-clause-telling
returns-in-Err-clause-telling g c = λ tells m bytes whole holds at begins. c.in-Err.ensures.telling tells m holds
