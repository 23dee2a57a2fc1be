use Rattle.std.proofs.Common.{◌≡◌, ◌+◌, ◌++◌, [], ◌∷◌, List, length, get_or, set, sym, ap, ◌∙◌, Some, None, arith}
use Rattle.std.specs.Prelude.{position}
use Rattle.std.proofs.lemmas.List.{length-set}
use Rattle.std.proofs.lemmas.Result.{on_ok_weaker}
use Rattle.table_block.specs.Records.{Record}
use Rattle.slot_split.specs.Packing.{fits_in}
use Rattle.slot_split.proofs.PackingLaws.{with_record-found, with_record-none, found_room, refill_whole}
use Rattle.slot_split.proofs.packing.put_first_fit.Goals as goal

-- the block that was found has room
pub push-requires-clause-few : goal.push-requires-clause-few
push-requires-clause-few c =
    let lent = c.items_mut.result.now in
    let d = c.index-items_mut-index.result in
    let same : lent ≡ c.items.result.now = c.items_mut.ensures.value ∙ sym c.items.ensures in
    let found : position (fits_in c.args.size (4 + length c.args.key.now + length c.args.value.now)) lent ≡ Some c.in-Some.index =
    ap (position (fits_in c.args.size (4 + length c.args.key.now + length c.args.value.now))) same ∙ sym c.in-Some.ensures in
    omega (arith, found_room c.args.size (4 + length c.args.key.now + length c.args.value.now) lent c.in-Some.index d found)

pub returns-in-Some : goal.returns-in-Some
returns-in-Some c =
    let blocks = c.args.blocks.now in
    let r : Record = (c.args.key.now, c.args.value.now) in
    let lent = c.items_mut.result.now in
    let d = c.index-items_mut-index.result in
    let value = c.items_mut.ensures.value in
    let found : position (fits_in c.args.size (4 + length c.args.key.now + length c.args.value.now)) blocks ≡ Some c.in-Some.index =
    ap (position (fits_in c.args.size (4 + length c.args.key.now + length c.args.value.now))) (sym c.items.ensures) ∙ sym c.in-Some.ensures in
    on_ok_weaker c.push.result (λ pushed.
    refill_whole blocks (set lent c.in-Some.index c.push.new.self) (length-set lent c.in-Some.index c.push.new.self ∙ ap length value)
    ∙ (λ i. set (value i) c.in-Some.index ((pushed ∙ ap (λ (bs : List (List Record)). get_or bs c.in-Some.index d ++ r ∷ []) value) i))
    ∙ sym (with_record-found c.args.size blocks r c.in-Some.index d found)) c.push.ensures.ok

pub returns-in_ok-push-in-None : goal.returns-in_ok-push-in-None
returns-in_ok-push-in-None c =
    let blocks = c.args.blocks.now in
    let r : Record = (c.args.key.now, c.args.value.now) in
    let none : position (fits_in c.args.size (4 + length c.args.key.now + length c.args.value.now)) blocks ≡ None =
    ap (position (fits_in c.args.size (4 + length c.args.key.now + length c.args.value.now))) (sym c.items.ensures) ∙ sym c.in-None.ensures in
    let block : c.push-in-None.new.self ≡ r ∷ [] = c.in_ok-push-in-None.ensures.ok ∙ ap (λ (rs : List Record). rs ++ r ∷ []) c.new-block.ensures in
    on_ok_weaker c.push-in-None-2.result (λ pushed.
    pushed ∙ ap (λ (b : List Record). blocks ++ b ∷ []) block ∙ sym (with_record-none c.args.size blocks r none)) c.push-in-None-2.ensures.ok
