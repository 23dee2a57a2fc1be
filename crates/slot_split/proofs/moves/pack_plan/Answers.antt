use Rattle.std.proofs.Common.{◌≡◌, ◌∙◌, List, [], sym, ap, subst}
use Rattle.std.specs.Prelude.{All}
use Rattle.std.specs.List.Sorted.{IsPermutation}
use Rattle.std.proofs.lemmas.List.Elements.{All-nil}
use Rattle.table_block.specs.Records.{Record}
use Rattle.slot_split.specs.Packing.{with_records, packed}
use Rattle.slot_split.specs.Plans.{all_records, IsNewBlock}
use Rattle.slot_split.proofs.PackedLaws.{packed_one, with_records_keep, with_records_new}
use Rattle.slot_split.proofs.moves.pack_plan.Goals as goal

pub returns-clause-one : goal.returns-clause-one
returns-clause-one c = λ some within.
    c.in_ok-put_all_first_fit.ensures
    ∙ ap (λ (bs : List (List Record)). with_records c.args.size bs c.args.all.now) c.new-left.ensures
    ∙ packed_one c.args.size c.args.all.now some within

pub returns-clause-keeps : goal.returns-clause-keeps
returns-clause-keeps c =
    let left : c.put_all_first_fit.new.blocks ≡ packed c.args.size c.args.all.now =
    c.in_ok-put_all_first_fit.ensures ∙ ap (λ (bs : List (List Record)). with_records c.args.size bs c.args.all.now) c.new-left.ensures in
    subst (λ (bs : List (List Record)). IsPermutation c.args.all.now (all_records bs)) (sym left) (with_records_keep c.args.size [] c.args.all.now)

pub returns-clause-blocks : goal.returns-clause-blocks
returns-clause-blocks c = λ fit.
    let left : c.put_all_first_fit.new.blocks ≡ packed c.args.size c.args.all.now =
    c.in_ok-put_all_first_fit.ensures ∙ ap (λ (bs : List (List Record)). with_records c.args.size bs c.args.all.now) c.new-left.ensures in
    subst (λ (bs : List (List Record)). All (IsNewBlock c.args.size) bs) (sym left)
    (with_records_new c.args.size [] c.args.all.now fit (All-nil (IsNewBlock c.args.size)))
