use Rattle.std.proofs.Common.{◌≡◌, ◌≤◌, ◌∙◌, [], ◌++◌, List, true, false, length, get_or, ◌∷◌, take, sym, ap, subst, append-nil, arith}
use Rattle.std.specs.Prelude.{All, filter}
use Rattle.std.proofs.lemmas.List.{take_all}
use Rattle.table_block.specs.Records.{Record, records_size}
use Rattle.slot_split.specs.declared.plans.Rest.{Rest}
use Rattle.slot_split.specs.declared.plans.MovePlan.{MovePlan}
use Rattle.slot_split.specs.Packing.{with_records, packed}
use Rattle.slot_split.specs.Plans.{moves, moving, rests, move_plan_of, KeepsRecords, IsNewBlock}
use Rattle.slot_split.proofs.Parts.{filter-none}
use Rattle.slot_split.proofs.PackingLaws.{with_records-append}
use Rattle.slot_split.proofs.PlanLaws.{IsBlockAt, rests-next, moving-next, plan_none, plan_some, plan_keeps, new_blocks, rests_within}
use Rattle.slot_split.proofs.moves.move_plan.Goals as goal
use Rattle.slot_split.proofs.moves.move_plan.Goals.{After-loop-at, then-has_moving+in_ok-kept+in_ok-push, else-has_moving}

pub returns-then-not-any_moving-clause-plan : goal.returns-then-not-any_moving-clause-plan
returns-then-not-any_moving-clause-plan c =
    let left = c.new-rests.ensures in
    let right = c.new-right.ensures in
    (λ i. record { left = left i; right = right i })
    ∙ sym (plan_none c.args.size c.args.from c.args.to c.args.left.now c.args.last.now (sym c.any_moving.ensures ∙ c.if-not-any_moving.true))

pub loop-at-preserved : goal.loop-at-preserved
loop-at-preserved c =
    let from = c.args.from in
    let to = c.args.to in
    let size = c.args.size in
    let chain = c.args.left.now in
    let at = c.loop-at.at in
    let block = c.block-item.result in
    let already = moving from to (take at chain) in
    let first = packed size c.args.last.now in
    let here : IsBlockAt chain at block =
    (omega (arith, ap length c.items-block-items.ensures), c.block-item.is ∙ ap (λ (bs : List (List Record)). get_or bs at block) c.items-block-items.ensures) in
    elim c.if-has_moving.branch [
      | then-has_moving+in_ok-kept+in_ok-push w ↦
          let kept = w.in_ok-kept.ensures.kept in
          record {
            left =
                w.rests-is ∙ w.in_ok-push.ensures.ok ∙ (λ i. c.loop-at.invariant.left i ++ record { at = at; kept = kept i } ∷ [])
                ∙ sym (rests-next from to chain at block true here (sym c.has_moving.ensures ∙ w.if-has_moving.true));
            right =
                w.right-is ∙ w.in_ok-kept.ensures.moved
                ∙ ap (λ (bs : List (List Record)). with_records size bs (filter (moves from to) block)) c.loop-at.invariant.right
                ∙ sym (with_records-append size first already (filter (moves from to) block))
                ∙ ap (with_records size first) (sym (moving-next from to chain at block here));
          }
      | else-has_moving w ↦
          let none = sym c.has_moving.ensures ∙ w.if-has_moving.false in
          record {
            left = w.rests-is ∙ c.loop-at.invariant.left ∙ sym (rests-next from to chain at block false here none ∙ append-nil (rests from to 0 (take at chain)));
            right =
                w.right-is ∙ c.loop-at.invariant.right
                ∙ ap (with_records size first)
                (sym (moving-next from to chain at block here ∙ ap (λ (rs : List Record). already ++ rs) (filter-none (moves from to) block none) ∙ append-nil already));
          }
    ]

-- the whole plan, at the end
plan_is : (c : After-loop-at)
    → ◌≡◌ {A = MovePlan} (record { left = c.loop-at.rests; right = c.loop-at.right }) (move_plan_of c.args.size c.args.from c.args.to c.args.left.now c.args.last.now)
plan_is c =
    let from = c.args.from in
    let to = c.args.to in
    let size = c.args.size in
    let chain = c.args.left.now in
    let all : take c.loop-at.at chain ≡ chain = take_all c.loop-at.at chain (omega (arith, ap length c.items-block-items.ensures)) in
    let left : c.loop-at.rests ≡ rests from to 0 chain = c.loop-at.invariant.left ∙ ap (rests from to 0) all in
    let right : c.loop-at.right ≡ with_records size (packed size c.args.last.now) (moving from to chain) =
    c.loop-at.invariant.right ∙ ap (λ (bs : List (List Record)). with_records size (packed size c.args.last.now) (moving from to bs)) all in
    (λ i. record { left = left i; right = right i })
    ∙ sym (plan_some size from to chain c.args.last.now (sym c.any_moving.ensures ∙ c.if-not-any_moving.false))

pub returns-clause-plan : goal.returns-clause-plan
returns-clause-plan c = plan_is c

pub returns-clause-keeps : goal.returns-clause-keeps
returns-clause-keeps c =
    subst (KeepsRecords c.args.left.now c.args.last.now) (sym (plan_is c))
    (plan_keeps c.args.size c.args.from c.args.to c.args.left.now c.args.last.now)

pub returns-clause-rests : goal.returns-clause-rests
returns-clause-rests c = λ within.
    subst (λ (plan : MovePlan). All (λ (rest : Rest). records_size rest.kept ≤ c.args.size) plan.left) (sym (plan_is c))
    (rests_within c.args.size c.args.from c.args.to 0 c.args.left.now within)

pub returns-clause-blocks : goal.returns-clause-blocks
returns-clause-blocks c = λ within last_within.
    subst (λ (plan : MovePlan). All (IsNewBlock c.args.size) plan.right) (sym (plan_is c))
    (new_blocks c.args.size c.args.from c.args.to c.args.left.now c.args.last.now within last_within)
