use Rattle.std.proofs.Common.{◌≡◌, List, [], ◌∷◌, ◌++◌, Result, IfErr, map, sym, ◌∙◌, ap, subst, string_bytes, String, Global}
use Rattle.std.proofs.lemmas.List.{map-append}
use Rattle.std.proofs.lemmas.Result.{err_from_is_err_and}
use Rattle.karma_rule.specs.declared.shape.Shape.{Shape}
use Rattle.karma_rule.specs.Limits.{IsStore, shape_of}
use Rattle.run_end.specs.declared.faults.WordsFault.{WordsFault}
use Rattle.far_top.specs.Commands.{IsStoreWords}
use Rattle.far_top.proofs.Words.{store_parts, store_is, store_made, store_unbroken}
use Rattle.far_top.proofs.command.read_store.Goals as goal

-- the texts of words whose last one is apart
split_texts : (words others : List (String Global)) (last : String Global) → words ≡ others ++ last ∷ [] → map string_bytes words ≡ map string_bytes others ++ string_bytes last ∷ []
split_texts words others last split = ap (map string_bytes) split ∙ map-append string_bytes others (last ∷ [])

pub returns-in_err-plan-clause-none : goal.returns-in_err-plan-clause-none
returns-in_err-plan-clause-none c =
    let split = split_texts c.args.words.now c.in-Some.others.now c.in-Some.last.now c.in-Some.ensures.cases.0 in
    let none : (shape : Shape) → IsStoreWords (map string_bytes c.args.words.now) shape → ⊥ = λ shape store. c.in_err-plan.ensures.none _ (store_parts _ _ _ shape split store).0 in
    let p = err_from_is_err_and c.from_residual.result c.from_residual.ensures.1 in
    subst (λ (r : Result Shape WordsFault). IfErr r (λ fault. (shape : Shape) → IsStoreWords (map string_bytes c.args.words.now) shape → ⊥)) (sym p.1) none

pub returns-then-plan-ne1-clause-none : goal.returns-then-plan-ne1-clause-none
returns-then-plan-ne1-clause-none c = λ shape store.
    let split = split_texts c.args.words.now c.in-Some.others.now c.in-Some.last.now c.in-Some.ensures.cases.0 in
    let same = store_is _ _ _ shape c.in_ok-plan.plan c.in_ok-slice.slice split store c.in_ok-plan.ensures.shape c.in_ok-slice.ensures.value in
    c.if-plan-ne1.true (sym (ap (λ (s : Shape). s.users) same) ∙ store.one_user)

pub returns-in-Ok-clause-shape : goal.returns-in-Ok-clause-shape
returns-in-Ok-clause-shape c =
    let split = split_texts c.args.words.now c.in-Some.others.now c.in-Some.last.now c.in-Some.ensures.cases.0 in
    store_made _ _ _ c.in-Ok.shape c.in_ok-plan.plan c.in_ok-slice.slice split c.in_ok-plan.ensures.shape c.if-plan-ne1.false c.in_ok-slice.ensures.spelled c.in-Ok.ensures.shape c.in-Ok.ensures.within

pub returns-in-Err-clause-none : goal.returns-in-Err-clause-none
returns-in-Err-clause-none c = λ shape store.
    let split = split_texts c.args.words.now c.in-Some.others.now c.in-Some.last.now c.in-Some.ensures.cases.0 in
    let same = store_is _ _ _ shape c.in_ok-plan.plan c.in_ok-slice.slice split store c.in_ok-plan.ensures.shape c.in_ok-slice.ensures.value in
    let within : IsStore (shape_of 1 c.in_ok-plan.plan.share.fair c.in_ok-plan.plan.share.floor c.in_ok-plan.plan.credits c.in_ok-slice.slice) =
    subst (λ users. IsStore (shape_of users c.in_ok-plan.plan.share.fair c.in_ok-plan.plan.share.floor c.in_ok-plan.plan.credits c.in_ok-slice.slice)) c.if-plan-ne1.false (subst IsStore same store.within) in
    store_unbroken _ _ within c.in-Err.ensures.broken
