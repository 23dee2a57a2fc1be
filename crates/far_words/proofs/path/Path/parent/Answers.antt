use Rattle.std.proofs.Common.{◌≡◌, ℕ, ◌≤◌, List, length, take, true, sym, subst, ap, ◌∙◌, arith, Some}
use Rattle.std.proofs.lemmas.List.{length-take-le}
use Rattle.far_words.specs.Paths.{is_path, parent_of}
use Rattle.far_words.proofs.Grammar.{path_sized}
use Rattle.far_words.proofs.Parents.{IsLastSlash, parent_of-last_slash, is_path-last_slash, parent_of-no_slash}
use Rattle.far_words.proofs.path.Path.parent.Goals as goal

pub held-requires : goal.held-requires
held-requires c =
    let sized = path_sized c.bytes-text.result.now (subst (λ (text : List ℕ). is_path text ≡ true) (sym c.bytes-text.ensures.value) c.bytes-text.ensures.grammar) in
    let below = c.in-Some.ensures.some.0 in
    omega (arith, length-take-le c.in-Some.at c.bytes-text.result.now)

-- the array holds the text up to its last slash
held_text : (at : ℕ) (text array : List ℕ) → at ≤ length text → take (length (take at text)) array ≡ take at text → take at array ≡ take at text
held_text at text array within held = ap (λ n. take n array) (sym (length-take-le at text within)) ∙ held

pub invariant_of-result : goal.invariant_of-result
invariant_of-result c =
    let text = c.bytes-text.result.now in
    let grammar : is_path text ≡ true = subst (λ (t : List ℕ). is_path t ≡ true) (sym c.bytes-text.ensures.value) c.bytes-text.ensures.grammar in
    let sized = path_sized text grammar in
    let last : IsLastSlash text c.in-Some.at = record { below = c.in-Some.ensures.some.0; here = c.in-Some.ensures.some.1; none_after = c.in-Some.ensures.last } in
    let within : c.in-Some.at ≤ length text = omega arith in
    (omega arith, subst (λ (t : List ℕ). is_path t ≡ true) (sym (held_text c.in-Some.at text c.held.result within c.held.ensures)) (is_path-last_slash text c.in-Some.at last grammar))

pub returns-in-Some : goal.returns-in-Some
returns-in-Some c =
    let text = c.bytes-text.result.now in
    let last : IsLastSlash text c.in-Some.at = record { below = c.in-Some.ensures.some.0; here = c.in-Some.ensures.some.1; none_after = c.in-Some.ensures.last } in
    let within : c.in-Some.at ≤ length text = omega arith in
    ap Some (held_text c.in-Some.at text c.held.result within c.held.ensures)
    ∙ sym (parent_of-last_slash text c.in-Some.at last)
    ∙ ap parent_of c.bytes-text.ensures.value

pub returns-in-None : goal.returns-in-None
returns-in-None c = sym (ap parent_of (sym c.bytes-text.ensures.value) ∙ parent_of-no_slash c.bytes-text.result.now c.in-None.ensures.none)
