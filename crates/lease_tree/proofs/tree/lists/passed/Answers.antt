use Rattle.std.proofs.Common.{◌≡◌, ℕ, ◌<◌, ◌≤◌, List, [], ◌∷◌, ◌++◌, length, take, slice_index, ap, sym, subst, ◌∙◌, append_assoc}
use Rattle.std.specs.Option.{option_copied}
use Rattle.far_words.specs.Paths.{slash}
use Rattle.lease_tree.specs.Lists.{IsPassed}
use Rattle.lease_tree.specs.Trees.{base_of}
use Rattle.lease_tree.proofs.Passing.{passed_under, passed_alone}
use Rattle.lease_tree.proofs.tree.lists.passed.Goals as goal

pub returns-in-Some : goal.returns-in-Some
returns-in-Some c =
    let base = base_of (option_copied c.args.under) in
    let name = c.args.name.now in
    let at = c.in-Some.at in
    let facts = c.in-Some.ensures in
    let is = c.bytes-text.ensures.value in
    let text = append_assoc (take at c.bytes-text.result.now) (slash ∷ []) (255 ∷ []) ∙ ap (λ (t : List ℕ). take at t ++ slash ∷ 255 ∷ []) is in
    let from : length base ≤ at = subst (λ n. n ≤ at) c.base_len.ensures facts.0 in
    let below : at < length name = subst (λ (t : List ℕ). at < length t) is facts.1 in
    let here : slice_index name at ≡ slash = subst (λ (t : List ℕ). slice_index t at ≡ slash) is facts.2 in
    subst (λ (t : List ℕ). IsPassed base name t) (sym text) (passed_under base name at c.requires from below here)

pub returns-in-None : goal.returns-in-None
returns-in-None c =
    let base = base_of (option_copied c.args.under) in
    let name = c.args.name.now in
    subst (λ (t : List ℕ). IsPassed base name t) (sym c.at_name.ensures) (passed_alone base name)
