use Rattle.std.proofs.Common.{◌≡◌, ℕ, List, [], ◌∷◌, ◌++◌, true, sym, ap, ◌∙◌, Some}
use Rattle.std.specs.Option.{option_map}
use Rattle.std.specs.FinMap.{find}
use Rattle.std.proofs.lemmas.List.{append-nil}
use Rattle.far_words.specs.Paths.{bytes_cmp}
use Rattle.lease_tree.specs.Under.{is_under}
use Rattle.lease_tree.specs.Leases.{last_before, find_last}
use Rattle.lease_tree.proofs.Joins.{are_seen}
use Rattle.lease_tree.proofs.Lasts.{past_under, at, last_is, last_under_found, last_apart, last_missed}
use Rattle.lease_tree.proofs.Refusals.{there, none_is, constant_is}
use Rattle.lease_tree.proofs.tree.Tree.last_name.Goals.{in-Some+else-is_under, in_default}
use Rattle.lease_tree.proofs.tree.Tree.last_name.Goals as goal

pub returns : goal.returns
returns g c =
    let i = c.self.inside in
    let names = c.args.self.now in
    let path = c.args.path.now in
    let a = are_seen names i.bodies.entries i.leases c.self.view_is c.self.invariant in
    let last = ap (λ (text : List ℕ). last_before text i.leases) (append-nil (c.bytes.result.now ++ 48 ∷ []) ∙ ap past_under c.bytes.ensures.value) ∙ last_is (past_under path) names i.bodies.entries i.leases a in
    let itself : option_map (λ e. e.0) (find_last (at path) names) ≡ option_map (λ _. path) (find bytes_cmp path names) =
    elim c.match-last.branch [
      | in-Some+else-is_under w ↦
          last_apart path names w.in-Some.last.now a.ordered (sym (w.in-Some.ensures ∙ last)) (sym (w.if-is_under.ensures ∙ (λ j. is_under (w.bytes-in-Some.ensures.value j) (w.bytes-in-Some-2.ensures.value j))))
      | in_default w ↦ last_missed path names (sym (w.in_default.ensures ∙ last))
    ] in
    let none = none_is (find bytes_cmp path names) (there path names i.bodies.entries i.leases a ∙ sym c.if-contains_key.ensures) in
    sym (itself ∙ ap (option_map (λ _. path)) none)

pub returns-then-is_under : goal.returns-then-is_under
returns-then-is_under g c =
    let i = c.self.inside in
    let names = c.args.self.now in
    let path = c.args.path.now in
    let a = are_seen names i.bodies.entries i.leases c.self.view_is c.self.invariant in
    let last = ap (λ (text : List ℕ). last_before text i.leases) (append-nil (c.bytes.result.now ++ 48 ∷ []) ∙ ap past_under c.bytes.ensures.value) ∙ last_is (past_under path) names i.bodies.entries i.leases a in
    let under : is_under path c.in-Some.last.now ≡ true = sym (c.if-is_under.ensures ∙ (λ j. is_under (c.bytes-in-Some.ensures.value j) (c.bytes-in-Some-2.ensures.value j))) in
    ap Some c.copy.ensures ∙ sym (last_under_found path names c.in-Some.last.now (sym (c.in-Some.ensures ∙ last)) under)

pub returns-then-contains_key : goal.returns-then-contains_key
returns-then-contains_key g c =
    let i = c.self.inside in
    let names = c.args.self.now in
    let path = c.args.path.now in
    let a = are_seen names i.bodies.entries i.leases c.self.view_is c.self.invariant in
    let last = ap (λ (text : List ℕ). last_before text i.leases) (append-nil (c.bytes.result.now ++ 48 ∷ []) ∙ ap past_under c.bytes.ensures.value) ∙ last_is (past_under path) names i.bodies.entries i.leases a in
    let itself : option_map (λ e. e.0) (find_last (at path) names) ≡ option_map (λ _. path) (find bytes_cmp path names) =
    elim c.match-last.branch [
      | in-Some+else-is_under w ↦
          last_apart path names w.in-Some.last.now a.ordered (sym (w.in-Some.ensures ∙ last)) (sym (w.if-is_under.ensures ∙ (λ j. is_under (w.bytes-in-Some.ensures.value j) (w.bytes-in-Some-2.ensures.value j))))
      | in_default w ↦ last_missed path names (sym (w.in_default.ensures ∙ last))
    ] in
    let here = constant_is (find bytes_cmp path names) path (there path names i.bodies.entries i.leases a ∙ sym c.if-contains_key.ensures) in
    ap Some c.copy-then-contains_key.ensures ∙ sym (itself ∙ here)
