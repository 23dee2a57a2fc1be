use Rattle.std.proofs.Common.{◌≡◌, ◌≢◌, ℕ, ◌<◌, List, ◌++◌, length, refl, sym, ap, subst, ◌∙◌, Bor, Some, None}
use Rattle.std.specs.declared.option.Option.{Option}
use Rattle.std.specs.Option.{option_copied}
use Rattle.lease_tree.specs.Edges.{text_of}
use Rattle.lease_tree.specs.Trees.{base_of, begins_with, next_after}
use Rattle.lease_tree.specs.declared.tree.TheConstants.{MOST_LISTED}
use Rattle.lease_tree.proofs.Filling.{IsFilled, left_from, filled_first, filled_next, fewer_next, filled_whole, filled_out, filled_full}
use Rattle.lease_tree.proofs.Joins.{are_seen}
use Rattle.lease_tree.proofs.Next.{next_is}
use Rattle.lease_tree.proofs.tree.Tree.fill.Goals.{then-items-eq-MOST_LISTED-via-then-items-eq-MOST_LISTED, then-items-eq-MOST_LISTED-via-else-items-eq-MOST_LISTED+then-not-is_in}
use Rattle.lease_tree.proofs.tree.Tree.fill.Goals as goal

pub loop-next-init : goal.loop-next-init
loop-next-init g c =
    let i = c.self.inside in
    let names = c.args.self.now in
    let after = c.args.after.now in
    let base = base_of (option_copied c.args.under) in
    let a = are_seen names i.bodies.entries i.leases c.self.view_is c.self.invariant in
    let next : option_copied c.first-next.result ≡ next_after (Some (base ++ after)) names =
    c.first-next.ensures ∙ next_is names i.bodies.entries i.leases a (Some (text_of c.start.result)) ∙ ap (λ (text : List ℕ). next_after (Some text) names) c.start.ensures in
    subst (λ (out : List (List ℕ)). IsFilled base names after (option_copied c.first-next.result) out) (sym c.requires) (filled_first base names after (option_copied c.first-next.result) a.ordered next)

pub returns-then-items-eq-MOST_LISTED : goal.returns-then-items-eq-MOST_LISTED
returns-then-items-eq-MOST_LISTED g c =
    let names = c.args.self.now in
    let after = c.args.after.now in
    let base = base_of (option_copied c.args.under) in
    let out = c.loop-next.out in
    let k = c.in-Some.name.now in
    elim c.then-items-eq-MOST_LISTED.branch [
      | then-items-eq-MOST_LISTED-via-then-items-eq-MOST_LISTED w ↦
          let full : length out ≡ MOST_LISTED = ap length (sym c.items.ensures) ∙ w.if-items-eq-MOST_LISTED.true in
          filled_full base names after (option_copied c.loop-next.next) out c.loop-next.invariant full
      | then-items-eq-MOST_LISTED-via-else-items-eq-MOST_LISTED+then-not-is_in w ↦
          let filled = subst (λ (next : Option (Bor (List ℕ))). IsFilled base names after (option_copied next) out) c.in-Some.is c.loop-next.invariant in
          filled_out base names after k out filled (sym (w.if-not-is_in.ensures ∙ ap (begins_with base) w.bytes.ensures.value))
    ]

pub loop-next-smaller : goal.loop-next-smaller
loop-next-smaller g c =
    let i = c.self.inside in
    let names = c.args.self.now in
    let base = base_of (option_copied c.args.under) in
    let a = are_seen names i.bodies.entries i.leases c.self.view_is c.self.invariant in
    let text = text_of c.skipped.result in
    let next = option_copied c.first-next-in-Some.result in
    let is : next ≡ next_after (Some text) names = c.first-next-in-Some.ensures ∙ next_is names i.bodies.entries i.leases a (Some text) in
    subst (λ (old : Option (Bor (List ℕ))). left_from base names next < left_from base names (option_copied old)) (sym c.in-Some.is) (fewer_next base names c.in-Some.name.now text next c.skipped.ensures.onward is)

pub loop-next-preserved : goal.loop-next-preserved
loop-next-preserved g c =
    let i = c.self.inside in
    let names = c.args.self.now in
    let after = c.args.after.now in
    let base = base_of (option_copied c.args.under) in
    let a = are_seen names i.bodies.entries i.leases c.self.view_is c.self.invariant in
    let text = text_of c.skipped.result in
    let out = c.loop-next.out in
    let next = option_copied c.first-next-in-Some.result in
    let is : next ≡ next_after (Some text) names = c.first-next-in-Some.ensures ∙ next_is names i.bodies.entries i.leases a (Some text) in
    let filled = subst (λ (old : Option (Bor (List ℕ))). IsFilled base names after (option_copied old) out) c.in-Some.is c.loop-next.invariant in
    let room : length out ≢ MOST_LISTED = λ full. c.if-items-eq-MOST_LISTED.false (ap length c.items.ensures ∙ full) in
    filled_next base names after c.in-Some.name.now text next out c.add_part.new.out a.ordered filled room c.skipped.ensures c.in_ok-add_part.ensures is

pub returns : goal.returns
returns g c =
    let names = c.args.self.now in
    let after = c.args.after.now in
    let base = base_of (option_copied c.args.under) in
    let out = c.loop-next.out in
    let filled = subst (λ (next : Option (Bor (List ℕ))). IsFilled base names after (option_copied next) out) c.in_default.is c.loop-next.invariant in
    filled_whole base names after None out filled refl
