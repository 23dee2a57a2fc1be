-- A slice that goes from the hand to the tenant.
use Rattle.std.proofs.Common.{◌≡◌, Bool, true, false, cond, IsTrue, List, [], ◌∷◌, ◌++◌, reverse, refl, sym, ap, subst, ◌∙◌, Some, None}
use Rattle.std.specs.declared.option.Option.{Option}
use Rattle.std.specs.Option.{option_to_list}
use Rattle.std.proofs.lemmas.List.{reverse-append}
use Rattle.slice_seq.specs.Slice.{SliceView}
use Rattle.far_asks.specs.declared.request.Outcome.{Outcome}
use Rattle.far_history.specs.Entries.{Event, Grant}
use Rattle.far_io.specs.Faults.{Faults}
use Rattle.shelf_link.specs.Told.{Told}
use Rattle.far_history.specs.Histories.{State, fits}
use Rattle.tenant_world.specs.Views.{hands_back}
use Rattle.tenant_world.specs.Standing.{Sits}
use Rattle.far_core.specs.Cores.{CoreView, GrowsTenant, Gives}

-- the slice that was last is on top of the hand
pub top_of : (items rest : List SliceView) (popped : Option SliceView) (slice : SliceView) → items ≡ rest ++ option_to_list popped → popped ≡ Some slice → reverse items ≡ slice ∷ reverse rest
top_of items rest popped slice is some =
    ap reverse is ∙ ap (λ (o : Option SliceView). reverse (rest ++ option_to_list o)) some ∙ reverse-append rest (slice ∷ [])

handed : (b : Bool) (o : Option SliceView) (slice back : SliceView) → o ≡ cond b (Some slice) None → o ≡ Some back → (b ≡ true) × (back ≡ slice)
handed true o slice back is some = (refl, (let same : Some back ≡ Some slice = sym some ∙ is in cc))
handed false o slice back is some = cc

kept : (b : Bool) (o : Option SliceView) (slice : SliceView) → o ≡ cond b (Some slice) None → o ≡ None → b ≡ false
kept true o slice is none = cc
kept false o slice is none = refl

-- the core whose hand has this slice on top, and what the tenant did with it
module _ {K : Type 0} (told : K → Told) (faults : K → Faults) (old new : CoreView K) (slice : SliceView) (rest : List SliceView) (outcome : Outcome) (back : Option SliceView)
    (serves : GrowsTenant told faults old (Grant slice.id slice.number slice.size) outcome new)
    (handed_is : back ≡ cond (hands_back old.tenant slice) (Some slice) None)
    (fitting : (s : State) → Sits s old.tenant → IsTrue (fits old.tenant.terms s (Grant slice.id slice.number slice.size)) → back ≡ None)
    (others : new ≡ record old { hand = new.hand; tenant = new.tenant; moves = new.moves }) where
  pub gives_back : (slice' : SliceView) → back ≡ Some slice' → new.hand ≡ slice' ∷ rest → Gives told faults old slice rest outcome new
  gives_back slice' some hand =
      let both = handed (hands_back old.tenant slice) back slice slice' handed_is some in
      record {
        serves = serves;
        back = hand ∙ ap (λ (x : SliceView). x ∷ rest) both.1 ∙ ap (λ b. cond b (slice ∷ rest) rest) (sym both.0);
        kept = λ s sits fit. let none = fitting s sits fit in cc;
        rest = others;
      }

  pub gives_away : back ≡ None → new.hand ≡ rest → Gives told faults old slice rest outcome new
  gives_away none hand = record {
    serves = serves;
    back = hand ∙ ap (λ b. cond b (slice ∷ rest) rest) (sym (kept (hands_back old.tenant slice) back slice handed_is none));
    kept = λ s sits fit. hand;
    rest = others;
  }

-- so it is for the slice that a core's view has on top
pub gives_seen : {K : Type 0} (told : K → Told) (faults : K → Faults) (seen old new : CoreView K) (slice : SliceView) (rest : List SliceView) (outcome : Outcome) → seen ≡ old → seen.hand ≡ slice ∷ rest
    → Gives told faults seen slice rest outcome new → (top : SliceView) (hand : List SliceView) → old.hand ≡ top ∷ hand → Gives told faults old top hand outcome new
gives_seen {K} told faults seen old new slice rest outcome is has gives top hand now =
    let both : slice ∷ rest ≡ top ∷ hand = sym has ∙ ap (λ (v : CoreView K). v.hand) is ∙ now in
    let one : slice ≡ top = cc in
    let others : rest ≡ hand = cc in
    subst (λ (v : CoreView K). Gives told faults v top hand outcome new) is
    (subst (λ (x : SliceView). Gives told faults seen x hand outcome new) one (subst (λ (l : List SliceView). Gives told faults seen slice l outcome new) others gives))

-- and what an event did to a core's tenant, it did to that of the core's view
pub serves_seen : {K : Type 0} (told : K → Told) (faults : K → Faults) (seen old new : CoreView K) (event : Event) (outcome : Outcome) → seen ≡ old
    → GrowsTenant told faults seen event outcome new → GrowsTenant told faults old event outcome new
serves_seen {K} told faults seen old new event outcome is grows = subst (λ (v : CoreView K). GrowsTenant told faults v event outcome new) is grows
