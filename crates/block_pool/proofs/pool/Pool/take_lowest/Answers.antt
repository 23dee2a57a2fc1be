use Rattle.std.proofs.Common.{◌≡◌, ℕ, ◌<◌, false, is_some, List, [], ◌∷◌, length, map, get_or, set, sym, ap, subst, ◌∙◌, arith, Some, None}
use Rattle.std.specs.Prelude.{All}
use Rattle.std.specs.declared.option.Option.{Option}
use Rattle.std.specs.Ordering.{nat_cmp}
use Rattle.std.specs.FinMap.{find}
use Rattle.std.proofs.lemmas.Bool.{false≢true}
use Rattle.std.proofs.lemmas.List.{map-set, length-set}
use Rattle.id_set.specs.Tables.{entries_of}
use Rattle.slice_seq.specs.Slice.{SliceView}
use Rattle.block_pool.specs.Inside.{AreInPlace}
use Rattle.block_pool.proofs.Places.{IsLowest, lowest_is, lowest_entry, no_entry, others_above, lowest_gone, in_place-emptied}
use Rattle.block_pool.proofs.pool.Pool.take_lowest.Goals as goal

pub returns-in_err-id-clause-none : goal.returns-in_err-id-clause-none
returns-in_err-id-clause-none c = (
  λ _. ap (λ v. v.slices) (sym c.self.view_is) ∙ no_entry c.self.inside.places.items c.self.inside.free c.self.invariant.free (sym c.first.ensures ∙ c.in_err-id.was),
  λ _. ap (λ o. is_some o) c.from_residual.ensures,
)

pub emptied-requires : goal.emptied-requires
emptied-requires c = (lowest_is c.self.inside.places.items c.self.inside.free c.in_ok-id.id c.self.invariant.free (sym c.first.ensures ∙ c.in_ok-id.was)).there

pub invariant_of-self : goal.invariant_of-self
invariant_of-self c =
    let places = c.self.inside.places.items in
    let id : ℕ = c.in_ok-id.id in
    let lowest = lowest_is places c.self.inside.free id c.self.invariant.free (sym c.first.ensures ∙ c.in_ok-id.was) in
    record {
      free = c.remove.ensures.members ∙ ap (λ flags. set flags id false) c.self.invariant.free ∙ sym (map-set is_some places id None) ∙ ap (map is_some) (sym c.emptied.ensures.places);
      ids = subst AreInPlace (sym c.emptied.ensures.places) (in_place-emptied places id lowest.inside c.self.invariant.ids);
      limit = omega (arith, ap (λ xs. length xs) c.emptied.ensures.places, length-set {A = Option SliceView}, c.self.invariant.limit);
    }

-- the slice that came out is the first entry's, and stands under its own id
module _ (places new : List (Option SliceView)) (id : ℕ) (slice : SliceView) (lowest : IsLowest places id) (here : get_or places id None ≡ Some slice) (ids : AreInPlace places) (left : new ≡ set places id None) where
  own : slice.id ≡ id
  own = ids.each id slice here

  taken : entries_of places ≡ (slice.id, slice) ∷ entries_of new
  taken = lowest_entry places id slice lowest here ∙ (λ i. (sym own i, slice) ∷ entries_of (sym left i))

  others : All (λ e. slice.id < e.0) (entries_of new)
  others =
      subst (λ xs. All (λ e. slice.id < e.0) (entries_of xs)) (sym left)
      (subst (λ (k : ℕ). All (λ e. k < e.0) (entries_of (set places id None))) (sym own) (others_above places id lowest))

  gone : find nat_cmp slice.id (entries_of new) ≡ None
  gone = (λ i. find nat_cmp (own i) (entries_of (left i))) ∙ lowest_gone places id lowest

pub returns-clause-none : goal.returns-clause-none
returns-clause-none c = (
  λ e. absurd (false≢true (sym e)),
  λ none.
      let places = c.self.inside.places.items in
      let lowest = lowest_is places c.self.inside.free c.in_ok-id.id c.self.invariant.free (sym c.first.ensures ∙ c.in_ok-id.was) in
      let some = taken places c.emptied.new.places.items c.in_ok-id.id c.emptied.result lowest (sym c.emptied.ensures.slice) c.self.invariant.ids c.emptied.ensures.places in
      let empty : entries_of places ≡ [] = ap (λ v. v.slices) c.self.view_is ∙ none in
      cc,
)

pub returns-clause-taken : goal.returns-clause-taken
returns-clause-taken c =
    let places = c.self.inside.places.items in
    let lowest = lowest_is places c.self.inside.free c.in_ok-id.id c.self.invariant.free (sym c.first.ensures ∙ c.in_ok-id.was) in
    ap (λ v. v.slices) (sym c.self.view_is)
    ∙ taken places c.emptied.new.places.items c.in_ok-id.id c.emptied.result lowest (sym c.emptied.ensures.slice) c.self.invariant.ids c.emptied.ensures.places

pub returns-clause-lowest : goal.returns-clause-lowest
returns-clause-lowest c =
    let places = c.self.inside.places.items in
    let lowest = lowest_is places c.self.inside.free c.in_ok-id.id c.self.invariant.free (sym c.first.ensures ∙ c.in_ok-id.was) in
    others places c.emptied.new.places.items c.in_ok-id.id c.emptied.result lowest (sym c.emptied.ensures.slice) c.self.invariant.ids c.emptied.ensures.places

pub returns-clause-away : goal.returns-clause-away
returns-clause-away c =
    let places = c.self.inside.places.items in
    let lowest = lowest_is places c.self.inside.free c.in_ok-id.id c.self.invariant.free (sym c.first.ensures ∙ c.in_ok-id.was) in
    gone places c.emptied.new.places.items c.in_ok-id.id c.emptied.result lowest (sym c.emptied.ensures.slice) c.self.invariant.ids c.emptied.ensures.places
