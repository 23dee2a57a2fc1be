-- What a yield gives, from what its calls did.
use Rattle.std.proofs.Common.{◌≡◌, ℕ, ◌+◌, ◌⊎◌, inl, inr, cond, not, true, is_some, [], ◌∷◌, length, Some, None, Option, refl, sym, ap, ◌∙◌, arith}
use Rattle.std.specs.Option.{option_map, option_map_or, option_and_then}
use Rattle.slice_seq.specs.Slice.{SliceView}
use Rattle.slice_seq.specs.Purses.{Held, Purse, holding}
use Rattle.slice_seq.specs.Idle.{idle_slices, seated_slices}
use Rattle.block_seats.specs.Tables.{without}
use Rattle.block_seats.specs.Purses.{lowest, next_idle, first_block, place_of}
use Rattle.block_seats.specs.Noted.{noting_freed}
use Rattle.block_seats.specs.Seatings.{SeatingView, with_stray, TakesIdle}
use Rattle.block_home.specs.Calls.{GoesOut}
use Rattle.block_home.specs.Yields.{ParksLowest, IsYielded}
use Rattle.block_home.proofs.Held.{without_put}

-- a held slice has a block, or is without one
pub nothing_held : (purse : Purse) → next_idle purse ≡ None → first_block purse ≡ None → length purse ≡ 0
nothing_held [] idle seated = refl
nothing_held (e ∷ es) idle seated = by e.1.block refl
  where
    by : (o : Option ℕ) → e.1.block ≡ o → length (e ∷ es) ≡ 0
    by None is =
        let rest = idle_slices es in
        let clash = sym (ap (λ (o : Option ℕ). option_map (λ (x : ℕ × Held). (x.0, x.1.number)) (lowest (cond (not (is_some o)) (e ∷ rest) rest))) is) ∙ idle in
        cc
    by (Some block) is =
        let rest = seated_slices es in
        let here : option_and_then (λ (x : ℕ × Held). x.1.block) (lowest (cond (is_some e.1.block) (e ∷ rest) rest)) ≡ e.1.block
        = ap (λ (o : Option ℕ). option_and_then (λ (x : ℕ × Held). x.1.block) (lowest (cond (is_some o) (e ∷ rest) rest))) is in
        let clash = sym is ∙ sym here ∙ seated in
        cc

pub some_held : (purse : Purse) (block : ℕ) → first_block purse ≡ Some block → length purse ≡ 0 → ⊥
some_held [] block seated none = cc
some_held (e ∷ es) block seated none = omega arith

some_there : {X : Type 0} (o : Option X) → o ≡ None → is_some o ≡ true → ⊥
some_there None none some = cc
some_there (Some x) none some = cc

-- no slice is kept aside where none was before
no_stray : {A : Type 0} (old now : SeatingView) → old ≡ with_stray now → old.strays ≡ 0 → A
no_stray old now is none =
    let more : old.strays ≡ now.strays + 1 = ap (λ (v : SeatingView). v.strays) is in
    absurd (omega arith)

-- a slice without a block went
pub yields_idle : (user : ℕ) (slice : SliceView) (old now : SeatingView) → TakesIdle slice old now ⊎ (old ≡ with_stray now) → IsYielded user slice old now
yields_idle user slice old now taken = record {
  idle = λ some none. elim taken [ inl takes ↦ takes | inr is ↦ no_stray old now is none ];
  parked = λ full none. elim taken [ inl takes ↦ (let clash = sym takes.lowest ∙ full in cc) | inr is ↦ no_stray old now is none ];
  aside = λ some. taken;
}

-- a block was parked, and its slice went
module _ (user block : ℕ) (slice : SliceView) (old mid now : SeatingView) (lowest_is : first_block old.purse ≡ Some block) (full : next_idle old.purse ≡ None) (in_order : old.strays ≡ 0)
    (went : GoesOut user block old mid) (taken : TakesIdle slice mid now ⊎ (mid ≡ with_stray now)) where
  mid_strays : mid.strays ≡ 0
  mid_strays = ap (λ (v : SeatingView). v.strays) went.alike ∙ in_order

  takes : TakesIdle slice mid now
  takes = elim taken [ inl t ↦ t | inr is ↦ no_stray mid now is mid_strays ]

  place_is : place_of old.purse block ≡ Some (slice.id, slice.number)
  place_is = sym (went.idle full) ∙ takes.lowest

  abbrev alike : SeatingView → SeatingView
  alike v = record v { blocks = now.blocks; purse = now.purse; moves = now.moves }

  pub parks_lowest : ParksLowest user slice old now
  parks_lowest = record {
    block = block;
    lowest = lowest_is;
    place = place_is;
    size = takes.size ∙ ap (λ (v : SeatingView). v.size) went.alike;
    blocks = ap (λ (v : SeatingView). v.blocks) takes.rest ∙ went.blocks;
    purse = ap (λ (v : SeatingView). v.purse) takes.rest
        ∙ ap (λ (p : Purse). without slice.id p) (went.purse ∙ ap (λ (o : Option (ℕ × ℕ)). option_map_or (λ place. holding old.purse place.0 place.1 None) o old.purse) place_is)
        ∙ without_put old.purse slice.id (record { number = slice.number; block = None });
    moves = ap (λ (v : SeatingView). v.moves) takes.rest ∙ went.moves ∙ ap (noting_freed old.moves) place_is;
    alike = ap alike takes.rest ∙ ap alike went.alike;
  }

  pub yields_parked : IsYielded user slice old now
  yields_parked = record {
    idle = λ some none. absurd (some_there (next_idle old.purse) full some);
    parked = λ none strays. parks_lowest;
    aside = λ some. absurd (omega arith);
  }
