-- Records as they are held: one more at the end.
use Rattle.std.proofs.Common.{◌≡◌, ℕ, ◌+◌, ◌-◌, ◌^◌, ◌<◌, ◌≤◌, List, [], ◌∷◌, ◌++◌, length, get_or, take, drop, refl, sym, ap, subst, ◌∙◌, append-nil, length-append, arith}
use Rattle.std.specs.Prelude.{All, slice_range}
use Rattle.std.proofs.Math.Seq.{drop-append-add}
use Rattle.std.proofs.lemmas.List.{take_at, drop_at, take-append-le, drop-append-le, length-drop, length-map, drop-drop, map-append, get_or-map}
use Rattle.std.proofs.lemmas.List.Elements.{All-head, All-tail, All-push, All-weaker, All-get_or}
use Rattle.table_block.specs.declared.spots.Spot.{Spot}
use Rattle.table_block.specs.Records.{Record, record_size, records_size, Fits, spelling, spelled}
use Rattle.table_block.specs.Spots.{IsWithin, spot_of}
use Rattle.table_block.proofs.Spelling.{length-spelling, length-spelled, spelled-append, behind_counts}
use Rattle.slot_split.specs.Held.{record_at, records_at, AreHeld}

-- what lies within the bytes stays
slice-append : (bytes more : List ℕ) (i j : ℕ) → i ≤ j → j ≤ length bytes → slice_range (bytes ++ more) i j ≡ slice_range bytes i j
slice-append bytes more i j order within =
    ap (take (j - i)) (drop-append-le i bytes more (omega arith))
    ∙ take-append-le (j - i) (drop i bytes) more (omega (arith, length-drop i bytes))

at-append : (bytes more : List ℕ) (spot : Spot) → IsWithin bytes spot → record_at (bytes ++ more) spot ≡ record_at bytes spot
at-append bytes more spot within =
    let key = slice-append bytes more (spot.at + 4) spot.value within.key (omega (arith, within.value, within.end)) in
    let value = slice-append bytes more spot.value spot.end within.value within.end in
    (λ i. (key i, value i))

all-append : (bytes more : List ℕ) (spots : List Spot) → All (IsWithin bytes) spots → records_at (bytes ++ more) spots ≡ records_at bytes spots
all-append bytes more [] within = refl
all-append bytes more (spot ∷ spots) within =
    let first = at-append bytes more spot (All-head (IsWithin bytes) spot spots within) in
    let others = all-append bytes more spots (All-tail (IsWithin bytes) spot spots within) in
    (λ i. first i ∷ others i)

-- and what is put behind them is found there
last_at : (bytes : List ℕ) (r : Record) → record_at (bytes ++ spelling r) (spot_of (length bytes) r) ≡ r
last_at bytes r =
    let at = length bytes in
    let texts : drop (at + 4) (bytes ++ spelling r) ≡ r.0 ++ (r.1 ++ []) =
    drop-append-add bytes (spelling r) 4 ∙ ap (drop 4) (sym (append-nil (spelling r))) ∙ behind_counts r [] in
    let key_long : at + 4 + length r.0 - (at + 4) ≡ length r.0 = omega arith in
    let value_long : at + (4 + length r.0 + length r.1) - (at + 4 + length r.0) ≡ length r.1 = omega arith in
    let key : slice_range (bytes ++ spelling r) (at + 4) (at + 4 + length r.0) ≡ r.0 =
    (λ i. take (key_long i) (texts i)) ∙ take_at r.0 (r.1 ++ []) (length r.0) refl in
    let behind : drop (at + 4 + length r.0) (bytes ++ spelling r) ≡ r.1 ++ [] =
    sym (drop-drop (length r.0) (at + 4) (bytes ++ spelling r)) ∙ ap (drop (length r.0)) texts ∙ drop_at r.0 (r.1 ++ []) (length r.0) refl in
    let value : slice_range (bytes ++ spelling r) (at + 4 + length r.0) (at + (4 + length r.0 + length r.1)) ≡ r.1 =
    (λ i. take (value_long i) (behind i)) ∙ take_at r.1 [] (length r.1) refl in
    (λ i. (key i, value i))

-- one record more, behind the others
pub pushed_are : (bytes : List ℕ) (spots : List Spot) (r : Record) → AreHeld bytes spots
    → records_at (bytes ++ spelling r) (spots ++ spot_of (length bytes) r ∷ []) ≡ records_at bytes spots ++ r ∷ []
pushed_are bytes spots r held =
    map-append (record_at (bytes ++ spelling r)) spots (spot_of (length bytes) r ∷ [])
    ∙ (λ i. all-append bytes (spelling r) spots held.within i ++ last_at bytes r i ∷ [])

pub pushed_held : (bytes : List ℕ) (spots : List Spot) (r : Record) → AreHeld bytes spots → Fits r
    → length bytes + record_size r < 2 ^ 32 → AreHeld (bytes ++ spelling r) (spots ++ spot_of (length bytes) r ∷ [])
pushed_held bytes spots r held fits few =
    let records = records_at bytes spots in
    let are = pushed_are bytes spots r held in
    let long : length (bytes ++ spelling r) ≡ length bytes + record_size r =
    length-append bytes (spelling r) ∙ ap (λ (n : ℕ). length bytes + n) (length-spelling r) in
    record {
      fit = subst (λ (rs : List Record). All Fits rs) (sym are) (All-push Fits records r held.fit fits);
      bytes_are =
          ap (λ (t : List ℕ). t ++ spelling r) held.bytes_are
          ∙ ap (λ (t : List ℕ). spelled records ++ t) (sym (append-nil (spelling r)))
          ∙ sym (spelled-append records (r ∷ []))
          ∙ ap spelled (sym are);
      within =
          All-push (IsWithin (bytes ++ spelling r)) spots (spot_of (length bytes) r)
          (All-weaker (IsWithin bytes) (IsWithin (bytes ++ spelling r)) wider spots held.within)
          (record { key = omega arith; value = omega arith; end = omega (arith, long) });
      few = omega (arith, long);
    }
  where
    wider : (spot : Spot) → IsWithin bytes spot → IsWithin (bytes ++ spelling r) spot
    wider spot within = record { key = within.key; value = within.value; end = omega (arith, within.end, length-append bytes (spelling r)) }

-- their bytes are counted by their sizes
pub held_size : (bytes : List ℕ) (spots : List Spot) → AreHeld bytes spots → length bytes ≡ records_size (records_at bytes spots)
held_size bytes spots held = ap length held.bytes_are ∙ length-spelled (records_at bytes spots)

-- as it was put: the bytes behind the others, and its place
pub put_held : (bytes more key value : List ℕ) (spots all : List Spot) (spot : Spot) → AreHeld bytes spots → length key < 2 ^ 16 → length value < 2 ^ 16
    → length bytes + 4 + length key + length value < 2 ^ 32 → more ≡ bytes ++ spelling (key, value) → all ≡ spots ++ spot ∷ []
    → spot.at ≡ length bytes → spot.value ≡ length bytes + 4 + length key → spot.end ≡ length bytes + 4 + length key + length value
    → AreHeld more all × (records_at more all ≡ records_at bytes spots ++ (key, value) ∷ [])
put_held bytes more key value spots all spot held key_fits value_fits few more_is all_is at_is value_is end_is =
    let end : spot.end ≡ length bytes + (4 + length key + length value) = omega arith in
    let spot_is : spot ≡ spot_of (length bytes) (key, value) = (λ i. record { at = at_is i; value = value_is i; end = end i }) in
    let all_are : all ≡ spots ++ spot_of (length bytes) (key, value) ∷ [] = all_is ∙ ap (λ (s : Spot). spots ++ s ∷ []) spot_is in
    let fits : Fits (key, value) = record { key = key_fits; value = value_fits } in
    let limit : length bytes + record_size (key, value) < 2 ^ 32 = omega arith in (
      coe 1 0 (i. AreHeld (more_is i) (all_are i)) (pushed_held bytes spots (key, value) held fits limit),
      (λ i. records_at (more_is i) (all_are i)) ∙ pushed_are bytes spots (key, value) held,
    )

-- each of them fits its counts
pub held_fits : (bytes : List ℕ) (spots : List Spot) → AreHeld bytes spots → (i : ℕ) (spot : Spot) → i < length spots → spot ≡ get_or spots i spot
    → Fits (record_at bytes spot)
held_fits bytes spots held i spot within is =
    let at : get_or (records_at bytes spots) i (record_at bytes spot) ≡ record_at bytes spot =
    get_or-map (record_at bytes) spots i spot (record_at bytes spot) within ∙ ap (record_at bytes) (sym is) in
    subst Fits at
    (All-get_or Fits (records_at bytes spots) i (record_at bytes spot) (omega (arith, length-map spots (record_at bytes))) held.fit)
