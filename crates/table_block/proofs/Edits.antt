-- A record put into a block, changed and taken out.
use Rattle.std.proofs.Common.{◌≡◌, ℕ, ◌+◌, ◌^◌, ◌<◌, ◌≤◌, suc, List, [], ◌∷◌, ◌++◌, length, min, take, drop, refl, sym, ap, ◌∙◌, append_assoc, append-nil, take-append-drop, arith}
use Rattle.std.specs.Prelude.{All}
use Rattle.std.specs.Int.{w16, to_be_bytes}
use Rattle.std.proofs.Math.Seq.{take-append-add, drop-append-add}
use Rattle.std.proofs.lemmas.List.{take_at, drop_at, take-take}
use Rattle.std.proofs.lemmas.List.Elements.{All-nil, All-cons, All-append, All-head, All-tail, All-push}
use Rattle.table_block.specs.declared.spots.Spot.{Spot}
use Rattle.table_block.specs.Records.{Record, record_size, Fits, spelling, spelled, IsBlock}
use Rattle.table_block.specs.Spots.{IsAt}
use Rattle.table_block.proofs.Spelling.{length-spelling, spelled-append, parted}

-- the records before a place, and those from it on
All-front : (xs ys : List Record) → All Fits (xs ++ ys) → All Fits xs
All-front [] ys all = All-nil Fits
All-front (x ∷ xs) ys all = All-cons Fits x xs (All-head Fits x (xs ++ ys) all) (All-front xs ys (All-tail Fits x (xs ++ ys) all))

All-back : (xs ys : List Record) → All Fits (xs ++ ys) → All Fits ys
All-back [] ys all = all
All-back (x ∷ xs) ys all = All-back xs ys (All-tail Fits x (xs ++ ys) all)

-- at the end
pub inserted : (bytes more key value : List ℕ) (records : List Record) → length key < 2 ^ 16 → length value < 2 ^ 16
    → more ≡ bytes ++ spelling (key, value) → IsBlock bytes records → IsBlock more (records ++ (key, value) ∷ [])
inserted bytes more key value records key_fits value_fits more_is is = record {
  fit = All-push Fits records (key, value) is.fit (record { key = key_fits; value = value_fits });
  bytes_are = more_is ∙ ap (λ (t : List ℕ). t ++ spelling (key, value)) is.bytes_are
      ∙ ap (λ (t : List ℕ). spelled records ++ t) (sym (append-nil (spelling (key, value)))) ∙ sym (spelled-append records ((key, value) ∷ []));
}

-- a record's bytes one after the other, as they were added
pub added : (bytes key value : List ℕ) → ((((bytes ++ to_be_bytes w16 (length key)) ++ to_be_bytes w16 (length value)) ++ key) ++ value) ≡ bytes ++ spelling (key, value)
unfolding spelling
added bytes key value = simp append_assoc

-- the counts and the key of a record at the front
front_of_record : (r : Record) (rest : List ℕ) → take (4 + length r.0) (spelling r ++ rest) ≡ to_be_bytes w16 (length r.0) ++ to_be_bytes w16 (length r.1) ++ r.0
unfolding spelling
front_of_record r rest =
    let four : 4 + length r.0 ≡ suc (suc (suc (suc (length r.0)))) = omega arith in
    let texts : (r.0 ++ r.1) ++ rest ≡ r.0 ++ (r.1 ++ rest) = append_assoc r.0 r.1 rest in
    ap (λ (n : ℕ). take n (spelling r ++ rest)) four
    ∙ ap (λ (t : List ℕ). to_be_bytes w16 (length r.0) ++ to_be_bytes w16 (length r.1) ++ t) (ap (take (length r.0)) texts ∙ take_at r.0 (r.1 ++ rest) (length r.0) refl)

regroup : (lead key value rest : List ℕ) (m n : ℕ) → (lead ++ (to_be_bytes w16 m ++ to_be_bytes w16 n ++ key)) ++ value ++ rest
    ≡ lead ++ (to_be_bytes w16 m ++ (to_be_bytes w16 n ++ (key ++ (value ++ rest))))
regroup lead key value rest m n = simp append_assoc

spelled_of : (lead key value rest : List ℕ) → (lead ++ to_be_bytes w16 (length key)) ++ to_be_bytes w16 (length value) ++ (key ++ (value ++ rest)) ≡ lead ++ (spelling (key, value) ++ rest)
spelled_of lead key value rest =
    append_assoc (lead ++ to_be_bytes w16 (length key)) (to_be_bytes w16 (length value)) (key ++ (value ++ rest))
    ∙ append_assoc lead (to_be_bytes w16 (length key)) (to_be_bytes w16 (length value) ++ (key ++ (value ++ rest)))
    ∙ ap (λ (t : List ℕ). lead ++ t) (parted key value rest)

module _ (bytes : List ℕ) (spot : Spot) (before : List Record) (r : Record) (after : List Record) (is : IsAt bytes spot before r after) where
  at_is : spot.at ≡ length (spelled before)
  at_is = ap (λ (s : Spot). s.at) is.spot_is

  end_is : spot.end ≡ length (spelled before) + record_size r
  end_is = ap (λ (s : Spot). s.end) is.spot_is

  value_is : spot.value ≡ length (spelled before) + (4 + length r.0)
  value_is = let v : spot.value ≡ length (spelled before) + 4 + length r.0 = ap (λ (s : Spot). s.value) is.spot_is in omega arith

  bytes_parted : bytes ≡ spelled before ++ (spelling r ++ spelled after)
  bytes_parted = is.block.bytes_are ∙ spelled-append before (r ∷ after)

  front_is : take spot.at bytes ≡ spelled before
  front_is = ap (take spot.at) bytes_parted ∙ take_at (spelled before) (spelling r ++ spelled after) spot.at (sym at_is)

  back_is : drop spot.end bytes ≡ spelled after
  back_is =
      ap (drop spot.end) bytes_parted
      ∙ ap (λ (n : ℕ). drop n (spelled before ++ (spelling r ++ spelled after))) end_is
      ∙ drop-append-add (spelled before) (spelling r ++ spelled after) (record_size r)
      ∙ drop_at (spelling r) (spelled after) (record_size r) (length-spelling r)

  -- taken out: the bytes behind it stand in its place
  pub removed : (less : List ℕ) → take (min spot.end spot.at) less ≡ take (min spot.end spot.at) bytes → drop spot.at less ≡ drop spot.end bytes
      → IsBlock less (before ++ after)
  removed less front tail =
      let at : min spot.end spot.at ≡ spot.at = omega (arith, at_is, end_is) in
      record {
        fit = All-append Fits before after (All-front before (r ∷ after) is.block.fit) (All-tail Fits r after (All-back before (r ∷ after) is.block.fit));
        bytes_are =
            sym (take-append-drop spot.at less)
            ∙ (λ i. (ap (λ (n : ℕ). take n less) (sym at) ∙ front ∙ ap (λ (n : ℕ). take n bytes) at ∙ front_is) i ++ (tail ∙ back_is) i)
            ∙ sym (spelled-append before after);
      }

  -- changed: the bytes behind it stand behind the new value, and the value and its count are written
  pub replaced : (moved valued counted value : List ℕ) → length value < 2 ^ 16
      → take (min spot.end (spot.value + length value)) moved ≡ take (min spot.end (spot.value + length value)) bytes
      → drop (spot.value + length value) moved ≡ drop spot.end bytes
      → valued ≡ take spot.value moved ++ value ++ drop (spot.value + length value) moved
      → counted ≡ take (spot.at + 2) valued ++ to_be_bytes w16 (length value) ++ drop (spot.at + 2 + 2) valued
      → IsBlock counted (before ++ (r.0, value) ∷ after)
  replaced moved valued counted value fits front tail valued_is counted_is =
      let lead = spelled before in
      let rest = spelled after in
      let least = min spot.end (spot.value + length value) in
      let below : spot.value ≤ least = omega (arith, at_is, end_is, value_is) in
      let front_of_value : take spot.value moved ≡ lead ++ (to_be_bytes w16 (length r.0) ++ to_be_bytes w16 (length r.1) ++ r.0) =
      sym (take-take spot.value least moved below) ∙ ap (take spot.value) front ∙ take-take spot.value least bytes below
      ∙ (λ i. take (value_is i) (bytes_parted i)) ∙ take-append-add lead (spelling r ++ rest) (4 + length r.0)
      ∙ ap (λ (t : List ℕ). lead ++ t) (front_of_record r rest) in
      let valued_parted : valued ≡ lead ++ (to_be_bytes w16 (length r.0) ++ (to_be_bytes w16 (length r.1) ++ (r.0 ++ (value ++ rest)))) =
      valued_is ∙ (λ i. front_of_value i ++ value ++ (tail ∙ back_is) i) ∙ regroup lead r.0 value rest (length r.0) (length r.1) in
      let counted_front : take (spot.at + 2) valued ≡ lead ++ to_be_bytes w16 (length r.0) =
      (λ i. take (at_is i + 2) (valued_parted i))
      ∙ take-append-add lead (to_be_bytes w16 (length r.0) ++ (to_be_bytes w16 (length r.1) ++ (r.0 ++ (value ++ rest)))) 2 in
      let four : spot.at + 2 + 2 ≡ length lead + 4 = omega (arith, at_is) in
      let counted_back : drop (spot.at + 2 + 2) valued ≡ r.0 ++ (value ++ rest) =
      (λ i. drop (four i) (valued_parted i))
      ∙ drop-append-add lead (to_be_bytes w16 (length r.0) ++ (to_be_bytes w16 (length r.1) ++ (r.0 ++ (value ++ rest)))) 4 in
      let key = (All-head Fits r after (All-back before (r ∷ after) is.block.fit)).key in
      record {
        fit =
            All-append Fits before ((r.0, value) ∷ after) (All-front before (r ∷ after) is.block.fit)
            (All-cons Fits (r.0, value) after (record { key = key; value = fits }) (All-tail Fits r after (All-back before (r ∷ after) is.block.fit)));
        bytes_are =
            counted_is ∙ (λ i. counted_front i ++ to_be_bytes w16 (length value) ++ counted_back i)
            ∙ spelled_of lead r.0 value rest
            ∙ sym (spelled-append before ((r.0, value) ∷ after));
      }
