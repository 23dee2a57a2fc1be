-- A walk over a block's records, and what it has found.
use Rattle.std.proofs.Common.{◌≡◌, ℕ, ◌+◌, Bool, true, false, cond, List, [], ◌∷◌, ◌++◌, length, refl, sym, ap, subst, ◌∙◌, add_assoc, zero-add, append_assoc, length-append, arith, Some, None}
use Rattle.std.specs.Prelude.{IfSome, is_some, slice_range}
use Rattle.std.specs.declared.option.Option.{Option}
use Rattle.std.specs.Str.{bytes_eq}
use Rattle.table_block.specs.declared.spots.Spot.{Spot}
use Rattle.table_block.specs.Records.{Record, record_size, records_size, spelling, spelled, IsBlock}
use Rattle.table_block.specs.Spots.{spot_of, spot_in, IsAt, IsSpot, IsWithin, Begins, Finds}
use Rattle.table_block.proofs.Reading.{HasRead, read_none, read_more, read_all, records_size-push, key_at}
use Rattle.table_block.proofs.Spelling.{length-spelling, length-spelled, spelled-append, one_reading}

-- the records before a place, and the first of them with the key
pub record Walked (bytes key : List ℕ) (at : ℕ) (found : Option Spot) : Type 0 where
  pub before : List Record
  pub read : HasRead bytes before at
  pub found_is : found ≡ spot_in 0 before key

pub walked_none : (bytes key : List ℕ) → Walked bytes key 0 None
walked_none bytes key = record { before = []; read = read_none bytes; found_is = refl }

-- what one more record makes of what was found
abbrev pub next_found : Option Spot → Bool → Spot → Option Spot
next_found None true spot = Some spot
next_found None false spot = None
next_found (Some found) has spot = Some found

spot_in-push : (at : ℕ) (before : List Record) (r : Record) (key : List ℕ)
    → spot_in at (before ++ r ∷ []) key ≡ next_found (spot_in at before key) (bytes_eq r.0 key) (spot_of (at + records_size before) r)
spot_in-push at [] r key =
    elim (bytes_eq r.0 key) as (λ b. cond b (Some (spot_of at r)) None ≡ next_found None b (spot_of (at + 0) r)) [
      | true ↦ ap (λ (n : ℕ). Some (spot_of n r)) (omega arith)
      | false ↦ refl
    ]
spot_in-push at (b ∷ before) r key =
    let more : spot_in (at + record_size b) (before ++ r ∷ []) key ≡ next_found (spot_in (at + record_size b) before key) (bytes_eq r.0 key) (spot_of (at + (record_size b + records_size before)) r) =
    spot_in-push (at + record_size b) before r key
    ∙ ap (λ (n : ℕ). next_found (spot_in (at + record_size b) before key) (bytes_eq r.0 key) (spot_of n r)) (add_assoc at (record_size b) (records_size before)) in
    elim (bytes_eq b.0 key) as (λ t. cond t (Some (spot_of at b)) (spot_in (at + record_size b) (before ++ r ∷ []) key)
    ≡ next_found (cond t (Some (spot_of at b)) (spot_in (at + record_size b) before key)) (bytes_eq r.0 key) (spot_of (at + (record_size b + records_size before)) r)) [
      | true ↦ refl
      | false ↦ more
    ]

module _ (bytes key : List ℕ) (at : ℕ) (found : Option Spot) (walked : Walked bytes key at found) where
  pub walked_more : (spot : Spot) (next : Option Spot) → Begins bytes at spot
      → next ≡ next_found found (bytes_eq (slice_range bytes (spot.at + 4) spot.value) key) spot → Walked bytes key spot.end next
  walked_more spot next begins next_is =
      let r = begins.this in
      let spot_is : spot ≡ spot_of (records_size walked.before) r =
      begins.spot_is ∙ ap (λ (n : ℕ). spot_of n r) walked.read.at_is in
      record {
        before = walked.before ++ r ∷ [];
        read = read_more bytes walked.before at walked.read spot begins;
        found_is =
            next_is
            ∙ (λ i. next_found (walked.found_is i) (bytes_eq (key_at bytes at spot begins i) key) (spot_is i))
            ∙ sym (spot_in-push 0 walked.before r key ∙ ap (λ (n : ℕ). next_found (spot_in 0 walked.before key) (bytes_eq r.0 key) (spot_of n r)) (zero-add (records_size walked.before)));
      }

  -- the record has the key, and none before it does
  pub walked_first : (spot : Spot) → Begins bytes at spot → is_some found ≡ false
      → bytes_eq (slice_range bytes (spot.at + 4) spot.value) key ≡ true → Walked bytes key spot.end (Some spot)
  walked_first spot begins none has =
      walked_more spot (Some spot) begins (first found none ∙ ap (λ (b : Bool). next_found found b spot) (sym has))
    where
      first : (o : Option Spot) → is_some o ≡ false → Some spot ≡ next_found o true spot
      first None none = refl
      first (Some s) none = cc

  -- one before it has the key
  pub walked_past : (spot : Spot) → Begins bytes at spot → is_some found ≡ true → Walked bytes key spot.end found
  walked_past spot begins some =
      walked_more spot found begins (past found (bytes_eq (slice_range bytes (spot.at + 4) spot.value) key) some)
    where
      past : (o : Option Spot) (has : Bool) → is_some o ≡ true → o ≡ next_found o has spot
      past None has some = cc
      past (Some s) has some = refl

  -- it has another key
  pub walked_other : (spot : Spot) → Begins bytes at spot
      → bytes_eq (slice_range bytes (spot.at + 4) spot.value) key ≡ false → Walked bytes key spot.end found
  walked_other spot begins other =
      walked_more spot found begins (same found ∙ ap (λ (b : Bool). next_found found b spot) (sym other))
    where
      same : (o : Option Spot) → o ≡ next_found o false spot
      same None = refl
      same (Some s) = refl

  -- at the end it has gone over all of them
  pub walked_all : at ≡ length bytes → Finds bytes key found
  walked_all end = record {
    records = walked.before;
    block = read_all bytes walked.before at walked.read end;
    found_is = walked.found_is;
  }

-- what was found in one list of records was found in all, since there is one
pub found_in : (bytes key : List ℕ) (found : Option Spot) → Finds bytes key found → (records : List Record) → IsBlock bytes records → found ≡ spot_in 0 records key
found_in bytes key found finds records is =
    finds.found_is ∙ ap (λ (rs : List Record). spot_in 0 rs key) (one_reading finds.records records finds.block.fit is.fit (sym finds.block.bytes_are ∙ is.bytes_are))

-- and it is a record's place
found_spot : (bytes : List ℕ) (skipped records : List Record) (key : List ℕ) → IsBlock bytes (skipped ++ records)
    → IfSome (spot_in (records_size skipped) records key) (IsSpot bytes)
found_spot bytes skipped [] key is = tt
found_spot bytes skipped (r ∷ records) key is =
    let here : IsSpot bytes (spot_of (records_size skipped) r) = record {
      before = skipped;
      this = r;
      after = records;
      is = record { block = is; spot_is = ap (λ (n : ℕ). spot_of n r) (sym (length-spelled skipped)) };
    } in
    let more : IfSome (spot_in (records_size (skipped ++ r ∷ [])) records key) (IsSpot bytes) =
    found_spot bytes (skipped ++ r ∷ []) records key (subst (λ (rs : List Record). IsBlock bytes rs) (sym (append_assoc skipped (r ∷ []) records)) is) in
    elim (bytes_eq r.0 key) as (λ t. IfSome (cond t (Some (spot_of (records_size skipped) r)) (spot_in (records_size skipped + record_size r) records key)) (IsSpot bytes)) [
      | true ↦ here
      | false ↦ subst (λ (n : ℕ). IfSome (spot_in n records key) (IsSpot bytes)) (records_size-push skipped r) more
    ]

pub found_place : (bytes key : List ℕ) (found : Option Spot) → Finds bytes key found → IfSome found (IsSpot bytes)
found_place bytes key found finds =
    subst (λ (o : Option Spot). IfSome o (IsSpot bytes)) (sym finds.found_is) (found_spot bytes [] finds.records key finds.block)

-- which is within the bytes
pub at_within : (bytes : List ℕ) (spot : Spot) (before : List Record) (r : Record) (after : List Record) → IsAt bytes spot before r after
    → (spot.at + record_size r ≡ spot.end) × (spot.end + length (spelled after) ≡ length bytes)
at_within bytes spot before r after is =
    let at_is : spot.at ≡ length (spelled before) = ap (λ (s : Spot). s.at) is.spot_is in
    let end_is : spot.end ≡ length (spelled before) + record_size r = ap (λ (s : Spot). s.end) is.spot_is in
    let all : length bytes ≡ length (spelled before) + length (spelled (r ∷ after)) =
    ap length (is.block.bytes_are ∙ spelled-append before (r ∷ after)) ∙ length-append (spelled before) (spelled (r ∷ after)) in
    let this : length (spelled (r ∷ after)) ≡ record_size r + length (spelled after) =
    length-append (spelling r) (spelled after) ∙ ap (λ (n : ℕ). n + length (spelled after)) (length-spelling r) in
    (omega arith, omega arith)

pub spot_within : (bytes : List ℕ) (spot : Spot) → IsSpot bytes spot → IsWithin bytes spot
spot_within bytes spot found =
    let within = at_within bytes spot found.before found.this found.after found.is in
    let at_is : spot.at ≡ length (spelled found.before) = ap (λ (s : Spot). s.at) found.is.spot_is in
    let value_is : spot.value ≡ length (spelled found.before) + 4 + length found.this.0 = ap (λ (s : Spot). s.value) found.is.spot_is in
    record { key = omega arith; value = omega (arith, within.0); end = omega (arith, within.1) }

pub found_within : (bytes : List ℕ) (found : Option Spot) → IfSome found (IsSpot bytes) → IfSome found (IsWithin bytes)
found_within bytes None is = tt
found_within bytes (Some spot) is = spot_within bytes spot is
