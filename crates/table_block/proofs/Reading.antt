-- The records of a block, read one after the other.
use Rattle.std.proofs.Common.{◌≡◌, ℕ, ◌+◌, ◌-◌, ◌<◌, List, [], ◌∷◌, ◌++◌, length, take, drop, refl, sym, ap, ◌∙◌, append_assoc, append-nil, length-append, arith}
use Rattle.std.specs.Prelude.{All, slice_range}
use Rattle.std.proofs.lemmas.List.{take_at, drop_at, drop-drop, length-drop, nil_from_length}
use Rattle.std.proofs.lemmas.List.Elements.{All-nil, All-push}
use Rattle.table_block.specs.declared.spots.Spot.{Spot}
use Rattle.table_block.specs.Records.{Record, record_size, records_size, Fits, spelling, spelled, IsBlock, IsUnfit, NoRecord}
use Rattle.table_block.specs.Spots.{Begins}
use Rattle.table_block.proofs.Spelling.{length-spelled, spelled-append, behind_counts}

-- the records before a place
pub record HasRead (bytes : List ℕ) (records : List Record) (at : ℕ) : Type 0 where
  pub fit : All Fits records
  pub rest : List ℕ
  pub parts : bytes ≡ spelled records ++ rest
  pub at_is : at ≡ records_size records

pub read_none : (bytes : List ℕ) → HasRead bytes [] 0
read_none bytes = record { fit = All-nil Fits; rest = bytes; parts = refl; at_is = refl }

pub records_size-push : (rs : List Record) (r : Record) → records_size (rs ++ r ∷ []) ≡ records_size rs + record_size r
records_size-push [] r = omega arith
records_size-push (b ∷ rs) r = omega (arith, records_size-push rs r)

module _ (bytes : List ℕ) (records : List Record) (at : ℕ) (read : HasRead bytes records at) where
  -- what stands from the place on
  behind : drop at bytes ≡ read.rest
  behind = ap (drop at) read.parts ∙ drop_at (spelled records) read.rest at (length-spelled records ∙ sym read.at_is)

  -- one more
  pub read_more : (spot : Spot) (begins : Begins bytes at spot) → HasRead bytes (records ++ begins.this ∷ []) spot.end
  read_more spot begins =
      let r = begins.this in
      let end : spot.end ≡ at + record_size r = ap (λ (s : Spot). s.end) begins.spot_is in
      record {
        fit = All-push Fits records r read.fit begins.fits;
        rest = begins.rest;
        parts =
            read.parts ∙ ap (λ (t : List ℕ). spelled records ++ t) (sym behind ∙ begins.parts)
            ∙ sym (append_assoc (spelled records) (spelling r) begins.rest)
            ∙ ap (λ (t : List ℕ). t ++ begins.rest) (ap (λ (t : List ℕ). spelled records ++ t) (sym (append-nil (spelling r))) ∙ sym (spelled-append records (r ∷ [])));
        at_is = omega (arith, end, read.at_is, records_size-push records r);
      }

  -- all
  pub read_all : at ≡ length bytes → IsBlock bytes records
  read_all end =
      let none : length read.rest ≡ 0 =
      omega (arith, ap length read.parts, length-append (spelled records) read.rest, length-spelled records, read.at_is) in
      record {
        fit = read.fit;
        bytes_are = read.parts ∙ ap (λ (t : List ℕ). spelled records ++ t) (nil_from_length read.rest none) ∙ append-nil (spelled records);
      }

  -- or one that isn't whole
  pub read_unfit : (place : ℕ) → at < length bytes → place ≡ at → NoRecord (drop at bytes) → IsUnfit bytes place
  read_unfit place before place_is broken = record {
    before = records;
    rest = drop at bytes;
    fit = read.fit;
    parts = read.parts ∙ ap (λ (t : List ℕ). spelled records ++ t) (sym behind);
    some = omega (arith, length-drop at bytes);
    broken = broken;
    place_is = place_is ∙ read.at_is ∙ sym (length-spelled records);
  }

-- what stands behind the counts of the record that begins at a place
texts_at : (bytes : List ℕ) (at : ℕ) (spot : Spot) (begins : Begins bytes at spot)
    → drop (at + 4) bytes ≡ begins.this.0 ++ (begins.this.1 ++ begins.rest)
texts_at bytes at spot begins =
    sym (drop-drop 4 at bytes) ∙ ap (drop 4) begins.parts ∙ behind_counts begins.this begins.rest

-- its key
pub key_at : (bytes : List ℕ) (at : ℕ) (spot : Spot) (begins : Begins bytes at spot)
    → slice_range bytes (spot.at + 4) spot.value ≡ begins.this.0
key_at bytes at spot begins =
    let r = begins.this in
    let at_is : spot.at ≡ at = ap (λ (s : Spot). s.at) begins.spot_is in
    let value_is : spot.value ≡ at + 4 + length r.0 = ap (λ (s : Spot). s.value) begins.spot_is in
    let count : spot.value - (spot.at + 4) ≡ length r.0 = omega arith in
    (λ i. take (count i) (drop (at_is i + 4) bytes)) ∙ ap (take (length r.0)) (texts_at bytes at spot begins)
    ∙ take_at r.0 (r.1 ++ begins.rest) (length r.0) refl

-- its value
pub value_at : (bytes : List ℕ) (at : ℕ) (spot : Spot) (begins : Begins bytes at spot)
    → slice_range bytes spot.value spot.end ≡ begins.this.1
value_at bytes at spot begins =
    let r = begins.this in
    let value_is : spot.value ≡ at + 4 + length r.0 = ap (λ (s : Spot). s.value) begins.spot_is in
    let end_is : spot.end ≡ at + (4 + length r.0 + length r.1) = ap (λ (s : Spot). s.end) begins.spot_is in
    let count : spot.end - spot.value ≡ length r.1 = omega arith in
    (λ i. take (count i) (drop (value_is i) bytes))
    ∙ ap (take (length r.1)) (sym (drop-drop (length r.0) (at + 4) bytes) ∙ ap (drop (length r.0)) (texts_at bytes at spot begins)
    ∙ drop_at r.0 (r.1 ++ begins.rest) (length r.0) refl)
    ∙ take_at r.1 begins.rest (length r.1) refl
