-- Records packed first fit, one by one.
use Rattle.std.proofs.Common.{◌≡◌, ℕ, zero, suc, ◌+◌, ◌<◌, ◌≤◌, Bool, true, false, cond, not, List, [], ◌∷◌, ◌++◌, length, get_or, set, take, drop, refl, sym, ap, subst, ◌∙◌, inl, inr, Some, None, arith}
use Rattle.std.specs.Prelude.{HoldsAt, position, nat_lt}
use Rattle.std.specs.List.{refill, prefix_len, position_or_len}
use Rattle.std.proofs.Math.Seq.{take-append_seam}
use Rattle.std.proofs.lemmas.Bool.{cases_lt, lt-ltb, leb-true}
use Rattle.std.proofs.lemmas.List.{take_more}
use Rattle.std.proofs.lemmas.List.Quantifiers.{position-Some}
use Rattle.table_block.specs.Records.{Record, record_size, records_size}
use Rattle.slot_split.specs.Packing.{fits_in, with_record, with_records}
use Rattle.slot_split.proofs.Parts.{record_is}

-- the first block with room
with_record-at : (size : ℕ) (blocks : List (List Record)) (r : Record) (i : ℕ) (d : List Record) → i < length blocks
    → fits_in size (record_size r) (get_or blocks i d) ≡ true → ((k : ℕ) → k < i → fits_in size (record_size r) (get_or blocks k d) ≡ false)
    → with_record size blocks r ≡ set blocks i (get_or blocks i d ++ r ∷ [])
with_record-at size [] r i d within fits others = absurd (omega arith)
with_record-at size (block ∷ blocks) r zero d within fits others =
    ap (λ (b : Bool). cond b ((block ++ r ∷ []) ∷ blocks) (block ∷ with_record size blocks r)) fits
with_record-at size (block ∷ blocks) r (suc i) d within fits others =
    ap (λ (b : Bool). cond b ((block ++ r ∷ []) ∷ blocks) (block ∷ with_record size blocks r)) (others 0 (omega arith))
    ∙ ap (λ (bs : List (List Record)). block ∷ bs) (with_record-at size blocks r i d (omega arith) fits (λ k below. others (suc k) (omega arith)))

pub with_record-found : (size : ℕ) (blocks : List (List Record)) (r : Record) (i : ℕ) (d : List Record)
    → position (fits_in size (record_size r)) blocks ≡ Some i → with_record size blocks r ≡ set blocks i (get_or blocks i d ++ r ∷ [])
with_record-found size blocks r i d found =
    let at = position-Some (fits_in size (record_size r)) blocks i d found in
    with_record-at size blocks r i d at.0 at.1 at.2

-- or a further one
past : (n m : ℕ) → cond (nat_lt n m) (Some n) None ≡ None → m ≤ n
past n m none =
    elim (cases_lt n m) [
      | inl lt ↦ let some : Some n ≡ None = ap (λ (b : Bool). cond b (Some n) None) (sym (lt-ltb n m lt)) ∙ none in cc
      | inr le ↦ le
    ]

with_record-past : (size : ℕ) (blocks : List (List Record)) (r : Record) → length blocks ≤ prefix_len (λ block. not (fits_in size (record_size r) block)) blocks
    → with_record size blocks r ≡ blocks ++ (r ∷ []) ∷ []
with_record-past size [] r all = refl
with_record-past size (block ∷ blocks) r all = by (fits_in size (record_size r) block) all (λ more. with_record-past size blocks r more)
  where
    by : (b : Bool) → suc (length blocks) ≤ cond (not b) (1 + prefix_len (λ block. not (fits_in size (record_size r) block)) blocks) 0
        → (length blocks ≤ prefix_len (λ block. not (fits_in size (record_size r) block)) blocks → with_record size blocks r ≡ blocks ++ (r ∷ []) ∷ [])
        → cond b ((block ++ r ∷ []) ∷ blocks) (block ∷ with_record size blocks r) ≡ block ∷ (blocks ++ (r ∷ []) ∷ [])
    by true some later = absurd (omega arith)
    by false more later = ap (λ (bs : List (List Record)). block ∷ bs) (later (omega arith))

pub with_record-none : (size : ℕ) (blocks : List (List Record)) (r : Record) → position (fits_in size (record_size r)) blocks ≡ None
    → with_record size blocks r ≡ blocks ++ (r ∷ []) ∷ []
with_record-none size blocks r none =
    with_record-past size blocks r (past (position_or_len (fits_in size (record_size r)) blocks) (length blocks) none)

-- a list that is written over by one as long
pub refill_whole : {X : Type 0} (items written : List X) → length written ≡ length items → refill (length items) items written ≡ written
refill_whole items written same =
    subst (λ count. take count (written ++ drop (length written) items) ≡ written) same (take-append_seam written (drop (length written) items))

-- there it has room
pub found_room : (size more : ℕ) (blocks : List (List Record)) (i : ℕ) (d : List Record) → position (fits_in size more) blocks ≡ Some i
    → records_size (get_or blocks i d) + more ≤ size
found_room size more blocks i d found =
    leb-true (records_size (get_or blocks i d) + more) size (position-Some (fits_in size more) blocks i d found).1

-- the records in two parts
pub with_records-append : (size : ℕ) (blocks : List (List Record)) (xs ys : List Record)
    → with_records size blocks (xs ++ ys) ≡ with_records size (with_records size blocks xs) ys
with_records-append size blocks [] ys = refl
with_records-append size blocks (x ∷ xs) ys = with_records-append size (with_record size blocks x) xs ys

-- one record more, by its key and its value
pub with_records-more : (size : ℕ) (blocks : List (List Record)) (rs : List Record) (i : ℕ) (key value : List ℕ) → i < length rs
    → HoldsAt (λ r. r.0 ≡ key) rs i → HoldsAt (λ r. r.1 ≡ value) rs i
    → with_records size blocks (take (i + 1) rs) ≡ with_record size (with_records size blocks (take i rs)) (key, value)
with_records-more size blocks rs i key value within keyed valued =
    ap (with_records size blocks) (take_more rs i (key, value) within)
    ∙ with_records-append size blocks (take i rs) (get_or rs i (key, value) ∷ [])
    ∙ ap (with_record size (with_records size blocks (take i rs))) (record_is rs i key value keyed valued (key, value))
