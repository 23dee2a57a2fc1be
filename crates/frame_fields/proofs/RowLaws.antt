-- Rows behind their count.
use Rattle.std.proofs.Common.{◌≡◌, ℕ, zero, suc, ◌+◌, ◌<◌, ◌≤◌, List, [], ◌∷◌, ◌++◌, length, refl, sym, ap, subst, ◌∙◌, append_assoc, append-nil, arith, inl, inr}
use Rattle.std.proofs.lemmas.List.{length-append}
use Rattle.far_words.specs.declared.place.Place.{Place}
use Rattle.frame_fields.specs.declared.ends.ReadEnd.{ReadEnd}
use Rattle.frame_fields.specs.declared.ends.ReadEnd.TheVariants.{Bad, NoMemory}
use Rattle.frame_fields.specs.Fields.{Field, Word, Long, Text, spelling, spelled}
use Rattle.frame_fields.specs.FrameLayouts.{Layout, Stop, Then, Fits, both, times, IsBroken}
use Rattle.frame_fields.specs.Reads.{Blames}
use Rattle.frame_fields.specs.Parts.{a_word, rows_of, fields_of_rows, part_fields, place_fields}
use Rattle.frame_fields.proofs.FieldLaws.{length_word, length_text}
use Rattle.frame_fields.proofs.LayoutLaws.{spelled_more, fits_both, broken_first, broken_then}

-- fields of two layouts, parted
fits_parted : (l m : Layout) (xs : List Field) → Fits (both l m) xs
    → (front : List Field) × (back : List Field) × (xs ≡ front ++ back) × Fits l front × Fits m back
fits_parted Stop m xs fits = ([], xs, refl, tt, fits)
fits_parted (Then s next) m [] fits = absurd fits
fits_parted (Then s next) m (x ∷ xs) fits =
    let p = fits_parted (next x) m xs fits.1 in
    (x ∷ p.0, p.1, ap (λ (fs : List Field). x ∷ fs) p.2, (fits.0, p.3), p.4)

-- one row more at the end
times_more : (count : ℕ) (l : Layout) (xs ys : List Field) → Fits (times count l) xs → Fits l ys
    → Fits (times (suc count) l) (xs ++ ys)
times_more zero l [] ys p q = subst (λ (fs : List Field). Fits (both l Stop) fs) (append-nil ys)
    (fits_both l Stop ys [] q tt)
times_more zero l (x ∷ xs) ys p q = absurd p
times_more (suc count) l xs ys p q =
    let s = fits_parted l (times count l) xs p in
    let more = fits_both l (times (suc count) l) s.0 (s.1 ++ ys) s.3 (times_more count l s.1 ys s.4 q) in
    subst (λ (fs : List Field). Fits (both l (times (suc count) l)) fs) (sym (append_assoc s.0 s.1 ys)
    ∙ ap (λ (fs : List Field). fs ++ ys) (sym s.2)) more

-- a row that is broken, after good ones
broken_row : (i count : ℕ) (l : Layout) (xs : List Field) (bytes rest : List ℕ) (left : ℕ) → i < count
    → Fits (times i l) xs → bytes ≡ spelled xs ++ rest → IsBroken l rest left → IsBroken (times count l) bytes left
broken_row i zero l xs bytes rest left lt fits same broken = absurd (omega (arith, lt))
broken_row zero (suc count) l [] bytes rest left lt fits same broken =
    broken_first l (times count l) bytes left (subst (λ (t : List ℕ). IsBroken l t left) (sym same) broken)
broken_row zero (suc count) l (x ∷ xs) bytes rest left lt fits same broken = absurd fits
broken_row (suc i) (suc count) l xs bytes rest left lt fits same broken =
    let s = fits_parted l (times i l) xs fits in
    let parts : bytes ≡ spelled s.0 ++ (spelled s.1 ++ rest) =
    same ∙ ap (λ (fs : List Field). spelled fs ++ rest) s.2 ∙ ap (λ (t : List ℕ). t ++ rest) (spelled_more s.0 s.1)
    ∙ append_assoc (spelled s.0) (spelled s.1) rest in
    broken_then l (times count l) s.0 bytes (spelled s.1 ++ rest) left s.3 parts
    (broken_row i count l s.1 (spelled s.1 ++ rest) rest left (omega arith) s.4 refl broken)

pub blames_row : (i count : ℕ) (l : Layout) (xs : List Field) (bytes rest : List ℕ) (end : ReadEnd) → i < count
    → Fits (times i l) xs → bytes ≡ spelled xs ++ rest → Blames (IsBroken l rest) end
    → Blames (IsBroken (times count l) bytes) end
blames_row i count l xs bytes rest (Bad left) lt fits same broken = broken_row i count l xs bytes rest left lt fits
    same broken
blames_row i count l xs bytes rest NoMemory lt fits same broken = tt

module _ (l : Layout) where
  -- a count, and then rows
  pub counted : (n : ℕ) (fields : List Field) (bytes rest after : List ℕ)
      → (bytes ≡ spelled (Word n ∷ []) ++ rest) × Fits (a_word Stop) (Word n ∷ [])
      → (rest ≡ spelled fields ++ after) × Fits (times n l) fields
      → (bytes ≡ spelled (Word n ∷ fields) ++ after) × Fits (rows_of l) (Word n ∷ fields)
  counted n fields bytes rest after p q = (
    p.0 ∙ ap (λ (t : List ℕ). t ++ rest) (append-nil (spelling (Word n)))
        ∙ ap (λ (t : List ℕ). spelling (Word n) ++ t) q.0
        ∙ sym (append_assoc (spelling (Word n)) (spelled fields) after),
    (p.1.0, q.1),
  )

  pub blames_counted : (n : ℕ) (bytes rest : List ℕ) (end : ReadEnd)
      → (bytes ≡ spelled (Word n ∷ []) ++ rest) × Fits (a_word Stop) (Word n ∷ [])
      → Blames (IsBroken (times n l) rest) end → Blames (IsBroken (rows_of l) bytes) end
  blames_counted n bytes rest (Bad left) p broken = inr (
    Word n,
    rest,
    p.1.0,
    p.0
        ∙ ap (λ (t : List ℕ). t ++ rest) (append-nil (spelling (Word n))),
    broken,
  )
  blames_counted n bytes rest NoMemory p broken = tt

  pub blames_count : (bytes : List ℕ) (end : ReadEnd) → Blames (IsBroken (a_word Stop) bytes) end
      → Blames (IsBroken (rows_of l) bytes) end
  blames_count bytes (Bad left) broken = elim broken [ inl here ↦ inl here | inr later ↦ absurd later.4 ]
  blames_count bytes NoMemory broken = tt

module _ {X : Type 0} (fields : X → List Field) where
  rows_more : (rows : List X) (row : X)
      → fields_of_rows fields (rows ++ row ∷ []) ≡ fields_of_rows fields rows ++ fields row
  rows_more [] row = append-nil (fields row)
  rows_more (first ∷ rows) row =
      ap (λ (fs : List Field). fields first ++ fs) (rows_more rows row)
      ∙ sym (append_assoc (fields first) (fields_of_rows fields rows) (fields row))

  text_more : (rows more : List X) (row : X) → more ≡ rows ++ row ∷ []
      → spelled (fields_of_rows fields more) ≡ spelled (fields_of_rows fields rows) ++ spelled (fields row)
  text_more rows more row grown =
      ap (λ (xs : List X). spelled (fields_of_rows fields xs)) grown ∙ ap spelled (rows_more rows row)
      ∙ spelled_more (fields_of_rows fields rows) (fields row)

  pub row_fits : (l : Layout) (rows more : List X) (row : X) (count : ℕ)
      → Fits (times count l) (fields_of_rows fields rows) → Fits l (fields row)
      → more ≡ rows ++ row ∷ [] → Fits (times (count + 1) l) (fields_of_rows fields more)
  row_fits l rows more row count fits fit grown =
      let one : fields_of_rows fields more ≡ fields_of_rows fields rows ++ fields row =
      ap (fields_of_rows fields) grown ∙ rows_more rows row in
      let next : count + 1 ≡ suc count = omega arith in
      subst (λ (n : ℕ). Fits (times n l) (fields_of_rows fields more)) (sym next)
      (subst (λ (fs : List Field). Fits (times (suc count) l) fs) (sym one)
      (times_more count l (fields_of_rows fields rows) (fields row) fits fit))

  -- one row more was read
  pub rows_step : (l : Layout) (bytes rest after : List ℕ) (rows more : List X) (row : X) (count : ℕ)
      → bytes ≡ spelled (fields_of_rows fields rows) ++ rest → Fits (times count l) (fields_of_rows fields rows)
      → length rows ≡ count → more ≡ rows ++ row ∷ [] → (rest ≡ spelled (fields row) ++ after) × Fits l (fields row)
      → (bytes ≡ spelled (fields_of_rows fields more) ++ after) × Fits (times (count + 1) l)
      (fields_of_rows fields more) × (length more ≡ count + 1)
  rows_step l bytes rest after rows more row count whole fits long grown read =
      let so_far = spelled (fields_of_rows fields rows) in (
        whole ∙ ap (λ (t : List ℕ). so_far ++ t) read.0 ∙ sym (append_assoc so_far (spelled (fields row)) after)
            ∙ ap (λ (t : List ℕ). t ++ after) (sym (text_more rows more row grown)),
        row_fits l rows more row count fits read.1 grown,
        omega (arith, ap length grown, length-append rows (row ∷ []), long),
      )

  -- one row more was put
  pub row_put : (first out new : List ℕ) (rows more : List X) (row : X)
      → out ≡ first ++ spelled (fields_of_rows fields rows) → new ≡ out ++ spelled (fields row)
      → more ≡ rows ++ row ∷ []
      → new ≡ first ++ spelled (fields_of_rows fields more)
  row_put first out new rows more row so_far put grown =
      put ∙ ap (λ (t : List ℕ). t ++ spelled (fields row)) so_far
      ∙ append_assoc first (spelled (fields_of_rows fields rows)) (spelled (fields row))
      ∙ ap (λ (t : List ℕ). first ++ t) (sym (text_more rows more row grown))

  -- there are no more rows than bytes
  pub rows_below : ((row : X) → 1 ≤ length (spelled (fields row))) → (rows : List X)
      → length rows ≤ length (spelled (fields_of_rows fields rows))
  rows_below some [] = omega arith
  rows_below some (row ∷ rows) =
      let one = some row in
      let others = rows_below some rows in
      let bytes = ap length (spelled_more (fields row) (fields_of_rows fields rows))
      ∙ length-append (spelled (fields row)) (spelled (fields_of_rows fields rows)) in
      omega (arith, one, others, bytes)

pub part_some_byte : (part : List ℕ) → 1 ≤ length (spelled (part_fields part))
part_some_byte part = omega (arith, length-append (spelling (Text part)) [], length_text part)

pub place_some_byte : (row : Place) → 1 ≤ length (spelled (place_fields row))
place_some_byte row = omega (
  arith,
  length-append (spelling (Word row.slice))
      (spelled (Long row.number ∷ Long row.index ∷ [])),
  length_word row.slice,
)
