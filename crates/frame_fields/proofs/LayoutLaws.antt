-- Fields of layouts, one after another.
use Rattle.std.proofs.Common.{◌≡◌, ℕ, ◌+◌, ◌≤◌, eqb, false, List, [], ◌∷◌, ◌++◌, length, Result, Ok, Err, refl, sym, ap, subst, ◌∙◌, append_assoc, arith, inl, inr}
use Rattle.std.specs.Prelude.{IsTrue}
use Rattle.std.proofs.lemmas.Bool.{or_from, ne_eqb}
use Rattle.std.proofs.lemmas.List.{length-append}
use Rattle.frame_fields.specs.declared.ends.ReadEnd.{ReadEnd}
use Rattle.frame_fields.specs.declared.ends.ReadEnd.TheVariants.{Bad, NoMemory}
use Rattle.frame_fields.specs.Fields.{Field, Byte, AByte, NoValue, spelling, spelled}
use Rattle.frame_fields.specs.FrameLayouts.{Layout, Stop, Then, Fits, both, Table, is_in, row_of, tagged, IsBroken, IsBad}
use Rattle.frame_fields.specs.Reads.{Blames, ReadsAll, ReadsKind}
use Rattle.frame_fields.specs.Frames.{IsPut}
use Rattle.frame_fields.proofs.FieldLaws.{not_byte}

pub spelled_more : (xs ys : List Field) → spelled (xs ++ ys) ≡ spelled xs ++ spelled ys
spelled_more [] ys = refl
spelled_more (x ∷ xs) ys =
    ap (λ (t : List ℕ). spelling x ++ t) (spelled_more xs ys)
    ∙ sym (append_assoc (spelling x) (spelled xs) (spelled ys))

pub fits_both : (l m : Layout) (xs ys : List Field) → Fits l xs → Fits m ys → Fits (both l m) (xs ++ ys)
fits_both Stop m [] ys p q = q
fits_both Stop m (x ∷ xs) ys p q = absurd p
fits_both (Then s next) m [] ys p q = absurd p
fits_both (Then s next) m (x ∷ xs) ys p q = (p.0, fits_both (next x) m xs ys p.1 q)

-- what was read of two values
pub reads_both : (l m : Layout) (xs ys : List Field) (bytes rest after : List ℕ)
    → (bytes ≡ spelled xs ++ rest) × Fits l xs → (rest ≡ spelled ys ++ after) × Fits m ys
    → (bytes ≡ spelled (xs ++ ys) ++ after) × Fits (both l m) (xs ++ ys)
reads_both l m xs ys bytes rest after p q = (
  p.0 ∙ ap (λ (t : List ℕ). spelled xs ++ t) q.0 ∙ sym (append_assoc (spelled xs) (spelled ys) after)
      ∙ ap (λ (t : List ℕ). t ++ after) (sym (spelled_more xs ys)),
  fits_both l m xs ys p.1 q.1,
)

-- what is broken in the first is broken in both
pub broken_first : (l m : Layout) (bytes : List ℕ) (left : ℕ) → IsBroken l bytes left → IsBroken (both l m) bytes left
broken_first Stop m bytes left broken = absurd broken
broken_first (Then s next) m bytes left broken =
    elim broken [
      | inl here ↦ inl here
      | inr later ↦ inr (later.0, later.1, later.2, later.3, broken_first (next later.0) m later.1 left later.4)
    ]

-- and so is what is broken in the second, behind a good first
pub broken_then : (l m : Layout) (xs : List Field) (bytes rest : List ℕ) (left : ℕ) → Fits l xs
    → bytes ≡ spelled xs ++ rest → IsBroken m rest left → IsBroken (both l m) bytes left
broken_then Stop m [] bytes rest left fits same broken = subst (λ (t : List ℕ). IsBroken m t left) (sym same) broken
broken_then Stop m (x ∷ xs) bytes rest left fits same broken = absurd fits
broken_then (Then s next) m [] bytes rest left fits same broken = absurd fits
broken_then (Then s next) m (x ∷ xs) bytes rest left fits same broken =
    inr (
      x,
      spelled xs ++ rest,
      fits.0,
      same
          ∙ append_assoc (spelling x) (spelled xs) rest,
      broken_then (next x) m xs (spelled xs ++ rest) rest left fits.1
          refl broken,
    )

-- a bad place is within the bytes
broken_within : (l : Layout) (bytes : List ℕ) (left : ℕ) → IsBroken l bytes left → left ≤ length bytes
broken_within Stop bytes left broken = absurd broken
broken_within (Then shape next) bytes left broken =
    elim broken [
      | inl here ↦ omega (arith, here.0)
      | inr later ↦
          let b : left ≤ length later.1 = broken_within (next later.0) later.1 left later.4 in
          let n : length bytes ≡ length (spelling later.0) + length later.1 = ap length later.3
          ∙ length-append (spelling later.0) later.1 in
          omega (arith, b, n)
    ]

pub bad_within : (l : Layout) (bytes : List ℕ) (left : ℕ) → IsBad l bytes left → left ≤ length bytes
bad_within l bytes left bad =
    elim bad [
      | inl broken ↦ broken_within l bytes left broken
      | inr over ↦ omega (arith, over.count, ap length over.begins, length-append (spelled over.fields) over.rest)
    ]

-- ---- ends

pub blames_first : (l m : Layout) (bytes : List ℕ) (end : ReadEnd) → Blames (IsBroken l bytes) end
    → Blames (IsBroken (both l m) bytes) end
blames_first l m bytes (Bad left) broken = broken_first l m bytes left broken
blames_first l m bytes NoMemory broken = tt

pub blames_then : (l m : Layout) (xs : List Field) (bytes rest : List ℕ) (end : ReadEnd)
    → (bytes ≡ spelled xs ++ rest) × Fits l xs → Blames (IsBroken m rest) end → Blames (IsBroken (both l m) bytes) end
blames_then l m xs bytes rest (Bad left) read broken = broken_then l m xs bytes rest left read.1 read.0 broken
blames_then l m xs bytes rest NoMemory read broken = tt

pub blames_all : (l : Layout) (bytes : List ℕ) (end : ReadEnd) → Blames (IsBroken l bytes) end
    → Blames (IsBad l bytes) end
blames_all l bytes (Bad left) broken = inl broken
blames_all l bytes NoMemory broken = tt

-- ---- tags

-- the tag of no row
abbrev pub IsNone : Table → ℕ → Type 0
IsNone [] tag = Unit {0}
IsNone (row ∷ table) tag = (tag ≡ row.0 → ⊥) × IsNone table tag

pub none_in : (table : Table) (tag : ℕ) → IsNone table tag → is_in table tag ≡ false
none_in [] tag none = refl
none_in (row ∷ table) tag none =
    or_from (eqb tag row.0) (is_in table tag) (ne_eqb tag row.0 none.0) (none_in table tag none.1)

module _ (table : Table) where
  -- a byte that is no tag
  pub no_tag : (tag : ℕ) (bytes rest : List ℕ) → bytes ≡ spelling (Byte tag) ++ rest → IsNone table tag
      → IsBroken (tagged table) bytes (length bytes)
  no_tag tag bytes rest begins none = inl (refl, not_byte (is_in table) tag bytes rest begins (none_in table tag none))

  -- no byte that is a tag
  pub no_tag_at : (bytes : List ℕ) → NoValue (AByte (is_in table)) bytes → IsBroken (tagged table) bytes (length bytes)
  no_tag_at bytes none = inl (refl, none)

  bad_after : (tag : ℕ) (bytes rest : List ℕ) (left : ℕ) → bytes ≡ spelling (Byte tag) ++ rest
      → IsTrue (is_in table tag) → IsBad (row_of table tag) rest left → IsBad (tagged table) bytes left
  bad_after tag bytes rest left begins known bad =
      elim bad [
        | inl broken ↦ inl (inr (Byte tag, rest, known, begins, broken))
        | inr over ↦
            inr (record {
              fields = Byte tag ∷ over.fields;
              rest = over.rest;
              fits = (known, over.fits);
              begins = begins ∙ ap (λ (t : List ℕ). spelling (Byte tag) ++ t) over.begins
                  ∙ sym (append_assoc (spelling (Byte tag)) (spelled over.fields) over.rest);
              some = over.some;
              count = over.count;
            })
      ]

  module _ {K : Type 0} (byte_of : K → ℕ) where
    -- what was read behind a kind, with the kind
    pub kind_read : {X : Type 0} (kind_of : X → K) (fields_after : X → List Field) (kind : K) (bytes rest : List ℕ)
        (result : Result X ReadEnd) → bytes ≡ spelling (Byte (byte_of kind)) ++ rest
        → IsTrue (is_in table (byte_of kind))
        → ReadsKind kind_of fields_after kind (row_of table (byte_of kind)) rest result
        → ReadsAll (λ x. Byte (byte_of (kind_of x)) ∷ fields_after x) (tagged table) bytes result
    kind_read kind_of fields_after kind bytes rest (Ok x) begins known read = (
      begins ∙ ap (λ (t : List ℕ). spelling (Byte (byte_of kind)) ++ t) read.1
          ∙ ap (λ (k : K). spelling (Byte (byte_of k)) ++ spelled (fields_after x)) (sym read.0),
      (
        subst (λ (k : K). IsTrue (is_in table (byte_of k))) (sym read.0) known,
        subst (λ (k : K). Fits (row_of table (byte_of k)) (fields_after x)) (sym read.0) read.2,
      ),
    )
    kind_read kind_of fields_after kind bytes rest (Err (Bad left)) begins known read =
        bad_after (byte_of kind) bytes rest left begins known read
    kind_read kind_of fields_after kind bytes rest (Err NoMemory) begins known read = tt

  -- what was put behind a tag, with the tag
  pub put_after_tag : (tag : ℕ) (fields : List Field) (old half new : List ℕ) → IsTrue (is_in table tag)
      → half ≡ old ++ spelling (Byte tag) → IsPut (row_of table tag) fields half new
      → IsPut (tagged table) (Byte tag ∷ fields) old new
  put_after_tag tag fields old half new known begun put = (
    put.0 ∙ ap (λ (t : List ℕ). t ++ spelled fields) begun
        ∙ append_assoc old (spelling (Byte tag)) (spelled fields),
    (known, put.1),
  )
