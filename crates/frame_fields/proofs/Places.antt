-- One spelling, and one bad place.
use Rattle.std.proofs.Common.{◌≡◌, ℕ, List, [], ◌∷◌, ◌++◌, length, refl, sym, ap, subst, ◌∙◌, append_assoc, append-nil, arith, inl, inr}
use Rattle.frame_fields.specs.Fields.{Field, spelling, spelled}
use Rattle.frame_fields.specs.FrameLayouts.{Layout, Stop, Then, Fits, IsBroken, IsLeft, IsBad}
use Rattle.frame_fields.proofs.FieldLaws.{value_one}

-- fields of a layout have one spelling each, and none begins another
pub fields_one : (l : Layout) (xs ys : List Field) (a b : List ℕ) → Fits l xs → Fits l ys
    → spelled xs ++ a ≡ spelled ys ++ b → (xs ≡ ys) × (a ≡ b)
fields_one Stop [] [] a b p q same = (refl, same)
fields_one Stop [] (y ∷ ys) a b p q same = absurd q
fields_one Stop (x ∷ xs) ys a b p q same = absurd p
fields_one (Then s next) [] ys a b p q same = absurd p
fields_one (Then s next) (x ∷ xs) [] a b p q same = absurd q
fields_one (Then s next) (x ∷ xs) (y ∷ ys) a b p q same =
    let o = value_one s x y (spelled xs ++ a) (spelled ys ++ b) p.0 q.0
    (sym (append_assoc (spelling x) (spelled xs) a) ∙ same ∙ append_assoc (spelling y) (spelled ys) b) in
    let r : Fits (next x) ys = subst (λ (f : Field). Fits (next f) ys) (sym o.0) q.1 in
    let m = fields_one (next x) xs ys a b p.1 r o.1 in
    (ap (λ (f : Field). f ∷ xs) o.0 ∙ ap (λ (fs : List Field). y ∷ fs) m.0, m.1)

pub fields_alone : (l : Layout) (xs ys : List Field) → Fits l xs → Fits l ys → spelled xs ≡ spelled ys → xs ≡ ys
fields_alone l xs ys p q same = (fields_one l xs ys [] [] p q (append-nil (spelled xs) ∙ same
    ∙ sym (append-nil (spelled ys)))).0

-- where a field is broken, no fields of the layout stand
broken_none : (l : Layout) (bytes rest : List ℕ) (left : ℕ) (xs : List Field) → IsBroken l bytes left → Fits l xs
    → bytes ≡ spelled xs ++ rest → ⊥
broken_none Stop bytes rest left xs broken fits same = broken
broken_none (Then s next) bytes rest left [] broken fits same = fits
broken_none (Then s next) bytes rest left (x ∷ xs) broken fits same =
    elim broken [
      | inl here ↦ here.1 x (spelled xs ++ rest) fits.0 (same ∙ append_assoc (spelling x) (spelled xs) rest)
      | inr later ↦
          let o = value_one s x later.0 (spelled xs ++ rest) later.1 fits.0 later.2
          (sym (append_assoc (spelling x) (spelled xs) rest) ∙ sym same ∙ later.3) in
          broken_none (next later.0) later.1 rest left xs later.4 (subst (λ (f : Field). Fits (next f) xs) o.0 fits.1)
          (sym o.1)
    ]

-- where a place is bad, no fields of the layout are spelled so
pub bad_none : (l : Layout) (bytes : List ℕ) (left : ℕ) (xs : List Field) → IsBad l bytes left → Fits l xs
    → bytes ≡ spelled xs → ⊥
bad_none l bytes left xs bad fits same =
    let alone : bytes ≡ spelled xs ++ [] = same ∙ sym (append-nil (spelled xs)) in
    elim bad [
      | inl broken ↦ broken_none l bytes [] left xs broken fits alone
      | inr over ↦
          let o = fields_one l xs over.fields [] over.rest fits over.fits (sym alone ∙ over.begins) in
          let none : length over.rest ≡ 0 = ap length (sym o.1) in
          let some = over.some in
          let count = over.count in
          omega (arith, none, some, count)
    ]

broken_one : (l : Layout) (bytes : List ℕ) (m n : ℕ) → IsBroken l bytes m → IsBroken l bytes n → m ≡ n
broken_one Stop bytes m n p q = absurd p
broken_one (Then s next) bytes m n p q =
    elim p [
      | inl here ↦ elim q [
        | inl there ↦ here.0 ∙ sym there.0
        | inr later ↦ absurd (here.1 later.0 later.1 later.2 later.3)
      ]
      | inr later ↦ elim q [
        | inl there ↦ absurd (there.1 later.0 later.1 later.2 later.3)
        | inr other ↦
            let o = value_one s later.0 other.0 later.1 other.1 later.2 other.2 (sym later.3 ∙ other.3) in
            broken_one (next other.0) other.1 m n (subst (λ (t : List ℕ). IsBroken (next other.0) t m) o.1
            (subst (λ (f : Field). IsBroken (next f) later.1 m) o.0 later.4)) other.4
      ]
    ]

left_one : (l : Layout) (bytes : List ℕ) (m n : ℕ) → IsLeft l bytes m → IsLeft l bytes n → m ≡ n
left_one l bytes m n p q =
    let o = fields_one l p.fields q.fields p.rest q.rest p.fits q.fits (sym p.begins ∙ q.begins) in
    p.count ∙ ap length o.1 ∙ sym q.count

-- the bad place is one
pub bad_one : (l : Layout) (bytes : List ℕ) (m n : ℕ) → IsBad l bytes m → IsBad l bytes n → m ≡ n
bad_one l bytes m n p q =
    elim p [
      | inl here ↦ elim q [
        | inl there ↦ broken_one l bytes m n here there
        | inr over ↦ absurd (broken_none l bytes over.rest m over.fields here over.fits over.begins)
      ]
      | inr over ↦ elim q [
        | inl there ↦ absurd (broken_none l bytes over.rest n over.fields there over.fits over.begins)
        | inr other ↦ left_one l bytes m n over other
      ]
    ]
