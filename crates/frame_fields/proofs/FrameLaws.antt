-- Whole frames.
use Rattle.std.proofs.Common.{◌≡◌, ℕ, ◌+◌, ◌<◌, ◌≤◌, ◌^◌, List, [], ◌∷◌, ◌++◌, length, take, drop, sym, ap, subst, ◌∙◌, append-nil, arith}
use Rattle.std.proofs.lemmas.List.{length-append, length-drop, take_all, drop_all}
use Rattle.frame_fields.specs.Fields.{Field, Byte, Word, Long, Digest, Text, After, spelling, spelled}
use Rattle.frame_fields.specs.FrameLayouts.{Table, tagged, Fits, IsBad}
use Rattle.frame_fields.specs.Parts.{fields_of_rows}
use Rattle.frame_fields.specs.Frames.{frame_of, AreShort, HaveShortTexts, IsFrameBody, said, IsFrame, IsBadFrame}
use Rattle.frame_fields.proofs.FieldLaws.{IsBytes, word_found, text_found, text_one, length_text}
use Rattle.frame_fields.proofs.LayoutLaws.{spelled_more, bad_within}
use Rattle.frame_fields.proofs.RowLaws.{rows_below}
use Rattle.frame_fields.proofs.Places.{fields_alone, bad_none, bad_one}

-- the body of bytes that are as long as they say
pub framed : (frame : List ℕ) → IsBytes frame → length frame ≡ 4 + said frame → frame ≡ spelling (Text (drop 4 frame))
framed frame fits long =
    let body = drop 4 frame in
    let count : length body ≡ said frame = omega (arith, length-drop 4 frame) in
    let w = word_found frame fits (omega (arith, long)) in
    let t = text_found frame body (said frame) w.0 (omega (arith, count)) in
    let all : take (said frame) body ≡ body = take_all (said frame) body (omega (arith, count)) in
    let none : drop (said frame) body ≡ [] = drop_all (said frame) body (omega (arith, count)) in
    t ∙ (λ i. spelling (Text (all i)) ++ none i) ∙ append-nil (spelling (Text body))

-- two frames with something after them are one
bodies_one : (a b : List ℕ) → length a < 2 ^ 32 → length b < 2 ^ 32 → spelling (Text a) ≡ spelling (Text b) → a ≡ b
bodies_one a b low high same = (text_one a b [] [] low high (append-nil (spelling (Text a)) ∙ same
    ∙ sym (append-nil (spelling (Text b))))).0

body_short : (frame body : List ℕ) → IsFrame frame → frame ≡ spelling (Text body) → length body < 2 ^ 32
body_short frame body is same = omega (arith, is.long, is.short, ap length same, length_text body)

-- the texts of short fields are short
others_below : (field : Field) (fields : List Field) → length (spelled (field ∷ fields)) < 2 ^ 32
    → length (spelled fields) < 2 ^ 32
others_below field fields low = omega (arith, low, length-append (spelling field) (spelled fields))

texts_below : (fields : List Field) → length (spelled fields) < 2 ^ 32 → HaveShortTexts fields
texts_below [] low = tt
texts_below (Text text ∷ fields) low = (
  omega (arith, low, length-append (spelling (Text text)) (spelled fields), length_text text),
  texts_below fields (others_below (Text text) fields low),
)
texts_below (Byte n ∷ fields) low = texts_below fields (others_below (Byte n) fields low)
texts_below (Word n ∷ fields) low = texts_below fields (others_below (Word n) fields low)
texts_below (Long n ∷ fields) low = texts_below fields (others_below (Long n) fields low)
texts_below (Digest bytes ∷ fields) low = texts_below fields (others_below (Digest bytes) fields low)
texts_below (After part ∷ fields) low = texts_below fields (others_below (After part) fields low)

pub short_texts : (fields : List Field) → AreShort fields → HaveShortTexts fields
short_texts fields short = texts_below fields (omega (arith, short))

-- and short rows are few
pub few_rows : {X : Type 0} (fields : X → List Field) → ((row : X) → 1 ≤ length (spelled (fields row)))
    → (front : List Field) (rows : List X)
    → AreShort (front ++ fields_of_rows fields rows) → length rows < 2 ^ 32
few_rows fields some front rows short =
    let few = rows_below fields some rows in
    let parts = ap length (spelled_more front (fields_of_rows fields rows))
    ∙ length-append (spelled front) (spelled (fields_of_rows fields rows)) in
    omega (arith, short, few, parts)

module _ (table : Table) where
  pub bad_below : (frame : List ℕ) (left : ℕ) → IsBad (tagged table) (drop 4 frame) left → left ≤ length frame
  bad_below frame left bad =
      let b : left ≤ length (drop 4 frame) = bad_within (tagged table) (drop 4 frame) left bad in
      omega (arith, b, length-drop 4 frame)

  -- bytes that are as long as they say, and whose body is these fields, are their frame
  pub whole_frame : (frame : List ℕ) (fields : List Field) → IsBytes frame → IsFrame frame
      → (drop 4 frame ≡ spelled fields) × Fits (tagged table) fields
      → (frame ≡ frame_of fields) × IsFrameBody table fields
  whole_frame frame fields bytes is read = (
    framed frame bytes is.long ∙ ap (λ (t : List ℕ). spelling (Text t)) read.0,
    record { fits = read.1; short = omega (arith, is.long, is.short, length-drop 4 frame, ap length read.0) },
  )

  pub bad_frame : (frame : List ℕ) (left place : ℕ) → IsBytes frame → IsFrame frame
      → IsBad (tagged table) (drop 4 frame) left → place + left ≡ length frame → IsBadFrame table frame place
  bad_frame frame left place bytes is bad place_is =
      record { body = drop 4 frame; left = left; framed = framed frame bytes is.long; bad = bad; place_is = place_is }

  -- a bad frame is no frame of the table
  pub bad_frame_none : (frame : List ℕ) (place : ℕ) (fields : List Field) → IsFrame frame
      → IsBadFrame table frame place → IsFrameBody table fields → frame ≡ frame_of fields → ⊥
  bad_frame_none frame place fields is bad fits same =
      let b : bad.body ≡ spelled fields =
      bodies_one bad.body (spelled fields) (body_short frame bad.body is bad.framed)
      (body_short frame (spelled fields) is same) (sym bad.framed ∙ same) in
      bad_none (tagged table) bad.body bad.left fields bad.bad fits.fits b

  -- and it has one bad place
  pub bad_place_one : (frame : List ℕ) (m n : ℕ) → IsFrame frame → IsBadFrame table frame m → IsBadFrame table frame n
      → m ≡ n
  bad_place_one frame m n is p q =
      let b : p.body ≡ q.body =
      bodies_one p.body q.body (body_short frame p.body is p.framed) (body_short frame q.body is q.framed)
      (sym p.framed ∙ q.framed) in
      let l : p.left ≡ q.left = bad_one (tagged table) q.body p.left q.left
      (subst (λ (t : List ℕ). IsBad (tagged table) t p.left) b p.bad) q.bad in
      omega (arith, l, p.place_is, q.place_is)

  short : (fields : List Field) → IsFrameBody table fields → length (spelled fields) < 2 ^ 32
  short fields fits = omega (arith, fits.short)

  -- a frame is that of one list of fields, and begins no other frame
  pub frame_first : (xs ys : List Field) (a b : List ℕ) → IsFrameBody table xs → IsFrameBody table ys
      → frame_of xs ++ a ≡ frame_of ys ++ b → (xs ≡ ys) × (a ≡ b)
  frame_first xs ys a b p q same =
      let o = text_one (spelled xs) (spelled ys) a b (short xs p) (short ys q) same in
      (fields_alone (tagged table) xs ys p.fits q.fits o.0, o.1)

  pub frame_one : (xs ys : List Field) → IsFrameBody table xs → IsFrameBody table ys → frame_of xs ≡ frame_of ys → xs ≡ ys
  frame_one xs ys p q same = (frame_first xs ys [] [] p q (append-nil (frame_of xs) ∙ same
      ∙ sym (append-nil (frame_of ys)))).0
