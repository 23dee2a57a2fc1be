-- A frame's length, written over the bytes that stand for it.
use Rattle.std.proofs.Common.{◌≡◌, ℕ, ◌+◌, ◌-◌, ◌≤◌, List, ◌++◌, length, take, drop, sym, ap, ◌∙◌, append_assoc, append-nil, arith}
use Rattle.std.proofs.lemmas.List.{take_at, drop_at, take_all, drop_all, length-append, length-take, length-drop, drop-drop}
use Rattle.frame_fields.specs.Fields.{Field, Word, spelling, spelled}
use Rattle.frame_fields.specs.FrameLayouts.{Table, tagged}
use Rattle.frame_fields.specs.Frames.{frame_of, AreShort, IsFrameBody, IsPut}
use Rattle.frame_fields.proofs.FieldLaws.{text_spelled, length_word}
use borrow.Rule.Slice.PartMut.{post_of}

-- what stands after four bytes were written over
pub closes : (out slice word spelled : List ℕ) (at : ℕ) → at + 4 ≤ length out → slice ≡ out → word ≡ spelled
    → length spelled ≡ 4
    → take (length out) ((take at slice ++ (word ++ post_of at (at + 4 - at) slice)) ++ drop
    (length (take at slice ++ (word ++ post_of at (at + 4 - at) slice))) out) ≡ take at out ++
    (spelled ++ drop (at + 4) out)
closes out slice word spelled at room same written long_four =
    let four : at + 4 - at ≡ 4 = omega arith in
    let rest : post_of at (at + 4 - at) slice ≡ drop (at + 4) out =
    ap (λ (k : ℕ). drop k (drop at slice)) four ∙ ap (λ (s : List ℕ). drop 4 (drop at s)) same ∙ drop-drop 4 at out in
    let written_over = take at out ++ (spelled ++ drop (at + 4) out) in
    let whole : take at slice ++ (word ++ post_of at (at + 4 - at) slice) ≡ written_over =
    λ i. take at (same i) ++ (written i ++ rest i) in
    let long : length written_over ≡ length out =
    omega (
      arith,
      length-append (take at out) (spelled ++ drop (at + 4) out),
      length-append spelled
          (drop (at + 4) out),
      length-take at out,
      length-drop (at + 4) out,
      long_four,
    ) in
    ap (λ (s : List ℕ). take (length out) (s ++ drop (length s) out)) whole
    ∙ ap (λ (s : List ℕ). take (length out) (written_over ++ s)) (drop_all (length written_over) out
    (omega (arith, long)))
    ∙ ap (take (length out)) (append-nil written_over) ∙ take_all (length out) written_over (omega (arith, long))

-- what is put between a frame's four bytes for its length and the length itself
pub record IsOpen (table : Table) (first put : List ℕ) (fields : List Field) : Type 0 where
  pub put_is : put ≡ (first ++ spelling (Word 0)) ++ spelled fields
  pub fits : IsFrameBody table fields

pub opened : (table : Table) (first word put : List ℕ) (fields : List Field) → word ≡ first ++ spelling (Word 0)
    → IsPut (tagged table) fields word put → AreShort fields → IsOpen table first put fields
opened table first word put fields begun is short = record {
  put_is = is.0 ∙ ap (λ (t : List ℕ). t ++ spelled fields) begun;
  fits = record { fits = is.1; short = short };
}

module _ (table : Table) (first put : List ℕ) (fields : List Field) (open_is : IsOpen table first put fields) where
  put_long : length put ≡ length first + 4 + length (spelled fields)
  put_long =
      let four = length_word 0 in
      omega (
        arith,
        ap length open_is.put_is,
        length-append (first ++ spelling (Word 0)) (spelled fields),
        length-append first (spelling (Word 0)),
        four,
      )

  pub has_room : (at : ℕ) → at ≡ length first → at + 4 ≤ length put
  has_room at is = let long = put_long in omega (arith, long, is)

  pub is_short : (at : ℕ) → at ≡ length first → length put ≤ at + 131076
  is_short at is = let long = put_long in omega (arith, long, is, open_is.fits.short)

  -- then the frame stands behind what stood there
  pub closed : (at : ℕ) (new : List ℕ) → at ≡ length first
      → new ≡ take at put ++ (spelling (Word (length put - (at + 4))) ++ drop (at + 4) put)
      → new ≡ first ++ frame_of fields
  closed at new is now =
      let body = spelled fields in
      let long = put_long in
      let four = length_word 0 in
      let parts : put ≡ first ++ (spelling (Word 0) ++ body) = open_is.put_is
      ∙ append_assoc first (spelling (Word 0)) body in
      let front : take at put ≡ first = ap (take at) parts ∙ take_at first (spelling (Word 0) ++ body) at (sym is) in
      let rest : drop (at + 4) put ≡ body =
      ap (drop (at + 4)) open_is.put_is
      ∙ drop_at (first ++ spelling (Word 0)) body (at + 4) (omega
      (arith, is, length-append first (spelling (Word 0)), four)) in
      let len : length put - (at + 4) ≡ length body = omega (arith, long, is) in
      now ∙ (λ i. front i ++ (spelling (Word (len i)) ++ rest i))
      ∙ ap (λ (s : List ℕ). first ++ s) (sym (text_spelled body))
