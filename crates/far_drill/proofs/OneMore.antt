-- The lines of bytes to which one more came.
use Rattle.std.proofs.Common.{◌≡◌, ◌≢◌, ℕ, eqb, List, [], ◌∷◌, ◌++◌, inl, inr, refl, sym, ◌∙◌, ap, append_assoc, append-nil}
use Rattle.std.proofs.lemmas.Bool.{cond-true, cond-false, ne_eqb, eq-eqb}
use Rattle.std.proofs.lemmas.Bool.Decides.{eqb_tells}
use Rattle.far_io.specs.Lines.{ended_lines_of, on_ended, part_after, last_part}
use Rattle.far_io.proofs.LineLaws.{part_after_both}

-- this part, at the front of the first line
abbrev front : List ℕ → List (List ℕ) → List (List ℕ)
front part [] = []
front part (line ∷ lines) = (part ++ line) ∷ lines

front_none : (lines : List (List ℕ)) → front [] lines ≡ lines
front_none [] = refl
front_none (line ∷ lines) = refl

front_more : (part : List ℕ) (byte : ℕ) (lines : List (List ℕ)) → front part (on_ended byte lines) ≡ front (part ++ byte ∷ []) lines
unfolding on_ended
front_more part byte [] = refl
front_more part byte (line ∷ lines) = ap (λ l. l ∷ lines) (sym (append_assoc part (byte ∷ []) line))

-- bytes that begin with a line end, and with another byte
ended_end : (byte : ℕ) (bytes : List ℕ) → byte ≡ 10 → ended_lines_of (byte ∷ bytes) ≡ [] ∷ ended_lines_of bytes
unfolding ended_lines_of
ended_end byte bytes ends = cond-true (eqb byte 10) ([] ∷ ended_lines_of bytes) (on_ended byte (ended_lines_of bytes)) (eq-eqb byte 10 ends)

ended_more : (byte : ℕ) (bytes : List ℕ) → byte ≢ 10 → ended_lines_of (byte ∷ bytes) ≡ on_ended byte (ended_lines_of bytes)
unfolding ended_lines_of
ended_more byte bytes other = cond-false (eqb byte 10) ([] ∷ ended_lines_of bytes) (on_ended byte (ended_lines_of bytes)) (ne_eqb byte 10 other)

part_end : (part : List ℕ) (byte : ℕ) (bytes : List ℕ) → byte ≡ 10 → part_after part (byte ∷ bytes) ≡ part_after [] bytes
unfolding part_after
part_end part byte bytes ends = ap (λ p. part_after p bytes) (cond-true (eqb byte 10) [] (part ++ byte ∷ []) (eq-eqb byte 10 ends))

part_more : (part : List ℕ) (byte : ℕ) (bytes : List ℕ) → byte ≢ 10 → part_after part (byte ∷ bytes) ≡ part_after (part ++ byte ∷ []) bytes
unfolding part_after
part_more part byte bytes other = ap (λ p. part_after p bytes) (cond-false (eqb byte 10) [] (part ++ byte ∷ []) (ne_eqb byte 10 other))

part_none : (part : List ℕ) → part_after part [] ≡ part
unfolding part_after
part_none part = refl

ended_empty : ended_lines_of [] ≡ []
unfolding ended_lines_of
ended_empty = refl

ended_alone : ended_lines_of (10 ∷ []) ≡ [] ∷ []
unfolding ended_lines_of
ended_alone = refl

ended_nothing : (byte : ℕ) → byte ≢ 10 → ended_lines_of (byte ∷ []) ≡ ended_lines_of []
unfolding ended_lines_of on_ended
ended_nothing byte other = cond-false (eqb byte 10) ([] ∷ []) (on_ended byte []) (ne_eqb byte 10 other)

-- after a line end
ends_front : (part bytes : List ℕ) → front part (ended_lines_of (bytes ++ 10 ∷ [])) ≡ front part (ended_lines_of bytes) ++ part_after part bytes ∷ []
ends_front part [] = ap (front part) ended_alone ∙ ap (λ line. line ∷ []) (append-nil part ∙ sym (part_none part)) ∙ ap (λ lines. front part lines ++ part_after part [] ∷ []) (sym ended_empty)
ends_front part (byte ∷ bytes) = elim (eqb_tells byte 10) [
  | inl is ↦
      ap (front part) (ended_end byte (bytes ++ 10 ∷ []) is.1)
      ∙ ap (λ lines. (part ++ []) ∷ lines) (sym (front_none _) ∙ ends_front [] bytes ∙ ap (λ lines. lines ++ part_after [] bytes ∷ []) (front_none _))
      ∙ ap (λ lines. front part lines ++ part_after [] bytes ∷ []) (sym (ended_end byte bytes is.1))
      ∙ ap (λ p. front part (ended_lines_of (byte ∷ bytes)) ++ p ∷ []) (sym (part_end part byte bytes is.1))
  | inr other ↦
      ap (front part) (ended_more byte (bytes ++ 10 ∷ []) other.1)
      ∙ front_more part byte _ ∙ ends_front (part ++ byte ∷ []) bytes
      ∙ ap (λ lines. lines ++ part_after (part ++ byte ∷ []) bytes ∷ []) (sym (front_more part byte _) ∙ ap (front part) (sym (ended_more byte bytes other.1)))
      ∙ ap (λ p. front part (ended_lines_of (byte ∷ bytes)) ++ p ∷ []) (sym (part_more part byte bytes other.1))
]

pub lines_ended : (bytes : List ℕ) → ended_lines_of (bytes ++ 10 ∷ []) ≡ ended_lines_of bytes ++ last_part bytes ∷ []
lines_ended bytes = sym (front_none _) ∙ ends_front [] bytes ∙ ap (λ lines. lines ++ last_part bytes ∷ []) (front_none _)

-- after another byte
pub lines_kept : (bytes : List ℕ) (byte : ℕ) → byte ≢ 10 → ended_lines_of (bytes ++ byte ∷ []) ≡ ended_lines_of bytes
lines_kept [] byte other = ended_nothing byte other
lines_kept (first ∷ bytes) byte other = elim (eqb_tells first 10) [
  | inl is ↦ ended_end first _ is.1 ∙ ap (λ lines. [] ∷ lines) (lines_kept bytes byte other) ∙ sym (ended_end first bytes is.1)
  | inr more ↦ ended_more first _ more.1 ∙ ap (on_ended first) (lines_kept bytes byte other) ∙ sym (ended_more first bytes more.1)
]

pub part_kept : (bytes : List ℕ) (byte : ℕ) → byte ≢ 10 → last_part (bytes ++ byte ∷ []) ≡ last_part bytes ++ byte ∷ []
part_kept bytes byte other = part_after_both [] bytes (byte ∷ []) ∙ part_more (last_part bytes) byte [] other ∙ part_none _
