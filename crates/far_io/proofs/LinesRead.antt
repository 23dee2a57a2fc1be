-- What a run over lines keeps of the lines that it read.
use Rattle.std.proofs.Common.{◌≡◌, ℕ, Bool, false, List, [], ◌∷◌, ◌++◌, length, Option, Some, refl, sym, ◌∙◌, ap, inl, inr, append_assoc, append-nil, arith}
use Rattle.far_io.specs.Left.{in_front}
use Rattle.far_io.specs.LineView.{LineView}
use Rattle.far_io.specs.Lines.{lines_of, ended_lines_of, last_part}
use Rattle.far_io.specs.Reads.{ReadsLine, ReadsFault, SeenAtFault}
use Rattle.far_io.proofs.Left.{in_front_told}
use Rattle.far_io.proofs.LineLaws.{ended_first, ended_none, last_part_none, last_part_ended, last_part_is}

-- These lines were read, and this is left. While none of them was a last one without a line end, they are the ended lines of what was seen.
pub record LinesRead (input left : Option (List ℕ)) (lines : List (List ℕ)) (ended : Bool) : Type 0 where
  pub whole : (bytes : List ℕ) → input ≡ Some bytes → (rest : List ℕ) × (left ≡ Some rest) × (lines_of bytes ≡ lines ++ lines_of rest)
  pub seen : ended ≡ false → (bytes : List ℕ) → input ≡ Some bytes → (seen : List ℕ) × (rest : List ℕ) × (left ≡ Some rest) × (bytes ≡ seen ++ rest)
      × (last_part seen ≡ []) × ((more : List ℕ) → ended_lines_of (seen ++ more) ≡ lines ++ ended_lines_of more)

pub lines_none : (input : Option (List ℕ)) (ended : Bool) → LinesRead input input [] ended
lines_none input ended = record {
  whole = λ bytes told. (bytes, told, refl);
  seen = λ going bytes told. ([], bytes, told, refl, last_part_none, λ more. refl);
}

-- the line was taken from what was left, with its line end
pub ended_piece : (left now : Option (List ℕ)) (old new : LineView) → ReadsLine left now old new → new.ended ≡ false → (others : List ℕ) → left ≡ Some others
    → (rest : List ℕ) × (now ≡ Some rest) × (others ≡ (new.line ++ 10 ∷ []) ++ rest)
ended_piece left now old new reads going others told = elim reads.spelled.1 [
  | inl p ↦ in_front_told (new.line ++ 10 ∷ []) others now (sym p.1 ∙ told)
  | inr p ↦ absurd (cc (p.0, going))
]

-- one more line was read
pub lines_more : (input left now : Option (List ℕ)) (lines : List (List ℕ)) (old new : LineView) → LinesRead input left lines old.ended → ReadsLine left now old new
    → LinesRead input now (lines ++ new.line ∷ []) new.ended
lines_more input left now lines old new before reads =
    let line = new.line in
    let piece = line ++ 10 ∷ [] in
    record {
      whole = λ bytes told.
          let a = before.whole bytes told in
          let got = reads.told a.0 a.1 in
          (got.0, got.1, a.2 ∙ ap (λ t. lines ++ t) got.2.lines ∙ sym (append_assoc lines (line ∷ []) (lines_of got.0)));
      seen = λ going bytes told.
          let a = before.seen reads.going bytes told in
          let got = ended_piece left now old new reads going a.1 a.2 in (
            a.0 ++ piece,
            got.0,
            got.1,
            a.3 ∙ ap (λ t. a.0 ++ t) got.2 ∙ sym (append_assoc a.0 piece got.0),
            ap last_part (sym (append_assoc a.0 line (10 ∷ []))) ∙ last_part_ended (a.0 ++ line),
            λ more. ap ended_lines_of (append_assoc a.0 piece more) ∙ a.5 (piece ++ more)
                ∙ ap (λ t. lines ++ t) (ap ended_lines_of (append_assoc line (10 ∷ []) more) ∙ ended_first line more reads.spelled.0)
                ∙ sym (append_assoc lines (line ∷ []) (ended_lines_of more)),
          );
    }

-- what is known where the source failed then
pub lines_at_fault : (input left left_now : Option (List ℕ)) (lines : List (List ℕ)) (old new : LineView) → LinesRead input left lines old.ended
    → ReadsFault left (in_front new.ahead left_now) old new → SeenAtFault input left_now lines old.limit
lines_at_fault input left left_now lines old new before fault = record {
  told = λ bytes told.
      let a = before.seen fault.going bytes told in
      let got = in_front_told new.ahead a.1 left_now (fault.kept ∙ a.2) in
      let size = ap length (last_part_is a.0 new.ahead a.4 fault.part) in (
        a.0 ++ new.ahead,
        got.0,
        got.1,
        a.3 ∙ ap (λ t. a.0 ++ t) got.2 ∙ sym (append_assoc a.0 new.ahead got.0),
        a.5 new.ahead ∙ ap (λ t. lines ++ t) (ended_none new.ahead fault.part) ∙ append-nil lines,
        omega (arith, size, fault.fits),
      );
}
