-- A take of what waits of a line.
use Rattle.std.proofs.Common.{◌≡◌, ℕ, ◌+◌, ◌<◌, ◌≤◌, min, List, [], ◌∷◌, ◌++◌, length, take, drop, Some, Ok, inl, inr, refl, sym, ◌∙◌, ap, subst, arith}
use Rattle.std.proofs.lemmas.Bool.{cases_lt}
use Rattle.std.proofs.lemmas.List.{drop-append-le, take-append-le, length-drop, length-append, drop_all}
use Rattle.far_io.specs.Left.{Takes}
use Rattle.far_io.specs.declared.outside.Failed.{Failed}
use Rattle.far_io.proofs.Left.{takes_memory}
use Rattle.far_drill.specs.Script.{text_of}
use Rattle.far_drill.specs.Source.{lines_left}
use Rattle.far_drill.specs.declared.script.Place.{Place}
use Rattle.far_drill.specs.declared.source.DrillSource.TheInside.{Inside}

-- so much is left, of which some waits unless nothing is left
pub record IsReady (left : List ℕ) (source : Inside) : Type 0 where
  pub whole : left ≡ drop source.at source.piece ++ text_of (lines_left source.place)
  pub within : source.at ≤ length source.piece
  pub end : length source.piece ≤ source.at → text_of (lines_left source.place) ≡ []

none_longer : (xs : List ℕ) → length xs ≤ 0 → xs ≡ []
none_longer [] short = refl
none_longer (x ∷ xs) short = absurd (omega (arith, short))

-- where a line had been taken whole, the next one waits
pub ready_next : (left piece : List ℕ) (place : Place) (source : Inside) → left ≡ drop source.at source.piece ++ text_of (lines_left source.place) → length source.piece ≤ source.at
    → text_of (lines_left source.place) ≡ piece ++ text_of (lines_left place) → (piece ≡ [] → lines_left place ≡ []) → IsReady left (record { piece = piece; at = 0; place = place })
ready_next left piece place source is_left taken next end = record {
  whole = is_left ∙ ap (λ xs. xs ++ text_of (lines_left source.place)) (drop_all source.at source.piece taken) ∙ next;
  within = omega arith;
  end = λ short. ap text_of (end (none_longer piece short));
}

pub ready_still : (left : List ℕ) (source : Inside) → left ≡ drop source.at source.piece ++ text_of (lines_left source.place) → source.at < length source.piece → IsReady left source
ready_still left source is_left more = record { whole = is_left; within = omega (arith, more); end = λ short. absurd (omega (arith, more, short)) }

pub takes_line : (left out : List ℕ) (source : Inside) (count : ℕ) → IsReady left source → count ≡ min (length (drop source.at source.piece)) (length out)
    → take count out ≡ take count (drop source.at source.piece)
    → Takes {E = Failed} (Some left) (Some (drop (source.at + count) source.piece ++ text_of (lines_left source.place))) (Ok count) out
takes_line left out source count ready is_count copied =
    let piece = source.piece in
    let rest = text_of (lines_left source.place) in
    let waits = length-drop source.at piece in
    let here : drop source.at (piece ++ rest) ≡ drop source.at piece ++ rest = drop-append-le source.at piece rest ready.within in
    let after : drop (source.at + count) (piece ++ rest) ≡ drop (source.at + count) piece ++ rest = drop-append-le (source.at + count) piece rest (omega (arith, is_count, waits, ready.within)) in
    let taken : take count out ≡ take count (drop source.at (piece ++ rest)) =
    copied ∙ sym (take-append-le count (drop source.at piece) rest (omega (arith, is_count))) ∙ ap (take count) (sym here) in
    let some : 0 < length out → source.at < length (piece ++ rest) → 0 < count = λ room more. elim (cases_lt source.at (length piece)) [
      | inl less ↦ omega (arith, is_count, waits, room, less)
      | inr taken_all ↦ absurd (omega (arith, more, length-append piece rest, ap length (ready.end taken_all), taken_all))
    ] in
    subst (λ xs. Takes {E = Failed} (Some xs) (Some (drop (source.at + count) piece ++ rest)) (Ok count) out) (here ∙ sym ready.whole)
    (subst (λ xs. Takes {E = Failed} (Some (drop source.at (piece ++ rest))) (Some xs) (Ok count) out) after
    (takes_memory Failed (piece ++ rest) (piece ++ rest) out source.at count refl taken some))
