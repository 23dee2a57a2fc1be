-- What read_line answers at each of its exits.
use Rattle.std.proofs.Common.{◌≡◌, ℕ, ◌+◌, ◌-◌, ◌^◌, ◌<◌, ◌≤◌, min, Bool, true, false, List, [], ◌∷◌, ◌++◌, length, take, drop, Option, Some, Ok, Err, refl, sym, ◌∙◌, ap, subst, inl, inr, append_assoc, append-nil, arith}
use Rattle.std.proofs.lemmas.List.{length-append, length-take, nil_from_length, take_all, drop_all}
use Rattle.far_io.specs.declared.lines.LineEnd.TheVariants.{End, ReadFault, TooLong}
use Rattle.far_io.specs.Left.{in_front, IsAtEnd}
use Rattle.far_io.specs.Gains.{Gains}
use Rattle.far_io.specs.LineView.{LineView, AnswersAtOnce}
use Rattle.far_io.specs.Lines.{line_of, IsFirstLine}
use Rattle.far_io.specs.Reads.{Reads, ReadsLine}
use Rattle.far_io.proofs.Left.{in_front_of, in_front_none, in_front_told}
use Rattle.far_io.proofs.LineLaws.{length_line_of, line_all, line_twice, longer_line, first_line, ended_line, last_line, parts_at_end}

gains_none : (old new : List ℕ) (before now : Option (List ℕ)) (count : ℕ) → count ≡ 0 → Gains old new before now count → new ≡ old
gains_none old new before now count none gains =
    gains.grows ∙ ap (λ piece. old ++ piece) (nil_from_length gains.piece (gains.long ∙ none)) ∙ append-nil old

pub reads_too_long : (before left : Option (List ℕ)) (old new : LineView) (limit end : ℕ) → in_front new.ahead left ≡ before → limit ≡ old.limit → new.number ≡ old.number
    → end ≡ length (line_of new.ahead) → limit < end → Reads before (in_front new.ahead left) old new (Err (TooLong limit))
reads_too_long before left old new limit end same is_limit number is_end long =
    let longer : limit < length (line_of new.ahead) = omega arith in
    record {
      number = number;
      kept = same;
      limit_is = is_limit;
      long = longer;
      told = λ bytes told.
          let got = in_front_told new.ahead bytes left (same ∙ told) in
          let long : limit < length (line_of bytes) = subst (λ all. limit < length (line_of all)) (sym got.2) (omega (arith, longer_line new.ahead got.0)) in
          (long, first_line bytes (omega (arith, length_line_of bytes)));
    }

pub reads_line : (before left : Option (List ℕ)) (old : LineView) (ahead : List ℕ) (limit number end : ℕ) (ended : Bool) → in_front ahead left ≡ before → number ≡ old.number → ended ≡ false → old.ended ≡ false
    → end ≡ length (line_of ahead) → end < length ahead → end ≤ old.limit
    → Reads before (in_front (drop (end + 1) ahead) left) old (record { limit = limit; line = take end ahead; ahead = drop (end + 1) ahead; number = min (number + 1) (2 ^ 64 - 1); ended = ended }) (Ok tt)
reads_line before left old ahead limit number end ended same is_number going was_going is_end short fits =
    let parts = parts_at_end ahead end is_end short in
    let line = take end ahead in
    let rest = drop (end + 1) ahead in
    let whole : line_of line ≡ line = ap line_of parts.0 ∙ line_twice ahead ∙ sym parts.0 in
    let spelled : before ≡ in_front (line ++ 10 ∷ []) (in_front rest left) =
    sym same ∙ ap (λ all. in_front all left) parts.1 ∙ sym (in_front_of (line ++ 10 ∷ []) rest left) in
    record {
      fits = omega (arith, length-take end ahead);
      number = ap (λ n. min (n + 1) (2 ^ 64 - 1)) is_number;
      spelled = (whole, inl (going, spelled));
      going = was_going;
      told = λ bytes told.
          let got = in_front_told (line ++ 10 ∷ []) bytes (in_front rest left) (sym spelled ∙ told) in
          (got.0, got.1, subst (λ all. IsFirstLine all line got.0) (sym (got.2 ∙ append_assoc line (10 ∷ []) got.0)) (ended_line line got.0 whole));
    }

pub reads_last : (before left now : Option (List ℕ)) (old : LineView) (ahead more : List ℕ) (limit number end count : ℕ) → in_front ahead left ≡ before → number ≡ old.number → old.ended ≡ false
    → end ≡ length (line_of ahead) → length ahead ≤ end → end ≤ old.limit → 0 < end → count ≡ 0 → Gains ahead more left now count
    → Reads before (in_front (drop end more) now) old (record { limit = limit; line = take end more; ahead = drop end more; number = min (number + 1) (2 ^ 64 - 1); ended = true }) (Ok tt)
reads_last before left now old ahead more limit number end count same is_number was_going is_end long fits some none gains =
    let whole : line_of ahead ≡ ahead = line_all ahead (subst (λ n. length ahead ≤ n) is_end long) in
    let all : more ≡ ahead = gains_none ahead more left now count none gains in
    let line : take end more ≡ ahead = ap (take end) all ∙ take_all end ahead long in
    let rest : drop end more ≡ [] = ap (drop end) all ∙ drop_all end ahead long in
    let left_is : in_front (drop end more) now ≡ now = ap (λ x. in_front x now) rest ∙ in_front_none now in
    let spelled : before ≡ in_front ahead now = sym same ∙ sym gains.same ∙ ap (λ x. in_front x now) all in
    let size : length ahead ≡ end = omega (arith, length_line_of ahead) in
    let stated : ReadsLine before now old (record { limit = limit; line = ahead; ahead = drop end more; number = min (number + 1) (2 ^ 64 - 1); ended = true }) = record {
      fits = omega arith;
      number = ap (λ n. min (n + 1) (2 ^ 64 - 1)) is_number;
      spelled = (whole, inr (refl, omega arith, spelled));
      going = was_going;
      told = λ bytes told.
          let got = in_front_told ahead bytes now (sym spelled ∙ told) in
          let nothing : got.0 ≡ [] = gains.end none got.0 got.1 in
          let bytes_are : bytes ≡ ahead = got.2 ∙ ap (λ x. ahead ++ x) nothing ∙ append-nil ahead in
          ([], got.1 ∙ ap Some nothing, subst (λ x. IsFirstLine x ahead []) (sym bytes_are) (last_line ahead (omega arith) whole));
    } in
    rw (line, left_is) stated

-- what stands ahead is nothing, and nothing came
nothing_ahead : (left now : Option (List ℕ)) (ahead more : List ℕ) (end count : ℕ)
    → end ≡ length (line_of ahead) → length ahead ≤ end → end ≡ 0 → count ≡ 0 → Gains ahead more left now count → more ≡ []
nothing_ahead left now ahead more end count is_end long none nothing gains =
    gains_none ahead more left now count nothing gains ∙ nil_from_length ahead (omega arith)

pub reads_end : (before left now : Option (List ℕ)) (old new : LineView) (ahead : List ℕ) (end count : ℕ) → in_front ahead left ≡ before → new.number ≡ old.number → new.ended ≡ true
    → end ≡ length (line_of ahead) → length ahead ≤ end → end ≡ 0 → count ≡ 0 → Gains ahead new.ahead left now count
    → Reads before (in_front new.ahead now) old new (Err End)
reads_end before left now old new ahead end count same number ended is_end long none nothing gains = record {
  number = number;
  ahead = nothing_ahead left now ahead new.ahead end count is_end long none nothing gains;
  kept = gains.same ∙ same;
  ended = ended;
}

-- then all that was to be read is nothing, where that is told
pub end_told : (before left now : Option (List ℕ)) (ahead more : List ℕ) (end count : ℕ) → in_front ahead left ≡ before
    → end ≡ length (line_of ahead) → length ahead ≤ end → end ≡ 0 → count ≡ 0 → Gains ahead more left now count → IsAtEnd before
end_told before left now ahead more end count same is_end long none nothing gains bytes told =
    let empty : more ≡ [] = nothing_ahead left now ahead more end count is_end long none nothing gains in
    let got = in_front_told more bytes now (gains.same ∙ same ∙ told) in
    got.2 ∙ ap (λ x. x ++ got.0) empty ∙ gains.end nothing got.0 got.1

-- the same where the end is remembered
pub end_remembered : (ahead : List ℕ) (left : Option (List ℕ)) → ahead ≡ [] → IsAtEnd left → IsAtEnd (in_front ahead left)
end_remembered ahead left empty over bytes told =
    let got = in_front_told ahead bytes left told in got.2 ∙ ap (λ x. x ++ got.0) empty ∙ over got.0 got.1

pub reads_ended : (left : Option (List ℕ)) (old : LineView) → old.ahead ≡ [] → old.ended ≡ true → Reads (in_front old.ahead left) (in_front old.ahead left) old old (Err End)
reads_ended left old empty ended = record { number = refl; kept = refl; ahead = empty; ended = ended }

pub reads_fault : (before left now : Option (List ℕ)) (old new : LineView) (ahead : List ℕ) (limit end : ℕ) → in_front ahead left ≡ before → new.number ≡ old.number → old.ended ≡ false
    → limit ≡ old.limit → end ≡ length (line_of ahead) → length ahead ≤ end → end ≤ limit → new.ahead ≡ ahead → now ≡ left
    → Reads before (in_front new.ahead now) old new (Err ReadFault)
reads_fault before left now old new ahead limit end same number going is_limit is_end long fits kept left_kept =
    let whole : line_of ahead ≡ ahead = line_all ahead (subst (λ n. length ahead ≤ n) is_end long) in
    let size : length new.ahead ≡ length ahead = ap length kept in
    let bound : length new.ahead ≤ old.limit = omega (arith, length_line_of ahead) in
    record {
      number = number;
      kept = ap (λ x. in_front x now) kept ∙ ap (in_front ahead) left_kept ∙ same;
      fits = bound;
      part = ap line_of kept ∙ whole ∙ sym kept;
      going = going;
    }

-- a buffer that answers at once needs no further piece
pub answers_none : (S : Type 0) (first line searched : LineView) (limit end size : ℕ) → (AnswersAtOnce first → S × (line ≡ first)) → searched ≡ line → line.ended ≡ false
    → limit ≡ first.limit → end ≡ length (line_of searched.ahead) → size ≡ length searched.ahead → end ≤ limit → size ≤ end → AnswersAtOnce first → ⊥
answers_none S first line searched limit end size kept same going is_limit is_end is_size fits long answers =
    let is : searched ≡ first = same ∙ (kept answers).1 in
    let before : length (line_of first.ahead) ≡ end = ap (λ (l : LineView). length (line_of l.ahead)) (sym is) ∙ sym is_end in
    let all : length first.ahead ≡ size = ap (λ (l : LineView). length l.ahead) (sym is) ∙ sym is_size in
    let ended : first.ended ≡ false = ap (λ (l : LineView). l.ended) (sym (kept answers).1) ∙ going in
    elim answers [
      | inl over ↦ absurd (cc)
      | inr some ↦ elim some [
        | inl far ↦ omega (arith, far)
        | inr near ↦ omega (arith, near)
      ]
    ]

-- a search of all that was ahead, before a piece that came
pub piece_came : (ahead more : List ℕ) (left now : Option (List ℕ)) (end count : ℕ) → end ≡ length (line_of ahead) → length ahead ≤ end → Gains ahead more left now count
    → end + count ≡ length more
piece_came ahead more left now end count is_end long gains =
    omega (arith, length_line_of ahead, ap length gains.grows, length-append ahead gains.piece, gains.long)
