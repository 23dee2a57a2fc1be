-- Laws of lines.
use Rattle.std.proofs.Common.{◌≡◌, ◌≢◌, ℕ, ◌+◌, ◌<◌, ◌≤◌, eqb, List, [], ◌∷◌, ◌++◌, length, take, drop, get_or, zero, suc, refl, sym, ◌∙◌, ap, subst, inl, inr, append_assoc, append-nil, cond, arith, add-one}
use Rattle.std.proofs.lemmas.Bool.{cond-true, cond-false, ne_eqb, eq-eqb, cases_lt}
use Rattle.std.proofs.lemmas.Bool.Decides.{eqb_tells}
use Rattle.std.proofs.lemmas.List.{take_at, drop_at, take_all, take-append-le, length-append}
use Rattle.far_io.specs.LineView.{IsSearched}
use Rattle.far_io.specs.Lines.{line_of, after_line, on_first, lines_of, on_ended, ended_lines_of, part_after, last_part, IsFirstLine}

pub line_of_more : (b : ℕ) (bs : List ℕ) → b ≢ 10 → line_of (b ∷ bs) ≡ b ∷ line_of bs
unfolding line_of
line_of_more b bs other = cond-false (eqb b 10) [] (b ∷ line_of bs) (ne_eqb b 10 other)

pub line_of_end : (b : ℕ) (bs : List ℕ) → b ≡ 10 → line_of (b ∷ bs) ≡ []
unfolding line_of
line_of_end b bs ends = cond-true (eqb b 10) [] (b ∷ line_of bs) (eq-eqb b 10 ends)

after_line_more : (b : ℕ) (bs : List ℕ) → b ≢ 10 → after_line (b ∷ bs) ≡ after_line bs
unfolding after_line
after_line_more b bs other = cond-false (eqb b 10) bs (after_line bs) (ne_eqb b 10 other)

after_line_end : (b : ℕ) (bs : List ℕ) → b ≡ 10 → after_line (b ∷ bs) ≡ bs
unfolding after_line
after_line_end b bs ends = cond-true (eqb b 10) bs (after_line bs) (eq-eqb b 10 ends)

lines_of_more : (b : ℕ) (bs : List ℕ) → b ≢ 10 → lines_of (b ∷ bs) ≡ on_first b (lines_of bs)
unfolding lines_of
lines_of_more b bs other = cond-false (eqb b 10) ([] ∷ lines_of bs) (on_first b (lines_of bs)) (ne_eqb b 10 other)

lines_of_end : (b : ℕ) (bs : List ℕ) → b ≡ 10 → lines_of (b ∷ bs) ≡ [] ∷ lines_of bs
unfolding lines_of
lines_of_end b bs ends = cond-true (eqb b 10) ([] ∷ lines_of bs) (on_first b (lines_of bs)) (eq-eqb b 10 ends)

pub line_of_none : line_of [] ≡ []
unfolding line_of
line_of_none = refl

pub lines_of_none : lines_of [] ≡ []
unfolding lines_of
lines_of_none = refl

after_line_none : after_line [] ≡ []
unfolding after_line
after_line_none = refl

on_first_line : (b : ℕ) (line : List ℕ) (lines : List (List ℕ)) → on_first b (line ∷ lines) ≡ (b ∷ line) ∷ lines
unfolding on_first
on_first_line b line lines = refl

on_first_none : (b : ℕ) → on_first b [] ≡ (b ∷ []) ∷ []
unfolding on_first
on_first_none b = refl

-- where no line end stands, none stands at the front or behind it
line_of_parts : (b : ℕ) (bs : List ℕ) → line_of (b ∷ bs) ≡ b ∷ bs → (b ≢ 10) × (line_of bs ≡ bs)
line_of_parts b bs whole = elim (eqb_tells b 10) [
  | inl p ↦ let e = line_of_end b bs p.1 in absurd (cc)
  | inr p ↦ (p.1, let e = line_of_more b bs p.1 in cc)
]

pub length_line_of : (bytes : List ℕ) → length (line_of bytes) ≤ length bytes
length_line_of [] = let e = ap length line_of_none in omega arith
length_line_of (b ∷ bs) = elim (eqb_tells b 10) [
  | inl p ↦ let e = ap length (line_of_end b bs p.1) in omega arith
  | inr p ↦ let e = ap length (line_of_more b bs p.1) in omega (arith, length_line_of bs)
]

passes_suc : (bytes : List ℕ) (i : ℕ) → i < length bytes → line_of (take i bytes) ≡ take i bytes → get_or bytes i 0 ≢ 10
    → line_of (take (suc i) bytes) ≡ take (suc i) bytes
passes_suc [] i here before other = absurd (omega arith)
passes_suc (b ∷ bs) zero here before other = line_of_more b [] other ∙ ap (λ t. b ∷ t) line_of_none
passes_suc (b ∷ bs) (suc i) here before other =
    let p = line_of_parts b (take i bs) before in
    line_of_more b (take (suc i) bs) p.0 ∙ ap (λ t. b ∷ t) (passes_suc bs i (omega arith) p.1 other)

-- a byte that stands after no line end, and is none
pub passes : (bytes : List ℕ) (i : ℕ) → i < length bytes → line_of (take i bytes) ≡ take i bytes → get_or bytes i 0 ≢ 10
    → line_of (take (i + 1) bytes) ≡ take (i + 1) bytes
passes bytes i here before other = rw add-one (passes_suc bytes i here before other)

-- a line end that stands after none
pub stops : (bytes : List ℕ) (i : ℕ) → i < length bytes → line_of (take i bytes) ≡ take i bytes → get_or bytes i 0 ≡ 10
    → i ≡ length (line_of bytes)
stops [] i here before ends = absurd (omega arith)
stops (b ∷ bs) zero here before ends = let e = ap length (line_of_end b bs ends) in omega arith
stops (b ∷ bs) (suc i) here before ends =
    let p = line_of_parts b (take i bs) before in
    let e = ap length (line_of_more b bs p.0) in
    let more : i ≡ length (line_of bs) = stops bs i (omega arith) p.1 ends in
    omega arith

-- what is as long as all bytes is all of them
pub line_all : (bytes : List ℕ) → length bytes ≤ length (line_of bytes) → line_of bytes ≡ bytes
line_all [] long = line_of_none
line_all (b ∷ bs) long = elim (eqb_tells b 10) [
  | inl p ↦ let e = ap length (line_of_end b bs p.1) in absurd (omega arith)
  | inr p ↦ let e = ap length (line_of_more b bs p.1) in line_of_more b bs p.1 ∙ ap (λ t. b ∷ t) (line_all bs (omega arith))
]

-- where a line end stands, it parts the bytes
line_split : (bytes : List ℕ) → length (line_of bytes) < length bytes → bytes ≡ line_of bytes ++ 10 ∷ after_line bytes
line_split [] short = absurd (omega arith)
line_split (b ∷ bs) short = elim (eqb_tells b 10) [
  | inl p ↦ let e = line_of_end b bs p.1 in let f = after_line_end b bs p.1 in
      rw (e, f) (ap (λ x. x ∷ bs) p.1)
  | inr p ↦ let e = line_of_more b bs p.1 in let f = after_line_more b bs p.1 in let n = ap length e in
      rw (e, f) (ap (λ t. b ∷ t) (line_split bs (omega arith)))
]

pub line_twice : (bytes : List ℕ) → line_of (line_of bytes) ≡ line_of bytes
line_twice [] = ap line_of line_of_none
line_twice (b ∷ bs) = elim (eqb_tells b 10) [
  | inl p ↦ ap line_of (line_of_end b bs p.1) ∙ line_of_none ∙ sym (line_of_end b bs p.1)
  | inr p ↦ ap line_of (line_of_more b bs p.1) ∙ line_of_more b (line_of bs) p.1 ∙ ap (λ t. b ∷ t) (line_twice bs) ∙ sym (line_of_more b bs p.1)
]

pub longer_line : (xs ys : List ℕ) → length (line_of xs) ≤ length (line_of (xs ++ ys))
longer_line [] ys = let e = ap length line_of_none in omega arith
longer_line (b ∷ bs) ys = elim (eqb_tells b 10) [
  | inl p ↦ let e = ap length (line_of_end b bs p.1) in omega arith
  | inr p ↦ let e = ap length (line_of_more b bs p.1) in let f = ap length (line_of_more b (bs ++ ys) p.1) in omega (arith, longer_line bs ys)
]

-- a line with its line end is the first, whatever follows
pub ended_line : (line rest : List ℕ) → line_of line ≡ line → IsFirstLine (line ++ 10 ∷ rest) line rest
ended_line [] rest whole = record {
  line = sym (line_of_end 10 rest refl);
  rest = sym (after_line_end 10 rest refl);
  lines = lines_of_end 10 rest refl;
}
ended_line (b ∷ bs) rest whole =
    let p = line_of_parts b bs whole in
    let more = ended_line bs rest p.1 in
    record {
      line = ap (λ t. b ∷ t) more.line ∙ sym (line_of_more b (bs ++ 10 ∷ rest) p.0);
      rest = more.rest ∙ sym (after_line_more b (bs ++ 10 ∷ rest) p.0);
      lines = lines_of_more b (bs ++ 10 ∷ rest) p.0 ∙ ap (on_first b) more.lines ∙ on_first_line b bs (lines_of rest);
    }

-- a last line without a line end
pub last_line : (line : List ℕ) → 0 < length line → line_of line ≡ line → IsFirstLine line line []
last_line [] some whole = absurd (omega arith)
last_line (b ∷ []) some whole =
    let p = line_of_parts b [] whole in
    record {
      line = sym whole;
      rest = sym (after_line_more b [] p.0 ∙ after_line_none);
      lines = lines_of_more b [] p.0 ∙ ap (on_first b) lines_of_none ∙ on_first_none b ∙ ap (λ t. (b ∷ []) ∷ t) (sym lines_of_none);
    }
last_line (b ∷ c ∷ bs) some whole =
    let p = line_of_parts b (c ∷ bs) whole in
    let more = last_line (c ∷ bs) (omega arith) p.1 in
    record {
      line = sym whole;
      rest = more.rest ∙ sym (after_line_more b (c ∷ bs) p.0);
      lines = lines_of_more b (c ∷ bs) p.0 ∙ ap (on_first b) more.lines ∙ on_first_line b (c ∷ bs) (lines_of []);
    }

-- what is cut off at the line end
pub parts_at_end : (bytes : List ℕ) (end : ℕ) → end ≡ length (line_of bytes) → end < length bytes
    → (take end bytes ≡ line_of bytes) × (bytes ≡ (take end bytes ++ 10 ∷ []) ++ drop (end + 1) bytes)
parts_at_end bytes end is_end short =
    let split : bytes ≡ line_of bytes ++ 10 ∷ after_line bytes = line_split bytes (subst (λ n. n < length bytes) is_end short) in
    let front : take end bytes ≡ line_of bytes = ap (take end) split ∙ take_at (line_of bytes) (10 ∷ after_line bytes) end (sym is_end) in
    let regrouped : line_of bytes ++ 10 ∷ after_line bytes ≡ (line_of bytes ++ 10 ∷ []) ++ after_line bytes = sym (append_assoc (line_of bytes) (10 ∷ []) (after_line bytes)) in
    let back : drop (end + 1) bytes ≡ after_line bytes =
    ap (drop (end + 1)) (split ∙ regrouped) ∙ drop_at (line_of bytes ++ 10 ∷ []) (after_line bytes) (end + 1) (omega (arith, length-append (line_of bytes) (10 ∷ []))) in
    (front, rw (front, back) (split ∙ regrouped))

-- each input that isn't empty has a first line
pub first_line : (bytes : List ℕ) → 0 < length bytes → IsFirstLine bytes (line_of bytes) (after_line bytes)
first_line bytes some = elim (cases_lt (length (line_of bytes)) (length bytes)) [
  | inl short ↦ subst (λ all. IsFirstLine all (line_of bytes) (after_line bytes)) (sym (line_split bytes short)) (ended_line (line_of bytes) (after_line bytes) (line_twice bytes))
  | inr long ↦
      let whole = line_all bytes long in
      let last = last_line bytes some whole in
      let rest : after_line bytes ≡ [] = sym last.rest in
      rw (whole, rest) last
]

ended_lines_more : (b : ℕ) (bs : List ℕ) → b ≢ 10 → ended_lines_of (b ∷ bs) ≡ on_ended b (ended_lines_of bs)
unfolding ended_lines_of
ended_lines_more b bs other = cond-false (eqb b 10) ([] ∷ ended_lines_of bs) (on_ended b (ended_lines_of bs)) (ne_eqb b 10 other)

ended_lines_end : (b : ℕ) (bs : List ℕ) → b ≡ 10 → ended_lines_of (b ∷ bs) ≡ [] ∷ ended_lines_of bs
unfolding ended_lines_of
ended_lines_end b bs ends = cond-true (eqb b 10) ([] ∷ ended_lines_of bs) (on_ended b (ended_lines_of bs)) (eq-eqb b 10 ends)

on_ended_line : (b : ℕ) (line : List ℕ) (lines : List (List ℕ)) → on_ended b (line ∷ lines) ≡ (b ∷ line) ∷ lines
unfolding on_ended
on_ended_line b line lines = refl

on_ended_none : (b : ℕ) → on_ended b [] ≡ []
unfolding on_ended
on_ended_none b = refl

pub ended_first : (line rest : List ℕ) → line_of line ≡ line → ended_lines_of (line ++ 10 ∷ rest) ≡ line ∷ ended_lines_of rest
ended_first [] rest whole = ended_lines_end 10 rest refl
ended_first (b ∷ bs) rest whole =
    let p = line_of_parts b bs whole in
    ended_lines_more b (bs ++ 10 ∷ rest) p.0 ∙ ap (on_ended b) (ended_first bs rest p.1) ∙ on_ended_line b bs (ended_lines_of rest)

pub ended_nothing : ended_lines_of [] ≡ []
unfolding ended_lines_of
ended_nothing = refl

pub ended_none : (bytes : List ℕ) → line_of bytes ≡ bytes → ended_lines_of bytes ≡ []
ended_none [] whole = ended_nothing
ended_none (b ∷ bs) whole =
    let p = line_of_parts b bs whole in
    ended_lines_more b bs p.0 ∙ ap (on_ended b) (ended_none bs p.1) ∙ on_ended_none b

-- the bytes before the first line end stand at the front
line_front : (bytes : List ℕ) → take (length (line_of bytes)) bytes ≡ line_of bytes
line_front bytes = elim (cases_lt (length (line_of bytes)) (length bytes)) [
  | inl short ↦ (parts_at_end bytes (length (line_of bytes)) refl short).0
  | inr long ↦ take_all (length (line_of bytes)) bytes (omega (arith, length_line_of bytes)) ∙ sym (line_all bytes long)
]

-- a search that went to the first line end, or through all bytes
pub searched_to_end : (bytes : List ℕ) (end : ℕ) → end ≡ length (line_of bytes) → IsSearched end bytes
searched_to_end bytes end is_end =
    let front : take end bytes ≡ line_of bytes = ap (λ n. take n bytes) is_end ∙ line_front bytes in
    record { within = omega (arith, length_line_of bytes); none = ap line_of front ∙ line_twice bytes ∙ sym front }

pub searched_none : (bytes : List ℕ) → IsSearched 0 bytes
searched_none bytes = record { within = omega arith; none = line_of_none }

-- what was searched is searched where more bytes came after it
pub searched_on : (searched : ℕ) (bytes piece grown : List ℕ) → grown ≡ bytes ++ piece → IsSearched searched bytes → IsSearched searched grown
searched_on searched bytes piece grown grows found =
    let front : take searched grown ≡ take searched bytes = ap (take searched) grows ∙ take-append-le searched bytes piece found.within in
    record { within = omega (arith, ap length grows, length-append bytes piece, found.within); none = ap line_of front ∙ found.none ∙ sym front }

pub part_after_both : (part xs ys : List ℕ) → part_after part (xs ++ ys) ≡ part_after (part_after part xs) ys
unfolding part_after
part_after_both part [] ys = refl
part_after_both part (b ∷ bs) ys = part_after_both (cond (eqb b 10) [] (part ++ b ∷ [])) bs ys

part_after_end : (part : List ℕ) → part_after part (10 ∷ []) ≡ []
unfolding part_after
part_after_end part = refl

part_after_none : (part : List ℕ) → part_after part [] ≡ part
unfolding part_after
part_after_none part = refl

part_after_more : (part : List ℕ) (b : ℕ) (bs : List ℕ) → b ≢ 10 → part_after part (b ∷ bs) ≡ part_after (part ++ b ∷ []) bs
unfolding part_after
part_after_more part b bs other = ap (λ p. part_after p bs) (cond-false (eqb b 10) [] (part ++ b ∷ []) (ne_eqb b 10 other))

pub last_part_none : last_part [] ≡ []
last_part_none = part_after_none []

pub last_part_ended : (xs : List ℕ) → last_part (xs ++ 10 ∷ []) ≡ []
last_part_ended xs = part_after_both [] xs (10 ∷ []) ∙ part_after_end (part_after [] xs)

part_after_whole : (part bytes : List ℕ) → line_of bytes ≡ bytes → part_after part bytes ≡ part ++ bytes
part_after_whole part [] whole = part_after_none part ∙ sym (append-nil part)
part_after_whole part (b ∷ bs) whole =
    let p = line_of_parts b bs whole in
    part_after_more part b bs p.0 ∙ part_after_whole (part ++ b ∷ []) bs p.1 ∙ append_assoc part (b ∷ []) bs

-- what has no line end, after bytes that end with one
pub last_part_is : (seen part : List ℕ) → last_part seen ≡ [] → line_of part ≡ part → last_part (seen ++ part) ≡ part
last_part_is seen part ended whole = part_after_both [] seen part ∙ ap (λ p. part_after p part) ended ∙ part_after_whole [] part whole
