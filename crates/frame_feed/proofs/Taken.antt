-- What a take into the spare room of a buffer tells.
use Rattle.std.proofs.Common.{◌≡◌, ℕ, ◌+◌, ◌-◌, ◌<◌, ◌≤◌, List, [], ◌++◌, length, take, drop, Option, sym, ap, ◌∙◌, append-nil, arith}
use Rattle.std.proofs.lemmas.List.{take_all, drop_all, length-append, length-take, length-drop}
use Rattle.std.proofs.Math.Seq.{take-append-add}
use Rattle.far_io.specs.Left.{in_front, IsAtEnd}
use Rattle.far_io.specs.Gains.{Gains}
use Rattle.far_io.proofs.Left.{in_front_of}
use borrow.Rule.Slice.PartMut.{post_of}

pub taken_into : (old mid slice out new : List ℕ) (len count : ℕ) (before now : Option (List ℕ)) → len ≡ length old
    → take (length old) mid ≡ old → length old ≤ length mid → slice ≡ mid
    → length out ≡ length slice - len → count ≤ length out
    → new ≡ take (len + count) (take (length mid) ((take len slice ++ (out ++ post_of len (length slice - len) slice))
    ++ drop (length (take len slice ++ (out ++ post_of len (length slice - len) slice))) mid))
    → 0 < length out → before ≡ in_front (take count out) now → (count ≡ 0 → 0 < length out → IsAtEnd now)
    → Gains old new before now count
taken_into old mid slice out new len count before now len_is front room same out_len few is some bytes end =
    let here : take len slice ≡ old = ap (λ (s : List ℕ). take len s) same ∙ ap (λ (n : ℕ). take n mid) len_is
    ∙ front in
    let none : post_of len (length slice - len) slice ≡ [] = drop_all (length slice - len) (drop len slice)
    (omega (arith, length-drop len slice)) in
    let whole : take len slice ++ (out ++ post_of len (length slice - len) slice) ≡ old ++ out =
    ap (λ (s : List ℕ). s ++ (out ++ post_of len (length slice - len) slice)) here
    ∙ ap (λ (s : List ℕ). old ++ (out ++ s)) none ∙ ap (λ (s : List ℕ). old ++ s) (append-nil out) in
    let long : length (old ++ out) ≡ length mid = omega (
      arith,
      length-append old out,
      out_len,
      ap length same,
      len_is,
      room,
    ) in
    let all : take (length mid) ((old ++ out) ++ drop (length (old ++ out)) mid) ≡ old ++ out =
    ap (λ (s : List ℕ). take (length mid) ((old ++ out) ++ s)) (drop_all (length (old ++ out)) mid
    (omega (arith, long))) ∙ ap (take (length mid)) (append-nil (old ++ out))
    ∙ take_all (length mid) (old ++ out) (omega (arith, long)) in
    let grows : new ≡ old ++ take count out =
    is ∙ ap (λ (s : List ℕ). take (len + count) (take (length mid) (s ++ drop (length s) mid))) whole
    ∙ ap (take (len + count)) all ∙ ap (λ (n : ℕ). take (n + count) (old ++ out)) len_is
    ∙ take-append-add old out count in
    record {
      piece = take count out;
      grows = grows;
      long = omega (arith, length-take count out, few);
      same = ap (λ (s : List ℕ). in_front s now) grows ∙ sym (in_front_of old (take count out) now)
          ∙ ap (in_front old) (sym bytes);
      end = λ nothing. end nothing some;
    }
