-- Laws of parts of a buffer.
use Rattle.std.proofs.Common.{◌≡◌, ℕ, ◌+◌, ◌-◌, ◌≤◌, List, ◌++◌, length, take, drop, take-add, sym, ◌∙◌, ap, arith, Option, Result, Ok, Err}
use Rattle.std.specs.Prelude.{slice_range, MatchResult}
use Rattle.std.specs.Io.{ReadsAtMost}
use Rattle.std.specs.List.{copy_within}
use Rattle.far_io.specs.Left.{in_front, IsAtEnd, Takes}
use Rattle.far_io.specs.Gains.{Gains}
use Rattle.far_io.proofs.Left.{in_front_of}
use Rattle.std.proofs.lemmas.List.{take-take, drop-take, drop-drop, drop-append-le, length-take, length-drop, take_at}
use Rattle.std.proofs.lemmas.Slice.{between_is, between-put_mid, between_from_start}
use borrow.Rule.Slice.PartMut.{put_mid}

pub part_front : (bytes : List ℕ) (from to end : ℕ) → from + end ≤ to → slice_range bytes from (from + end) ≡ take end (slice_range bytes from to)
part_front bytes from to end fits =
    let n : from + end - from ≡ end = omega arith in
    rw n (sym (take-take end (to - from) (drop from bytes) (omega arith)))

pub part_rest : (bytes : List ℕ) (from to rest : ℕ) → from + rest ≤ to → slice_range bytes (from + rest) to ≡ drop rest (slice_range bytes from to)
part_rest bytes from to rest fits =
    let n : to - from ≡ rest + (to - (from + rest)) = omega arith in
    sym (ap (λ k. drop rest (take k (drop from bytes))) n ∙ drop-take rest (to - (from + rest)) (drop from bytes) ∙ ap (take (to - (from + rest))) (drop-drop rest from bytes))

pub length_part : (bytes : List ℕ) (from to : ℕ) → length (slice_range bytes from to) ≤ to - from
length_part bytes from to = omega (arith, length-take (to - from) (drop from bytes))

pub length_part_in : (bytes : List ℕ) (from to : ℕ) → to ≤ length bytes → length (slice_range bytes from to) ≡ to - from
length_part_in bytes from to fits = omega (arith, length-take (to - from) (drop from bytes), length-drop from bytes)

pub part_more : (old new : List ℕ) (from to count : ℕ) → take to new ≡ take to old → from ≤ to → to + count ≤ length new
    → slice_range new from (to + count) ≡ slice_range old from to ++ slice_range new to (to + count)
part_more old new from to count same order fits =
    let room : from ≤ length (take to new) = omega (arith, length-take to new) in
    between_is new from (to + count) ∙ ap (drop from) (take-add to count new)
    ∙ drop-append-le from (take to new) (take count (drop to new)) room
    ∙ ap (λ front. drop from front ++ take count (drop to new)) same
    ∙ ap (λ front. front ++ take count (drop to new)) (sym (between_is old from to))
    ∙ ap (λ k. slice_range old from to ++ take k (drop to new)) (omega arith)

-- what stands where a piece was written
part_written : (bytes out : List ℕ) (at count : ℕ) → at + 65536 ≤ length bytes → length out ≡ 65536 → count ≤ 65536
    → slice_range (put_mid at (at + 65536 - at) bytes out) at (at + count) ≡ take count out
part_written bytes out at count room long few =
    part_front (put_mid at (at + 65536 - at) bytes out) at (at + 65536) count (omega arith)
    ∙ ap (take count) (between-put_mid at (at + 65536 - at) bytes out (at + 65536) (omega arith) (omega arith))

-- what a take into a piece of the buffer tells of the buffer
pub taken_at : (E : Type 0) (before now : Option (List ℕ)) (bytes out : List ℕ) (at : ℕ) (result : Result ℕ E) → at + 65536 ≤ length bytes → length out ≡ 65536
    → ReadsAtMost result out → Takes before now result out
    → MatchResult result
    (λ count. (before ≡ in_front (slice_range (put_mid at (at + 65536 - at) bytes out) at (at + count)) now) × (count ≡ 0 → IsAtEnd now))
    (λ _. now ≡ before)
taken_at E before now bytes out at (Ok count) room long bound takes =
    let few : count ≤ 65536 = omega (arith, bound, long) in
    (takes.0 ∙ ap (λ piece. in_front piece now) (sym (part_written bytes out at count room long few)), λ nothing. takes.1 nothing (omega (arith, long)))
taken_at E before now bytes out at (Err failed) room long bound takes = takes

pub part_at_front : (bytes : List ℕ) (n : ℕ) → slice_range bytes 0 n ≡ take n bytes
part_at_front bytes n = between_from_start bytes n

pub part_kept : (old new : List ℕ) (from to : ℕ) → take to new ≡ take to old → slice_range new from to ≡ slice_range old from to
part_kept old new from to same = between_is new from to ∙ ap (drop from) same ∙ sym (between_is old from to)

-- what a buffer gains of a piece that was taken to its end
pub gains_piece : (old new : List ℕ) (from to count : ℕ) (before now : Option (List ℕ)) → take to new ≡ take to old → from ≤ to → to + count ≤ length new
    → before ≡ in_front (slice_range new to (to + count)) now → (count ≡ 0 → IsAtEnd now)
    → Gains (slice_range old from to) (slice_range new from (to + count)) before now count
gains_piece old new from to count before now same order fits bytes end =
    let part = slice_range old from to in
    let piece = slice_range new to (to + count) in
    let grows : slice_range new from (to + count) ≡ part ++ piece = part_more old new from to count same order fits in
    record {
      piece = piece;
      grows = grows;
      long = length_part_in new to (to + count) fits ∙ omega arith;
      same = ap (λ ahead. in_front ahead now) grows ∙ sym (in_front_of part piece now) ∙ ap (in_front part) (sym bytes);
      end = end;
    }

-- what stays at the front, where the first bytes of a part are let go
pub front_left : (items held moved : List ℕ) (len count : ℕ) → take len items ≡ held → len ≤ length items → count ≤ length held → moved ≡ copy_within items count len 0
    → take (len - count) moved ≡ drop count held
front_left items held moved len count held_is fits few moved_is =
    let short : count ≤ len = omega (arith, ap length held_is, length-take len items) in
    ap (take (len - count)) moved_is
    ∙ take_at (take (len - count) (drop count items)) (drop (0 + (len - count)) items) (len - count) (omega (arith, length-take (len - count) (drop count items), length-drop count items))
    ∙ between_is items count len ∙ ap (drop count) held_is
