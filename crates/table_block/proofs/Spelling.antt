-- A record has one spelling, and bytes are one list of records at most.
use Rattle.std.proofs.Common.{◌≡◌, ℕ, ◌^◌, ◌<◌, List, [], ◌∷◌, ◌++◌, length, take, drop, refl, sym, ap, ◌∙◌, append_assoc, length-append, arith}
use Rattle.std.specs.Prelude.{All}
use Rattle.std.specs.Int.{w16, from_be_bytes, to_be_bytes}
use Rattle.std.proofs.lemmas.List.{take_at, drop_at}
use Rattle.std.proofs.lemmas.List.Elements.{All-head, All-tail}
use Rattle.std.proofs.lemmas.Nat.{from_be_bytes-to_be_bytes_2}
use Rattle.table_block.specs.Records.{Record, record_size, records_size, Fits, spelling, spelled, IsBlock, IsUnfit, NoRecord}

pub length-spelling : (r : Record) → length (spelling r) ≡ record_size r
unfolding spelling
length-spelling r = omega (arith, length-append r.0 r.1)

pub length-spelled : (rs : List Record) → length (spelled rs) ≡ records_size rs
length-spelled [] = refl
length-spelled (r ∷ rs) = omega (arith, length-append (spelling r) (spelled rs), length-spelling r, length-spelled rs)

pub spelled-append : (xs ys : List Record) → spelled (xs ++ ys) ≡ spelled xs ++ spelled ys
spelled-append [] ys = refl
spelled-append (x ∷ xs) ys =
    ap (λ (rest : List ℕ). spelling x ++ rest) (spelled-append xs ys) ∙ sym (append_assoc (spelling x) (spelled xs) (spelled ys))

-- the parts of a record at the front
pub key_count : (r : Record) (rest : List ℕ) → take 2 (spelling r ++ rest) ≡ to_be_bytes w16 (length r.0)
unfolding spelling
key_count r rest = refl

pub value_count : (r : Record) (rest : List ℕ) → take 2 (drop 2 (spelling r ++ rest)) ≡ to_be_bytes w16 (length r.1)
unfolding spelling
value_count r rest = refl

pub behind_counts : (r : Record) (rest : List ℕ) → drop 4 (spelling r ++ rest) ≡ r.0 ++ (r.1 ++ rest)
unfolding spelling
behind_counts r rest = append_assoc r.0 r.1 rest

-- and put together
pub parted : (key value rest : List ℕ) → to_be_bytes w16 (length key) ++ to_be_bytes w16 (length value) ++ (key ++ (value ++ rest)) ≡ spelling (key, value) ++ rest
unfolding spelling
parted key value rest = ap (λ (text : List ℕ). to_be_bytes w16 (length key) ++ to_be_bytes w16 (length value) ++ text) (sym (append_assoc key value rest))

pub same_count : (m n : ℕ) → m < 2 ^ 16 → n < 2 ^ 16 → to_be_bytes w16 m ≡ to_be_bytes w16 n → m ≡ n
same_count m n low high same = sym (from_be_bytes-to_be_bytes_2 m low) ∙ ap (from_be_bytes w16) same ∙ from_be_bytes-to_be_bytes_2 n high

-- where bytes of one length begin two texts, they are the same, and so is what follows
fronts_one : (s t a b : List ℕ) → length s ≡ length t → s ++ a ≡ t ++ b → (s ≡ t) × (a ≡ b)
fronts_one s t a b long same = (
  sym (take_at s a (length s) refl) ∙ ap (take (length s)) same ∙ take_at t b (length s) (sym long),
  sym (drop_at s a (length s) refl) ∙ ap (drop (length s)) same ∙ drop_at t b (length s) (sym long),
)

-- one record stands at the front of bytes
pub record_one : (r o : Record) (a b : List ℕ) → Fits r → Fits o → spelling r ++ a ≡ spelling o ++ b → (r ≡ o) × (a ≡ b)
record_one r o a b fits also same =
    let keys : length r.0 ≡ length o.0 =
    same_count (length r.0) (length o.0) fits.key also.key (sym (key_count r a) ∙ ap (take 2) same ∙ key_count o b) in
    let values : length r.1 ≡ length o.1 =
    same_count (length r.1) (length o.1) fits.value also.value (sym (value_count r a) ∙ ap (λ (t : List ℕ). take 2 (drop 2 t)) same ∙ value_count o b) in
    let first = fronts_one r.0 o.0 (r.1 ++ a) (o.1 ++ b) keys (sym (behind_counts r a) ∙ ap (drop 4) same ∙ behind_counts o b) in
    let second = fronts_one r.1 o.1 a b values first.1 in
    ((λ i. (first.0 i, second.0 i)), second.1)

-- a record is some bytes
no_end : (r : Record) (rest : List ℕ) → [] ≡ spelling r ++ rest → ⊥
no_end r rest same =
    let none : 0 ≡ length (spelling r ++ rest) = ap length same in
    omega (arith, length-append (spelling r) rest, length-spelling r)

-- bytes are one list of records at most
pub one_reading : (rs os : List Record) → All Fits rs → All Fits os → spelled rs ≡ spelled os → rs ≡ os
one_reading [] [] fit also same = refl
one_reading [] (o ∷ os) fit also same = absurd (no_end o (spelled os) same)
one_reading (r ∷ rs) [] fit also same = absurd (no_end r (spelled rs) (sym same))
one_reading (r ∷ rs) (o ∷ os) fit also same =
    let one = record_one r o (spelled rs) (spelled os) (All-head Fits r rs fit) (All-head Fits o os also) same in
    let more = one_reading rs os (All-tail Fits r rs fit) (All-tail Fits o os also) one.1 in
    (λ i. one.0 i ∷ more i)

-- and no block is broken
whole : (bs rs : List Record) (rest : List ℕ) → All Fits bs → All Fits rs → spelled bs ++ rest ≡ spelled rs → 0 < length rest → NoRecord rest → ⊥
whole [] [] rest fit also same some broken =
    let none : length rest ≡ 0 = ap length same in
    omega arith
whole [] (r ∷ rs) rest fit also same some broken = broken r (spelled rs) (All-head Fits r rs also) same
whole (b ∷ bs) [] rest fit also same some broken = absurd (no_end b (spelled bs ++ rest) (sym same ∙ append_assoc (spelling b) (spelled bs) rest))
whole (b ∷ bs) (r ∷ rs) rest fit also same some broken =
    let one = record_one b r (spelled bs ++ rest) (spelled rs) (All-head Fits b bs fit) (All-head Fits r rs also)
    (sym (append_assoc (spelling b) (spelled bs) rest) ∙ same) in
    whole bs rs rest (All-tail Fits b bs fit) (All-tail Fits r rs also) one.1 some broken

pub no_unfit : (bytes : List ℕ) (records : List Record) (place : ℕ) → IsBlock bytes records → IsUnfit bytes place → ⊥
no_unfit bytes records place is unfit =
    whole unfit.before records unfit.rest unfit.fit is.fit (sym unfit.parts ∙ is.bytes_are) unfit.some unfit.broken
