-- Stamps, and what was found in their place, are words, and are read back from them.
use Rattle.std.proofs.Common.{◌≡◌, ℕ, ◌+◌, ◌/◌, ◌%◌, ◌^◌, ◌<◌, cond, eqb, ltb, List, [], ◌∷◌, ◌++◌, length, drop, refl, ◌∙◌, ap, arith}
use Rattle.std.specs.Prelude.{codes}
use Rattle.std.specs.List.{slice_split, onto_first, join_with_byte}
use Rattle.std.proofs.lemmas.Bool.{cond_both, ne_eqb, ltb-true}
use Rattle.std.proofs.lemmas.List.Splits.{slice_split-cons_yes, slice_split-cons_no}
use Rattle.far_words.specs.declared.stamp.Stamp.{Stamp}
use Rattle.far_words.specs.declared.stamp.ImageFault.{ImageFault}
use Rattle.far_words.specs.declared.stamp.ImageFault.TheVariants.{Short, Magic, Version, Length, Digest}
use Rattle.far_words.specs.declared.stamp.Found.{Found}
use Rattle.far_words.specs.declared.stamp.Found.TheVariants.{Absent, Broken, Longer, Other, Unfit}
use Rattle.script_text.specs.Damages.{with_colons, low_digit, digest_text, stamp_parts, fault_parts, found_parts, stamp_text, found_text, StampFits, FaultFits, FoundFits}
use Rattle.script_text.proofs.OneLine.{IsWord, IsWord-append, IsPart, part_word, decimal_part, letters_part}
use Rattle.script_text.proofs.ReadBack.{wide, same, word_at, number_at, number_back, digest_from, digest_back}

abbrev AreParts : List (List ℕ) → Type 0
AreParts [] = Unit {0}
AreParts (part ∷ parts) = IsPart part × AreParts parts

digit_part : (digit : ℕ) (rest : List ℕ) → IsPart rest → IsPart (low_digit digit ∷ rest)
digit_part digit rest part =
    cond_both (ltb digit 10) (48 + digit) (87 + digit) (λ byte. IsPart (byte ∷ rest))
    (λ few. (omega arith, λ colon. absurd (omega (arith, ltb-true digit 10 few)), part)) (λ more. (omega arith, λ colon. absurd (omega arith), part))

digest_part : (bytes : List ℕ) → IsPart (digest_text bytes)
digest_part [] = tt
digest_part (byte ∷ bytes) =
    digit_part (byte / 16) (low_digit (byte % 16) ∷ digest_text bytes) (digit_part (byte % 16) (digest_text bytes) (digest_part bytes))

parts_word : (parts : List (List ℕ)) → AreParts parts → IsWord (with_colons parts)
unfolding with_colons
parts_word [] are = tt
parts_word (part ∷ []) are = part_word part are.0
parts_word (part ∷ next ∷ parts) are =
    IsWord-append part (58 ∷ join_with_byte 58 (next ∷ parts)) (part_word part are.0) (λ space. absurd (omega arith), λ end. absurd (omega arith), parts_word (next ∷ parts) are.1)

-- the parts of a text, which stand between its colons
abbrev parts_of : List ℕ → List (List ℕ)
parts_of text = slice_split (λ byte. eqb byte 58) text

last_part : (part : List ℕ) → IsPart part → parts_of part ≡ part ∷ []
last_part [] is = refl
last_part (byte ∷ bytes) is = slice_split-cons_no (λ b. eqb b 58) byte bytes (ne_eqb byte 58 is.1) ∙ ap (onto_first byte) (last_part bytes is.2)

first_part : (part rest : List ℕ) → IsPart part → parts_of (part ++ 58 ∷ rest) ≡ part ∷ parts_of rest
first_part [] rest is = slice_split-cons_yes (λ b. eqb b 58) 58 rest refl
first_part (byte ∷ bytes) rest is = slice_split-cons_no (λ b. eqb b 58) byte (bytes ++ 58 ∷ rest) (ne_eqb byte 58 is.1) ∙ ap (onto_first byte) (first_part bytes rest is.2)

parts_back : (parts : List (List ℕ)) → AreParts parts → 0 < length parts → parts_of (with_colons parts) ≡ parts
unfolding with_colons
parts_back [] are some = absurd (omega arith)
parts_back (part ∷ []) are some = last_part part are.0
parts_back (part ∷ next ∷ parts) are some =
    first_part part (join_with_byte 58 (next ∷ parts)) are.0 ∙ ap (λ t. part ∷ t) (parts_back (next ∷ parts) are.1 (omega arith))

-- stamps
stamp_are : (stamp : Stamp) → StampFits stamp → AreParts (stamp_parts stamp)
stamp_are stamp fits =
    (decimal_part stamp.user (wide stamp.user fits.user), (decimal_part stamp.block fits.block, (decimal_part stamp.length (wide stamp.length fits.length), (digest_part stamp.digest, tt))))

abbrev stamp_from : List (List ℕ) → Stamp
stamp_from parts = record { user = number_at parts 0; block = number_at parts 1; length = number_at parts 2; digest = digest_from (word_at parts 3) }

stamp_parts_back : (stamp : Stamp) → StampFits stamp → stamp_from (stamp_parts stamp) ≡ stamp
stamp_parts_back stamp fits =
    let user = number_back stamp.user (wide stamp.user fits.user) in
    let block = number_back stamp.block fits.block in
    let long = number_back stamp.length (wide stamp.length fits.length) in
    let digest = digest_back stamp.digest in
    λ i. record { user = user i; block = block i; length = long i; digest = digest i }

pub stamp_word : (stamp : Stamp) → StampFits stamp → IsWord (stamp_text stamp)
stamp_word stamp fits = parts_word (stamp_parts stamp) (stamp_are stamp fits)

abbrev pub stamp_at : List ℕ → Stamp
stamp_at text = stamp_from (parts_of text)

pub stamp_back : (stamp : Stamp) → StampFits stamp → stamp_at (stamp_text stamp) ≡ stamp
stamp_back stamp fits = ap stamp_from (parts_back (stamp_parts stamp) (stamp_are stamp fits) (omega arith)) ∙ stamp_parts_back stamp fits

-- why bytes are no image
tiny : (n : ℕ) → n < 2 ^ 8 → n < 2 ^ 64
tiny n low = omega arith

fault_are : (fault : ImageFault) → FaultFits fault → AreParts (fault_parts fault)
fault_are (Short have) fits = (letters_part (codes "short") refl, (decimal_part have (wide have fits), tt))
fault_are Magic fits = (letters_part (codes "magic") refl, tt)
fault_are (Version found) fits = (letters_part (codes "version") refl, (decimal_part found (tiny found fits), tt))
fault_are (Length said have) fits = (letters_part (codes "length") refl, (decimal_part said (wide said fits.0), (decimal_part have (wide have fits.1), tt)))
fault_are (Digest kept found) fits = (letters_part (codes "digest") refl, (digest_part kept, (digest_part found, tt)))

abbrev fault_from : List (List ℕ) → ImageFault
fault_from parts =
    let word = word_at parts 0 in
    cond (same word (codes "short")) (Short (number_at parts 1))
    (cond (same word (codes "magic")) Magic
    (cond (same word (codes "version")) (Version (number_at parts 1))
    (cond (same word (codes "length")) (Length (number_at parts 1) (number_at parts 2)) (Digest (digest_from (word_at parts 1)) (digest_from (word_at parts 2))))))

fault_back : (fault : ImageFault) → FaultFits fault → fault_from (fault_parts fault) ≡ fault
fault_back (Short have) fits = ap Short (number_back have (wide have fits))
fault_back Magic fits = refl
fault_back (Version found) fits = ap Version (number_back found (tiny found fits))
fault_back (Length said have) fits =
    let first = number_back said (wide said fits.0) in
    let second = number_back have (wide have fits.1) in
    λ i. Length (first i) (second i)
fault_back (Digest kept found) fits = λ i. Digest (digest_back kept i) (digest_back found i)

-- there is a first part
pub fault_some : (fault : ImageFault) → 0 < length (fault_parts fault)
fault_some (Short have) = omega arith
fault_some fault = omega arith

-- what was found
found_are : (found : Found) → FoundFits found → AreParts (found_parts found)
found_are Absent fits = (letters_part (codes "absent") refl, tt)
found_are (Broken fault) fits = (letters_part (codes "broken") refl, fault_are fault fits)
found_are (Longer len) fits = (letters_part (codes "longer") refl, (decimal_part len fits, tt))
found_are (Other stamp) fits = (letters_part (codes "other") refl, stamp_are stamp fits)
found_are (Unfit place) fits = (letters_part (codes "unfit") refl, (decimal_part place (wide place fits), tt))

abbrev found_from : List (List ℕ) → Found
found_from parts =
    let word = word_at parts 0 in
    cond (same word (codes "absent")) Absent
    (cond (same word (codes "broken")) (Broken (fault_from (drop 1 parts)))
    (cond (same word (codes "longer")) (Longer (number_at parts 1))
    (cond (same word (codes "other")) (Other (stamp_from (drop 1 parts))) (Unfit (number_at parts 1)))))

found_parts_back : (found : Found) → FoundFits found → found_from (found_parts found) ≡ found
found_parts_back Absent fits = refl
found_parts_back (Broken fault) fits = ap Broken (fault_back fault fits)
found_parts_back (Longer len) fits = ap Longer (number_back len fits)
found_parts_back (Other stamp) fits = ap Other (stamp_parts_back stamp fits)
found_parts_back (Unfit place) fits = ap Unfit (number_back place (wide place fits))

pub found_word : (found : Found) → FoundFits found → IsWord (found_text found)
found_word found fits = parts_word (found_parts found) (found_are found fits)

abbrev pub found_at : List ℕ → Found
found_at text = found_from (parts_of text)

found_some : (found : Found) → 0 < length (found_parts found)
found_some Absent = omega arith
found_some found = omega arith

pub found_back : (found : Found) → FoundFits found → found_at (found_text found) ≡ found
found_back found fits = ap found_from (parts_back (found_parts found) (found_are found fits) (found_some found)) ∙ found_parts_back found fits
