-- What small texts stand for: the numbers, bytes and digests that they spell are read back from them.
use Rattle.std.proofs.Common.{◌≡◌, ℕ, ◌+◌, ◌-◌, ◌*◌, ◌/◌, ◌%◌, ◌^◌, ◌<◌, ◌&&◌, Bool, not, cond, eqb, leb, ltb, List, [], ◌∷◌, ◌++◌, get_or, refl, ◌∙◌, ap, arith}
use Rattle.std.specs.Cmp.Lexicographic.{pointwise}
use Rattle.std.specs.Fmt.{decimal}
use Rattle.std.specs.List.{flat_map}
use Rattle.std.specs.Str.Parse.{digits_value}
use Rattle.std.proofs.Math.Nat.{div-add-mod}
use Rattle.std.proofs.lemmas.Bool.{cond_both, cond-false, and_parts, not-true}
use Rattle.std.proofs.lemmas.Bool.Decides.{nat_tests}
use Rattle.std.proofs.lemmas.Fmt.{decimal_is_IsNumeral}
use Rattle.far_io.specs.Escapes.{is_plain, hex_digit, escaped_byte, escaped}
use Rattle.script_text.specs.Damages.{low_digit, digest_text}

-- whether two words are the same
abbrev pub same : List ℕ → List ℕ → Bool
same word other = pointwise eqb word other

pub wide : (n : ℕ) → n < 2 ^ 32 → n < 2 ^ 64
wide n low = omega arith

-- the word at a place, an empty one past the last
abbrev pub word_at : List (List ℕ) → ℕ → List ℕ
word_at words i = get_or words i []

abbrev pub number_at : List (List ℕ) → ℕ → ℕ
number_at words i = digits_value 10 (word_at words i)

pub number_back : (n : ℕ) → n < 2 ^ 64 → digits_value 10 (decimal n) ≡ n
number_back n fits = (decimal_is_IsNumeral n fits).1

-- the digit that a byte spells, where `letters` is 10 less than the first letter
abbrev digit_from : ℕ → ℕ → ℕ
digit_from letters byte = cond (ltb byte 58) (byte - 48) (byte - letters)

upper_back : (digit : ℕ) → digit_from 55 (hex_digit digit) ≡ digit
upper_back digit = grind (arith, nat_tests)

lower_back : (digit : ℕ) → digit_from 87 (low_digit digit) ≡ digit
lower_back digit = grind (arith, nat_tests)

-- the byte of two digits
abbrev byte_from : ℕ → ℕ → ℕ → ℕ
byte_from letters high low = 16 * digit_from letters high + digit_from letters low

halves_back : (letters byte high low : ℕ) → digit_from letters high ≡ byte / 16 → digit_from letters low ≡ byte % 16 → byte_from letters high low ≡ byte
halves_back letters byte high low first second =
    ap (λ n. 16 * n + digit_from letters low) first ∙ ap (λ n. 16 * (byte / 16) + n) second ∙ div-add-mod byte 16

-- the bytes that a text spells, where so many digits of the first are due, and `high` is the one before
abbrev unescaped : ℕ → ℕ → List ℕ → List ℕ
unescaped due high [] = []
unescaped due high (byte ∷ text) =
    cond (eqb due 0) (cond (eqb byte 37) (unescaped 2 0 text) (byte ∷ unescaped 0 0 text))
    (cond (eqb due 2) (unescaped 1 byte text) (byte_from 55 high byte ∷ unescaped 0 0 text))

abbrev pub bytes_at : List (List ℕ) → ℕ → List ℕ
bytes_at words i = unescaped 0 0 (word_at words i)

first_back : (byte : ℕ) (text : List ℕ) → unescaped 0 0 (escaped_byte byte ++ text) ≡ byte ∷ unescaped 0 0 text
first_back byte text =
    cond_both (is_plain byte) (byte ∷ []) (37 ∷ hex_digit (byte / 16) ∷ hex_digit (byte % 16) ∷ []) (λ spelling. unescaped 0 0 (spelling ++ text) ≡ byte ∷ unescaped 0 0 text)
    (λ plain. cond-false (eqb byte 37) (unescaped 2 0 text) (byte ∷ unescaped 0 0 text) (not-true (eqb byte 37) (and_parts (leb 33 byte && leb byte 126) (not (eqb byte 37)) plain).1))
    (λ other. ap (λ b. b ∷ unescaped 0 0 text) (halves_back 55 byte (hex_digit (byte / 16)) (hex_digit (byte % 16)) (upper_back (byte / 16)) (upper_back (byte % 16))))

each_back : (bytes : List ℕ) → unescaped 0 0 (flat_map escaped_byte bytes) ≡ bytes
each_back [] = refl
each_back (byte ∷ bytes) = first_back byte (flat_map escaped_byte bytes) ∙ ap (λ t. byte ∷ t) (each_back bytes)

pub bytes_back : (bytes : List ℕ) → unescaped 0 0 (escaped bytes) ≡ bytes
unfolding escaped
bytes_back [] = refl
bytes_back (byte ∷ bytes) = each_back (byte ∷ bytes)

abbrev pub digest_from : List ℕ → List ℕ
digest_from [] = []
digest_from (high ∷ []) = []
digest_from (high ∷ low ∷ text) = byte_from 87 high low ∷ digest_from text

pub digest_back : (bytes : List ℕ) → digest_from (digest_text bytes) ≡ bytes
digest_back [] = refl
digest_back (byte ∷ bytes) =
    let first = halves_back 87 byte (low_digit (byte / 16)) (low_digit (byte % 16)) (lower_back (byte / 16)) (lower_back (byte % 16)) in
    λ i. first i ∷ digest_back bytes i
