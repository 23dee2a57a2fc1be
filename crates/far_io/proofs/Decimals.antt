-- Laws of decimals.
use Rattle.std.proofs.Common.{◌≡◌, ℕ, ◌+◌, ◌-◌, ◌*◌, ◌/◌, ◌%◌, ◌^◌, ◌<◌, ◌≤◌, List, [], ◌∷◌, ◌++◌, length, get_or, take, zero, suc, inl, inr, refl, ap, sym, subst, ◌∙◌, append_assoc, arith, rules}
use Rattle.std.specs.Fmt.{decimal}
use Rattle.std.proofs.lemmas.Bool.{cases_lt}
use Rattle.std.proofs.lemmas.Fmt.{decimal_digit, decimal_step, length-decimal-le, digits_decimal, digits_value-decimal, decimal_nonempty, first_decimal, decimal-digits_value}
use Rattle.std.proofs.lemmas.List.{length-append, take_more}
use Rattle.std.proofs.lemmas.Str.Parse.{IsNumeralModel, numerals_by_fold}
use Rattle.far_io.specs.Decimals.{IsDigit, AreDigits, IsNumeral, value_after, value_of, IsDecimal, IsNoDecimal}

pub length_digit : (n : ℕ) → n < 10 → length (decimal n) ≡ 1
length_digit n low = ap length (decimal_digit n low)

pub length_step : (n : ℕ) → 10 ≤ n → n < 2 ^ 64 → length (decimal n) ≡ length (decimal (n / 10)) + 1
length_step n high fits = ap length (decimal_step n high fits) ∙ length-append (decimal (n / 10)) ((48 + n % 10) ∷ [])

pub decimal_grows : (piece : List ℕ) (n : ℕ) → 10 ≤ n → n < 2 ^ 64 → (piece ++ decimal (n / 10)) ++ (48 + n % 10) ∷ [] ≡ piece ++ decimal n
decimal_grows piece n high fits = append_assoc piece (decimal (n / 10)) ((48 + n % 10) ∷ []) ∙ ap (λ t. piece ++ t) (sym (decimal_step n high fits))

pub decimal_short : (n : ℕ) → n < 2 ^ 64 → length (decimal n) ≤ 20
decimal_short n fits = search (arith, length-decimal-le 20)

-- the words of std for digits and their value fit these
own : IsNumeralModel AreDigits (value_after 0)
own = numerals_by_fold AreDigits (search rules) value_after (search rules)

value_after-push : (n : ℕ) (bytes : List ℕ) (byte : ℕ) → value_after n (bytes ++ byte ∷ []) ≡ value_after n bytes * 10 + (byte - 48)
value_after-push n [] byte = refl
value_after-push n (b ∷ bs) byte = value_after-push (n * 10 + (b - 48)) bs byte

AreDigits-push : (bytes : List ℕ) (byte : ℕ) → AreDigits bytes → IsDigit byte → AreDigits (bytes ++ byte ∷ [])
AreDigits-push [] byte digits more = (more, tt)
AreDigits-push (b ∷ bs) byte digits more = (digits.0, AreDigits-push bs byte digits.1 more)

pub value_of_more : (text : List ℕ) (i : ℕ) → i < length text → value_of (take (i + 1) text) ≡ value_of (take i text) * 10 + (get_or text i 0 - 48)
value_of_more text i here = ap value_of (take_more text i 0 here) ∙ value_after-push 0 (take i text) (get_or text i 0)

pub are_digits_more : (text : List ℕ) (i : ℕ) → i < length text → AreDigits (take i text) → IsDigit (get_or text i 0) → AreDigits (take (i + 1) text)
are_digits_more text i here digits more = subst AreDigits (sym (take_more text i 0 here)) (AreDigits-push (take i text) (get_or text i 0) digits more)

digit_at : (text : List ℕ) (i : ℕ) → i < length text → AreDigits text → IsDigit (get_or text i 0)
digit_at [] i here digits = absurd (omega arith)
digit_at (b ∷ bs) zero here digits = digits.0
digit_at (b ∷ bs) (suc i) here digits = digit_at bs i (omega arith) digits.1

-- more digits make no smaller value
value_after_grows : (n : ℕ) (bytes : List ℕ) → n ≤ value_after n bytes
value_after_grows n [] = omega arith
value_after_grows n (b ∷ bs) = omega (arith, value_after_grows (n * 10 + (b - 48)) bs)

value_after_take : (n : ℕ) (bytes : List ℕ) (i : ℕ) → value_after n (take i bytes) ≤ value_after n bytes
value_after_take n bytes zero = value_after_grows n bytes
value_after_take n [] (suc i) = omega arith
value_after_take n (b ∷ bs) (suc i) = value_after_take (n * 10 + (b - 48)) bs i

numeral_digits : (text : List ℕ) → IsNumeral text → AreDigits text
numeral_digits [] numeral = absurd numeral
numeral_digits (b ∷ []) numeral = (numeral, tt)
numeral_digits (b ∷ c ∷ bs) numeral = ((omega (arith, numeral.0), numeral.1), numeral.2)

numeral_some : (text : List ℕ) → IsNumeral text → 0 < length text
numeral_some [] numeral = absurd numeral
numeral_some (b ∷ bs) numeral = omega arith

numeral_lead : (text : List ℕ) → IsNumeral text → get_or text 0 0 ≡ 48 → length text ≡ 1
numeral_lead [] numeral zeroed = absurd numeral
numeral_lead (b ∷ []) numeral zeroed = refl
numeral_lead (b ∷ c ∷ bs) numeral zeroed = absurd (omega (arith, numeral.0, zeroed))

numeral_from : (text : List ℕ) → AreDigits text → 0 < length text → (get_or text 0 0 ≡ 48 → length text ≤ 1) → IsNumeral text
numeral_from [] digits some lead = absurd (omega arith)
numeral_from (b ∷ []) digits some lead = digits.0
numeral_from (b ∷ c ∷ bs) digits some lead = (above b digits.0.0 lead, digits.0.1, digits.1)
  where
    above : (b : ℕ) → 48 ≤ b → (b ≡ 48 → length (b ∷ c ∷ bs) ≤ 1) → 49 ≤ b
    above b least lead = grind (arith, lead)

pub is_decimal_from : (text : List ℕ) (number : ℕ) → AreDigits text → 0 < length text → (get_or text 0 0 ≡ 48 → length text ≤ 1)
    → number ≡ value_of text → number < 2 ^ 64 → IsDecimal text
is_decimal_from text number digits some lead same fits = record { numeral = numeral_from text digits some lead; fits = subst (λ v. v < 2 ^ 64) same fits }

-- a text within the grammar is what std writes for its value
pub decimal-value_of : (text : List ℕ) → IsDecimal text → text ≡ decimal (value_of text)
decimal-value_of text good =
    sym (decimal-digits_value own text (numeral_digits text good.numeral) (numeral_some text good.numeral) (numeral_lead text good.numeral) good.fits)

decimal_lead : (n : ℕ) → n < 2 ^ 64 → get_or (decimal n) 0 0 ≡ 48 → length (decimal n) ≤ 1
decimal_lead n fits lead = elim (cases_lt n 10) [
  | inl low ↦ omega (arith, length_digit n low)
  | inr high ↦ absurd (omega (arith, lead, first_decimal n (omega arith) fits))
]

-- what std writes for a number of 64 bits is within the grammar
pub IsDecimal-decimal : (n : ℕ) → n < 2 ^ 64 → IsDecimal (decimal n)
IsDecimal-decimal n fits =
    let value : value_of (decimal n) ≡ n = digits_value-decimal own n fits in
    record {
      numeral = numeral_from (decimal n) (digits_decimal own n fits) (decimal_nonempty n fits) (decimal_lead n fits);
      fits = subst (λ v. v < 2 ^ 64) (sym value) fits;
    }

-- and has that number as its value
pub value_of-decimal : (n : ℕ) → n < 2 ^ 64 → value_of (decimal n) ≡ n
value_of-decimal n fits = digits_value-decimal own n fits

-- a text outside the grammar is what std writes for no number
pub no_decimal : (text : List ℕ) → ¬ IsDecimal text → IsNoDecimal text
no_decimal text bad n fits same = bad (subst IsDecimal (sym same) (IsDecimal-decimal n fits))

-- texts that no decimal is: an empty one, one with a leading zero, and one with a byte that no digit is or whose value is too great
pub empty_is_bad : (text : List ℕ) → length text ≡ 0 → ¬ IsDecimal text
empty_is_bad text empty good = absurd (omega (arith, numeral_some text good.numeral))

pub zero_is_bad : (text : List ℕ) → get_or text 0 0 ≡ 48 → 1 < length text → ¬ IsDecimal text
zero_is_bad text lead long good = absurd (omega (arith, numeral_lead text good.numeral lead))

pub digit_is_bad : (text : List ℕ) (i number : ℕ) → i < length text → number ≡ value_of (take i text)
    → (IsDigit (get_or text i 0) → 2 ^ 64 ≤ number * 10 + (get_or text i 0 - 48)) → ¬ IsDecimal text
digit_is_bad text i number here so_far bad good =
    let great = bad (digit_at text i here (numeral_digits text good.numeral)) in
    let more = value_of_more text i here in
    absurd (omega (arith, great, more, so_far, value_after_take 0 text (i + 1), good.fits))
