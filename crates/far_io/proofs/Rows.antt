-- Worked rows of the definitions, computed.
use Rattle.std.proofs.Common.{◌≡◌, ◌-◌, ◌^◌, [], ◌∷◌, refl, arith}
use Rattle.std.specs.Prelude.{codes}
use Rattle.far_io.specs.Lines.{line_of, after_line, lines_of, on_first, ended_lines_of, on_ended, part_after, last_part}
use Rattle.far_io.specs.Words.{words_of}
use Rattle.far_io.specs.Decimals.{IsDecimal, value_of}

-- an empty line is a line, and so is a last one without its line end
lines_row : lines_of (codes "ab\n\nc") ≡ codes "ab" ∷ [] ∷ codes "c" ∷ []
unfolding lines_of on_first
lines_row = refl

-- nothing stands after the last line end
ended_row : lines_of (codes "ab\n") ≡ codes "ab" ∷ []
unfolding lines_of on_first
ended_row = refl

empty_row : lines_of [] ≡ []
unfolding lines_of
empty_row = refl

ended_lines_row : ended_lines_of (codes "ab\n\nc") ≡ codes "ab" ∷ [] ∷ []
unfolding ended_lines_of on_ended
ended_lines_row = refl

line_row : line_of (codes "ab\nc\n") ≡ codes "ab"
unfolding line_of
line_row = refl

after_row : after_line (codes "ab\nc\n") ≡ codes "c\n"
unfolding after_line
after_row = refl

words_row : words_of (codes "3 20 1") ≡ codes "3" ∷ codes "20" ∷ codes "1" ∷ []
unfolding words_of on_first
words_row = refl

-- an empty line has one empty word, and a space too many makes one more
no_words_row : words_of [] ≡ [] ∷ []
unfolding words_of
no_words_row = refl

two_spaces_row : words_of (codes "3  1 ") ≡ codes "3" ∷ [] ∷ codes "1" ∷ [] ∷ []
unfolding words_of on_first
two_spaces_row = refl

greatest_row : IsDecimal (codes "18446744073709551615") × (value_of (codes "18446744073709551615") ≡ 2 ^ 64 - 1)
greatest_row = (record { numeral = search arith; fits = omega arith }, refl)

too_great_row : ¬ IsDecimal (codes "18446744073709551616")
too_great_row good = absurd (omega (arith, good.fits))

zero_row : IsDecimal (codes "0")
zero_row = record { numeral = search arith; fits = omega arith }

leading_zero_row : ¬ IsDecimal (codes "01")
leading_zero_row good = absurd (omega (arith, good.numeral.0))

sign_row : ¬ IsDecimal (codes "+1")
sign_row good = absurd (omega (arith, good.numeral.0))

last_part_row : last_part (codes "ab\n\nc") ≡ codes "c"
unfolding part_after
last_part_row = refl

no_last_part_row : last_part (codes "ab\n") ≡ []
unfolding part_after
no_last_part_row = refl
