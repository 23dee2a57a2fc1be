use Rattle.std.proofs.Common.{◌≡◌, ◌∷◌, sym, ◌∙◌, ap, arith}
use Rattle.std.specs.Option.{option_copied}
use Rattle.std.specs.Fmt.{decimal}
use Rattle.std.proofs.lemmas.Fmt.{decimal_injective}
use Rattle.far_io.specs.Words.{words_of, words_after}
use Rattle.far_io.proofs.words.next_number.Goals as goal

pub returns-then-number-limit-clause-nothing : goal.returns-then-number-limit-clause-nothing
returns-then-number-limit-clause-nothing c = λ number within others same.
    let whole : words_of c.in_ok-words.field-0.now ≡ decimal number ∷ others = ap (λ words. words_after (option_copied words)) (sym c.in_ok-words.was) ∙ same in
    let equal : decimal c.in_ok-number.number ≡ decimal number = cc (c.split_word.ensures.words, c.in_ok-number.ensures.spelled) in
    absurd (omega (arith, c.if-number-limit.true, decimal_injective c.in_ok-number.number number (omega arith) (omega (arith, c.ranges.limit.fits)) equal))
