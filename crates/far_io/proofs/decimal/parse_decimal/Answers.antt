use Rattle.std.proofs.Common.{◌≡◌, ◌+◌, ◌-◌, ◌*◌, ◌<◌, ◌≤◌, length, get_or, ap, sym, refl, subst, ◌∙◌, arith}
use Rattle.std.specs.Fmt.{decimal}
use Rattle.std.proofs.lemmas.List.{take_all}
use Rattle.far_io.specs.Decimals.{IsDecimal, AreDigits, value_of}
use Rattle.far_io.proofs.Decimals.{no_decimal, empty_is_bad, zero_is_bad, digit_is_bad, value_of_more, are_digits_more, is_decimal_from, decimal-value_of}
use Rattle.far_io.proofs.decimal.parse_decimal.Goals.{else-text-eq48-via-then-text-eq48+else-text-gt1, else-text-eq48-via-else-text-eq48, After-loop-byte}
use Rattle.far_io.proofs.decimal.parse_decimal.Goals as goal

pub returns-then-is_empty-clause-none : goal.returns-then-is_empty-clause-none
returns-then-is_empty-clause-none c =
    let empty : length c.args.text.now ≡ 0 = grind (arith, c.is_empty.ensures, c.if-is_empty.true) in
    no_decimal _ (empty_is_bad _ empty)

pub returns-then-text-gt1-clause-none : goal.returns-then-text-gt1-clause-none
returns-then-text-gt1-clause-none c = no_decimal _ (zero_is_bad _ c.if-text-eq48.true c.if-text-gt1.true)

pub returns-in_err-number-clause-grammar : goal.returns-in_err-number-clause-grammar
returns-in_err-number-clause-grammar c =
    rw c.from_residual.ensures
    (λ some. absurd (cc), λ good. absurd (digit_is_bad _ _ _ c.loop-byte-test.true c.loop-byte.invariant.number c.in_err-number.ensures.none good))

pub returns-in_err-number-clause-none : goal.returns-in_err-number-clause-none
returns-in_err-number-clause-none c =
    rw c.from_residual.ensures (no_decimal _ (digit_is_bad _ _ _ c.loop-byte-test.true c.loop-byte.invariant.number c.in_err-number.ensures.none))

pub loop-byte-preserved : goal.loop-byte-preserved
loop-byte-preserved c =
    let all = c.loop-byte.invariant in
    let here = c.loop-byte-test.true in
    let more = c.in_ok-number.ensures.some in
    record {
      number = more.1 ∙ ap (λ n. n * 10 + (get_or c.args.text.now c.loop-byte.byte-index 0 - 48)) all.number ∙ sym (value_of_more _ _ here);
      digits = are_digits_more _ _ here all.digits more.0;
      fits = c.in_ok-number.ensures.fits;
    }

-- at the end of the loop all bytes are digits, and the first is no leading zero
good : (c : After-loop-byte) → IsDecimal c.args.text.now × (c.loop-byte.number ≡ value_of c.args.text.now)
good c =
    let all = c.loop-byte.invariant in
    let whole = take_all c.loop-byte.byte-index c.args.text.now c.loop-byte-test.false in
    let number : c.loop-byte.number ≡ value_of c.args.text.now = all.number ∙ ap value_of whole in
    let some : 0 < length c.args.text.now = grind (arith, c.is_empty.ensures, c.if-is_empty.false) in
    let lead : get_or c.args.text.now 0 0 ≡ 48 → length c.args.text.now ≤ 1 = elim c.else-text-eq48.branch [
      | else-text-eq48-via-then-text-eq48+else-text-gt1 w ↦ λ _. w.if-text-gt1.false
      | else-text-eq48-via-else-text-eq48 w ↦ λ zeroed. absurd (w.if-text-eq48.false zeroed)
    ] in
    (is_decimal_from _ _ (subst AreDigits whole all.digits) some lead number all.fits, number)

pub returns-clause-grammar : goal.returns-clause-grammar
returns-clause-grammar c = (λ _. (good c).0, λ _. refl)

pub returns-clause-spelled : goal.returns-clause-spelled
returns-clause-spelled c = decimal-value_of c.args.text.now (good c).0 ∙ ap decimal (sym (good c).1)
