use Rattle.std.proofs.Common.{◌≡◌, sym, ◌∙◌, subst, arith}
use Rattle.std.specs.Fmt.{decimal}
use Rattle.std.proofs.lemmas.Fmt.{decimal_injective}
use Rattle.quantum_text.specs.Shares.{HasNoColon}
use Rattle.quantum_text.proofs.Seats.{decimal_no_colon, one_colon, has_colon, fair_fits, floor_fits}
use Rattle.quantum_text.proofs.seat_words.parse_share.Goals as goal
use Rattle.quantum_text.proofs.seat_words.parse_share.Goals.{then-fair-lt1-via-then-fair-lt1, then-fair-lt1-via-else-fair-lt1+then-fair-gt-MOST_FAIR, then-fair-lt1-via-else-fair-lt1+else-fair-gt-MOST_FAIR+then-floor-fair}

pub returns-in_err-first-clause-none : goal.returns-in_err-first-clause-none
returns-in_err-first-clause-none c = rw c.from_residual.ensures (λ share is_share spelled.
    has_colon (decimal share.fair) (decimal share.floor) (subst HasNoColon spelled c.in_err-first.ensures.none))

pub returns-in_err-fair-clause-none : goal.returns-in_err-fair-clause-none
returns-in_err-fair-clause-none c = rw c.from_residual-in_err-fair.ensures (λ share is_share spelled.
    let parts = one_colon _ _ (decimal share.fair) (decimal share.floor) c.in_ok-first.ensures.first (decimal_no_colon share.fair (fair_fits share is_share)) (sym c.in_ok-first.ensures.parts ∙ spelled) in
    c.in_err-fair.ensures.none share.fair (fair_fits share is_share) parts.0)

pub returns-in_err-floor-clause-none : goal.returns-in_err-floor-clause-none
returns-in_err-floor-clause-none c = rw c.from_residual-in_err-floor.ensures (λ share is_share spelled.
    let parts = one_colon _ _ (decimal share.fair) (decimal share.floor) c.in_ok-first.ensures.first (decimal_no_colon share.fair (fair_fits share is_share)) (sym c.in_ok-first.ensures.parts ∙ spelled) in
    c.in_err-floor.ensures.none share.floor (floor_fits share is_share) parts.1)

pub returns-then-fair-lt1-clause-none : goal.returns-then-fair-lt1-clause-none
returns-then-fair-lt1-clause-none c share is_share spelled =
    let parts = one_colon _ _ (decimal share.fair) (decimal share.floor) c.in_ok-first.ensures.first (decimal_no_colon share.fair (fair_fits share is_share)) (sym c.in_ok-first.ensures.parts ∙ spelled) in
    let fair : c.in_ok-fair.fair ≡ share.fair = decimal_injective c.in_ok-fair.fair share.fair (omega arith) (fair_fits share is_share) (sym c.in_ok-fair.ensures.spelled ∙ parts.0) in
    let floor : c.in_ok-floor.floor ≡ share.floor = decimal_injective c.in_ok-floor.floor share.floor (omega arith) (floor_fits share is_share) (sym c.in_ok-floor.ensures.spelled ∙ parts.1) in
    elim c.then-fair-lt1.branch [
      | then-fair-lt1-via-then-fair-lt1 w ↦ absurd (omega (arith, is_share.some, w.if-fair-lt1.true, fair))
      | then-fair-lt1-via-else-fair-lt1+then-fair-gt-MOST_FAIR w ↦ absurd (omega (arith, is_share.fair, w.if-fair-gt-MOST_FAIR.true, fair))
      | then-fair-lt1-via-else-fair-lt1+else-fair-gt-MOST_FAIR+then-floor-fair w ↦ absurd (omega (arith, is_share.floor, w.if-floor-fair.true, fair, floor))
    ]
