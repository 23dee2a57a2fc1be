use Rattle.std.proofs.Common.{◌+◌, None, sym, ◌∙◌, ap, arith}
use Rattle.far_io.proofs.WordLaws.{left_over}
use Rattle.quantum_text.specs.Shares.{seat_word, IsSeat}
use Rattle.quantum_text.proofs.Items.{due_nothing, due_more, due_end}
use Rattle.quantum_text.proofs.SeatsRead.{fair_none, fair_more, fair_all, fair_most, none_left}
use Rattle.quantum_text.proofs.shares.total_fair.Goals as goal

pub loop-user-init : goal.loop-user-init
loop-user-init c = record { seen = fair_none _; due = λ seats are. are.spelled }

pub returns-in_err-seat-clause-none : goal.returns-in_err-seat-clause-none
returns-in_err-seat-clause-none c = rw c.from_residual.ensures
    (due_nothing seat_word IsSeat None c.args.users c.loop-user._user _ _ c.loop-user.invariant.due c.loop-user-test.true c.in_err-seat.ensures.nothing)

pub overflow_add-total : goal.overflow_add-total
overflow_add-total c =
    omega (arith, c.loop-user.invariant.seen.most, fair_most c.in_ok-seat.seat c.in_ok-seat.ensures.within, c.seat_fair.ensures, c.loop-user-test.true)

pub loop-user-preserved : goal.loop-user-preserved
loop-user-preserved c = record {
  seen = fair_more c.loop-user._user _ _ _ c.in_ok-seat.seat _ _ c.loop-user.invariant.seen c.in_ok-seat.ensures.seat c.in_ok-seat.ensures.within
      (ap (λ n. c.loop-user.total + n) (c.from-total.ensures ∙ c.seat_fair.ensures));
  due = due_more seat_word IsSeat None c.args.users c.loop-user._user _ _ _ c.in_ok-seat.seat c.loop-user.invariant.due c.loop-user-test.true c.in_ok-seat.ensures.seat;
}

pub returns-then-is_some-clause-none : goal.returns-then-is_some-clause-none
returns-then-is_some-clause-none c seats are =
    left_over c.loop-user.rest (sym c.is_some.ensures ∙ c.if-is_some.true)
    (due_end seat_word IsSeat c.args.users c.loop-user._user _ _ c.loop-user.invariant.due c.loop-user-test.false seats are)

pub returns-clause-seats : goal.returns-clause-seats
returns-clause-seats c =
    fair_all c.args.users c.loop-user._user _ _ _ c.loop-user.invariant.seen (none_left c.loop-user.rest (sym c.is_some.ensures ∙ c.if-is_some.false))
    (omega (arith, c.loop-user-test.false, c.loop-user.auto._user-end))
