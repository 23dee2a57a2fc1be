use Rattle.turn_cell.specs.Passes.{MakesAsks}
use Rattle.book_cell.specs.Reports.{book_ask, user_asks}
use Rattle.book_cell.proofs.reporters.ask_all.Given as goal

abbrev pub invariant-loop-before : goal.invariant-loop-before
invariant-loop-before g l = MakesAsks book_ask l.initial.pass (user_asks l.user l.before) l.pass
