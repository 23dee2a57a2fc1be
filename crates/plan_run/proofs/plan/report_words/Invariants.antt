use Rattle.std.proofs.Common.{◌≡◌, map}
use Rattle.std.specs.Option.{option_copied}
use Rattle.demand_book.specs.Roster.{seat_of}
use Rattle.plan_run.proofs.RowsOfWords.{PutSoFar}
use Rattle.plan_run.proofs.plan.report_words.Given as goal

abbrev pub invariant-loop-user : goal.invariant-loop-user
invariant-loop-user l = record {
  put : PutSoFar l.line l.initial.book.rows (option_copied l.rest) l.book.rows l.user;
  shape : l.book.shape ≡ l.initial.book.shape;
  quanta : l.book.quanta ≡ l.initial.book.quanta;
  seats : map seat_of l.book.rows ≡ map seat_of l.initial.book.rows;
  roster : l.book.roster ≡ l.initial.book.roster;
}
