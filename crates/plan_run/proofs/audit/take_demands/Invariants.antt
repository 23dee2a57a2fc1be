use Rattle.std.proofs.Common.{◌≡◌, take}
use Rattle.quantum_text.specs.declared.line_kind.LineKind.TheVariants.{Demand}
use Rattle.quantum_text.specs.LineKind.{numbers_of}
use Rattle.plan_run.specs.AuditText.{with_demands}
use Rattle.plan_run.proofs.audit.take_demands.Given as goal

abbrev pub invariant-loop-user : goal.invariant-loop-user
invariant-loop-user l = record {
  rows : l.book.rows ≡ with_demands (take l.user (numbers_of Demand l.read)) l.initial.book.rows;
  shape : l.book.shape ≡ l.initial.book.shape;
  quanta : l.book.quanta ≡ l.initial.book.quanta;
  roster : l.book.roster ≡ l.initial.book.roster;
}
