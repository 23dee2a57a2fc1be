use Rattle.std.proofs.Common.{◌∙◌, ap}
use Rattle.std.specs.Str.{bytes_eq}
use Rattle.quantum_text.specs.LineKind.{numbers_of}
use Rattle.plan_run.proofs.AuditLines.{wanted_is}
use Rattle.plan_run.proofs.audit.is_wanted.Goals as goal

pub returns-clause-same : goal.returns-clause-same
returns-clause-same c =
    c.same_numbers.ensures ∙ ap (bytes_eq (numbers_of c.args.kind c.args.read.now)) (wanted_is c.args.kind c.args.book.now c.quanta-report.result c.args.report.now.rows c.args.report.now.changed c.requires.compared c.quanta-report.ensures.quanta c.requires.made)

pub returns-clause-numbers : goal.returns-clause-numbers
returns-clause-numbers c = wanted_is c.args.kind c.args.book.now c.quanta-report.result c.args.report.now.rows c.args.report.now.changed c.requires.compared c.quanta-report.ensures.quanta c.requires.made
