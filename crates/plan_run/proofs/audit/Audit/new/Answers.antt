use Rattle.std.proofs.Common.{length, map, sym, ◌∙◌, ap, arith}
use Rattle.std.proofs.lemmas.List.{length-replicate}
use Rattle.demand_book.specs.Book.{BookView, blank_row, opening_row}
use Rattle.demand_book.specs.Roster.{seat_of}
use Rattle.demand_book.specs.declared.report.Report.{Report}
use Rattle.plan_run.proofs.AuditBooks.{opens}
use Rattle.plan_run.proofs.audit.Audit.new.Goals as goal

pub returns-clause-ready : goal.returns-clause-ready
returns-clause-ready c =
    let shape = c.args.shape in
    record {
      read = ap (λ (report : Report). length report.rows) c.in_ok-new-2.ensures ∙ length-replicate shape.users blank_row ∙ ap (λ (book : BookView). book.shape.users) (sym c.in_ok-new.ensures);
      wanted = ap (λ (report : Report). length report.rows) c.in_ok-opening.ensures ∙ length-replicate shape.users (opening_row shape) ∙ ap (λ (book : BookView). book.shape.users) (sym c.in_ok-new.ensures);
      made = tt;
      at = omega arith;
      shares = λ told. absurd (cc);
      seats = λ told. ap (λ (report : Report). map seat_of report.rows) c.in_ok-opening.ensures ∙ (opens shape c.requires).roster.same ∙ ap (λ (book : BookView). book.roster) (sym c.in_ok-new.ensures);
      bound = omega arith;
    }
