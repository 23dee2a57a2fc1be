use Rattle.std.proofs.Common.{length, map, sym, ◌∙◌, ap}
use Rattle.std.proofs.lemmas.List.{length-replicate}
use Rattle.demand_book.specs.Book.{BookView, blank_row}
use Rattle.demand_book.specs.Roster.{seat_of}
use Rattle.demand_book.specs.declared.report.Report.{Report}
use Rattle.plan_run.proofs.AuditBooks.{opens}
use Rattle.plan_run.proofs.plan.Plan.new.Goals as goal

pub returns-clause-holds : goal.returns-clause-holds
returns-clause-holds c =
    let shape = c.args.shape in
    record {
      rows = ap (λ (report : Report). length report.rows) c.in_ok-new-2.ensures ∙ length-replicate shape.users blank_row ∙ ap (λ (book : BookView). book.shape.users) (sym c.in_ok-new.ensures);
      steady = ap (λ (book : BookView). map seat_of book.rows) c.in_ok-new.ensures ∙ (opens shape c.requires).roster.same ∙ ap (λ (book : BookView). book.roster) (sym c.in_ok-new.ensures);
    }
