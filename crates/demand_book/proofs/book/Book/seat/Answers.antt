use Rattle.std.proofs.Common.{◌≡◌, false, List, length, sym, ap, ◌∙◌, subst}
use Rattle.std.specs.List.{refill}
use Rattle.std.proofs.lemmas.Bool.{OnFalse_at}
use Rattle.karma_rule.specs.declared.row.Row.{Row}
use Rattle.demand_book.specs.Book.{BookView, seated_book}
use Rattle.demand_book.specs.Inside.{IsBook}
use Rattle.demand_book.specs.Roster.{seated_rows}
use Rattle.demand_book.proofs.RowsOfBook.{overwritten_whole}
use Rattle.demand_book.proofs.Seating.{book_seated, book_stays}
use Rattle.demand_book.proofs.book.Book.seat.Goals as goal

pub returns-then-not-self-clause-seated : goal.returns-then-not-self-clause-seated
returns-then-not-self-clause-seated c =
    subst (λ (book : BookView). book ≡ seated_book book) c.self.view_is
    (sym (book_stays _ c.self.inside.promised c.self.inside.changes c.self.invariant (OnFalse_at c.if-not-self.true c.self.invariant.roster.same)))

-- the rows that are written back
pub invariant_of-self : goal.invariant_of-self
invariant_of-self c =
    let rows = c.self.inside.rows in
    let seated : c.seat_rows.new.rows ≡ seated_rows c.self.inside.shape.credits rows c.self.inside.roster =
    c.seat_rows.ensures.rows ∙ ap (λ before. seated_rows c.self.inside.shape.credits before c.items.result.now) c.items_mut.ensures.value ∙ ap (seated_rows c.self.inside.shape.credits rows) c.items.ensures in
    let written : refill (length rows) rows c.seat_rows.new.rows ≡ seated_rows c.self.inside.shape.credits rows c.self.inside.roster =
    overwritten_whole rows c.seat_rows.new.rows (c.seat_rows.auto.rows ∙ c.items_mut.ensures.len) ∙ seated in
    subst (λ (after : List Row). IsBook (record { shape = c.self.inside.shape; quanta = c.self.inside.quanta; rows = after; roster = c.self.inside.roster }) c.self.inside.promised false)
    (sym written) (book_seated _ c.self.inside.promised c.self.inside.changes c.self.invariant)
