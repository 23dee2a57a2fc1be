use Rattle.std.proofs.Common.{◌≡◌, ◌*◌, ◌≤◌, true, List, length, map, Option, sym, ap, ◌∙◌, subst}
use Rattle.std.specs.List.{refill, sum_by}
use Rattle.karma_rule.specs.declared.row.Share.{Share}
use Rattle.demand_book.specs.Book.{BookView}
use Rattle.demand_book.specs.Inside.{IsBook}
use Rattle.demand_book.specs.Roster.{seat_of, fair_of_seat}
use Rattle.demand_book.proofs.RowsOfBook.{overwritten_whole, book_rostered}
use Rattle.demand_book.proofs.book.Book.take_roster.Goals as goal

-- the seats that are written back
pub invariant_of-self : goal.invariant_of-self
invariant_of-self c =
    let rows = c.args.rows.now in
    let seats = map seat_of rows in
    let written : refill (length c.self.inside.roster) c.self.inside.roster c.take_seats-self-inside.new.roster ≡ seats =
    overwritten_whole c.self.inside.roster c.take_seats-self-inside.new.roster (c.take_seats-self-inside.auto.roster ∙ c.items_mut.ensures.len) ∙ c.take_seats-self-inside.ensures.roster in
    let together = subst (λ (book : BookView). sum_by fair_of_seat seats ≤ book.shape.users * book.shape.share.fair) (sym c.self.view_is) c.requires.together in
    let told = book_rostered _ c.self.inside.promised c.self.inside.changes rows c.self.invariant (c.requires.users ∙ ap (λ (book : BookView). book.shape.users) (sym c.self.view_is)) c.requires.shares together in
    subst (λ (roster : List (Option Share)). IsBook (record { shape = c.self.inside.shape; quanta = c.self.inside.quanta; rows = c.self.inside.rows; roster = roster }) c.take_seats-self-inside.result true) (sym written)
    (subst (λ promised. IsBook (record { shape = c.self.inside.shape; quanta = c.self.inside.quanta; rows = c.self.inside.rows; roster = seats }) promised true) (sym c.take_seats-self-inside.ensures.promised) told)
