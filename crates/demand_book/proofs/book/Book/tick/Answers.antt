use Rattle.std.proofs.Common.{◌≡◌, ◌+◌, List, length, map, subst, sym, ap, ◌∙◌, arith}
use Rattle.std.specs.List.{refill}
use Rattle.karma_rule.specs.declared.row.Row.{Row}
use Rattle.karma_rule.specs.Quanta.{MakesQuantum}
use Rattle.demand_book.specs.Book.{BookView}
use Rattle.demand_book.specs.Inside.{IsBook}
use Rattle.demand_book.specs.Roster.{seat_of}
use Rattle.demand_book.proofs.RowsOfBook.{overwritten_whole, users, one_more, seats_stand}
use Rattle.demand_book.proofs.Seating.{book_seated}
use Rattle.demand_book.proofs.book.Book.tick.Goals as goal

pub invariant_of-self : goal.invariant_of-self
invariant_of-self c =
    let rows = c.self-2.inside.rows in
    let after = c.batch_quantum.new.rows in
    let made : MakesQuantum rows after = subst (λ (before : List Row). MakesQuantum before after) c.items_mut.ensures.value c.batch_quantum.ensures in
    let quanta : c.self-2.inside.quanta ≡ c.self.inside.quanta = ap (λ (book : BookView). book.quanta) (c.self-2.view_is ∙ c.seat-out.ensures.seated) ∙ ap (λ (book : BookView). book.quanta) (sym c.self.view_is) in
    let written : refill (length rows) rows after ≡ after = overwritten_whole rows after (users c.self-2.inside.shape c.self-2.inside.quanta rows after made) in
    subst (λ (rows_then : List Row). IsBook (record { shape = c.self-2.inside.shape; quanta = c.self-2.inside.quanta + 1; rows = rows_then; roster = c.self-2.inside.roster }) c.self-2.inside.promised c.self-2.inside.changes)
    (sym written) (one_more _ c.self-2.inside.promised c.self-2.inside.changes after c.self-2.invariant (omega arith) made)

pub returns-clause-seats : goal.returns-clause-seats
returns-clause-seats c =
    let rows = c.self-2.inside.rows in
    let after = c.batch_quantum.new.rows in
    let made : MakesQuantum rows after = subst (λ (before : List Row). MakesQuantum before after) c.items_mut.ensures.value c.batch_quantum.ensures in
    let written : refill (length rows) rows after ≡ after = overwritten_whole rows after (users c.self-2.inside.shape c.self-2.inside.quanta rows after made) in
    let before : IsBook c.args.self.now c.self.inside.promised c.self.inside.changes = subst (λ (book : BookView). IsBook book c.self.inside.promised c.self.inside.changes) c.self.view_is c.self.invariant in
    let seated : map seat_of rows ≡ c.self-2.inside.roster =
    subst (λ (book : BookView). map seat_of book.rows ≡ book.roster) (sym (c.self-2.view_is ∙ c.seat-out.ensures.seated)) (book_seated c.args.self.now c.self.inside.promised c.self.inside.changes before).roster.same in
    ap (map seat_of) written ∙ seats_stand c.self-2.inside.shape c.self-2.inside.quanta rows after made ∙ seated
