use Rattle.std.proofs.Common.{◌≡◌, List, length, set, get_or, sym, ap, ◌∙◌, subst, arith}
use Rattle.std.specs.List.{refill}
use Rattle.std.proofs.lemmas.List.{length-set}
use Rattle.karma_rule.specs.declared.row.Row.{Row}
use Rattle.karma_rule.proofs.Changes.{change_at-set}
use Rattle.demand_book.specs.Book.{BookView, reported, demanding, blank_row}
use Rattle.demand_book.specs.Inside.{IsBook}
use Rattle.demand_book.proofs.RowsOfBook.{overwritten_whole, book_reported}
use Rattle.demand_book.proofs.book.Book.report.Goals as goal

pub invariant_of-self : goal.invariant_of-self
invariant_of-self c =
    let rows = c.self.inside.rows in
    let lent = c.items_mut-rows.result.now in
    let changed = demanding c.args.demand in
    let written : refill (length rows) rows (set lent c.args.user (changed (get_or lent c.args.user blank_row))) ≡ set rows c.args.user (changed (get_or rows c.args.user blank_row)) =
    overwritten_whole rows _ (length-set lent c.args.user (changed (get_or lent c.args.user blank_row)) ∙ ap length c.items_mut-rows.ensures.value) ∙ ap (λ (rs : List Row). set rs c.args.user (changed (get_or rs c.args.user blank_row))) c.items_mut-rows.ensures.value in
    subst (λ (after : List Row). IsBook (record { shape = c.self.inside.shape; quanta = c.self.inside.quanta; rows = after; roster = c.self.inside.roster }) c.self.inside.promised c.self.inside.changes)
    (sym written) (book_reported _ c.self.inside.promised c.self.inside.changes c.args.user c.args.demand c.self.invariant (omega arith) (omega arith))

pub returns-clause-stands : goal.returns-clause-stands
returns-clause-stands c =
    let rows = c.self.inside.rows in
    let lent = c.items_mut-rows.result.now in
    let changed = demanding c.args.demand in
    let written : List Row = set lent c.args.user (changed (get_or lent c.args.user blank_row)) in
    let whole = overwritten_whole rows written (length-set lent c.args.user (changed (get_or lent c.args.user blank_row)) ∙ ap length c.items_mut-rows.ensures.value) in
    let same = whole ∙ ap (λ (rs : List Row). set rs c.args.user (changed (get_or rs c.args.user blank_row))) c.items_mut-rows.ensures.value ∙ sym (change_at-set changed rows c.args.user blank_row) in
    ap (λ (rs : List Row). record { shape = c.self.inside.shape; quanta = c.self.inside.quanta; rows = rs; roster = c.self.inside.roster }) same ∙ ap (λ (book : BookView). reported book c.args.user c.args.demand) c.self.view_is
