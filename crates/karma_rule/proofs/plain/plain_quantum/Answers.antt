use Rattle.std.proofs.Common.{◌≡◌, ◌+◌, map, sym, ap, ◌∙◌}
use Rattle.karma_rule.proofs.Laws.{karma_keeps}
use Rattle.karma_rule.specs.Karma.{Quantum, opening, closing, lendable, next, row_of}
use Rattle.karma_rule.specs.OpenRow.{user_of, quantum_of}
use Rattle.karma_rule.proofs.Loans.{closing-next, closing-fixed}
use Rattle.karma_rule.proofs.Walks.{map-map}
use Rattle.karma_rule.proofs.plain.plain_quantum.Goals as goal

pub loans-preserved : goal.loans-preserved
loans-preserved c =
    let before : Quantum = quantum_of c.loans.rows c.loans.shared in
    record {
      closes = ap closing c.make_loan.ensures.next
          ∙ closing-next before (c.loans-test.ensures.made ∙ ap (λ q. lendable q + 1) c.make_loan.ensures.next)
          ∙ c.loans.invariant.closes;
      rows_open = c.make_loan.ensures.rows_open;
    }

-- the last call made no loan, so that the quantum is closed
pub returns : goal.returns
returns c =
    let before : Quantum = quantum_of c.loans.rows c.loans.shared in
    let fixed : next before ≡ before = sym c.make_loan.ensures.next ∙ c.loans-test.ensures.ended in
    let closed : quantum_of c.make_loan.new.rows c.make_loan.new.shared ≡ closing (opening c.args.rows.now) =
    c.loans-test.ensures.ended ∙ sym (closing-fixed before fixed) ∙ c.loans.invariant.closes in
    karma_keeps _ _ c.requires.ready
    (c.close_rows.ensures
    ∙ sym (map-map row_of user_of c.make_loan.new.rows)
    ∙ ap (λ q. map row_of q.users) closed)
