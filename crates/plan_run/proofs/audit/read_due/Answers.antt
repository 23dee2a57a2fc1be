use Rattle.std.proofs.Common.{◌≡◌, Bool, true, false, List, ℕ, Option, Some, None, MatchOption, refl, ◌∙◌, subst, length, ◌≤◌}
use Rattle.quantum_text.specs.declared.line_kind.LineKind.{LineKind}
use Rattle.std.specs.Bool.{OnTrue, OnFalse}
use Rattle.quantum_text.specs.Block.{IsLine, IsNoLine}
use Rattle.run_end.specs.declared.TheConstants.{MOST_LINE}
use Rattle.plan_run.specs.AuditText.{numbers_of_line}
use Rattle.plan_run.proofs.AuditLines.{line_good, line_none, due_left, quantum_left}
use Rattle.plan_run.proofs.audit.read_due.Goals as goal

on_true : {P : Type 0} (good : Bool) → P → OnTrue good P
on_true true fact = fact
on_true false fact = tt

answer : (due : Option (List ℕ)) (good : Bool) (numbers : List ℕ) → OnTrue good (due ≡ Some numbers) → OnFalse good (due ≡ None) → MatchOption due (good ≡ false) (λ read. (good ≡ true) × (numbers ≡ read))
answer due true numbers good_is bad_is = rw good_is (refl, refl)
answer due false numbers good_is bad_is = rw bad_is refl

good_due : (due : Option (List ℕ)) (users old : ℕ) (kind : LineKind) (line numbers : List ℕ) (good : Bool) → due ≡ numbers_of_line kind users line → old ≡ users → length line ≤ MOST_LINE
    → OnTrue good (IsLine kind old line numbers) → OnTrue good (due ≡ Some numbers)
good_due due users old kind line numbers true is_due same fits is_line = is_due ∙ line_good kind users line numbers fits (subst (λ n. IsLine kind n line numbers) same is_line)
good_due due users old kind line numbers false is_due same fits is_line = tt

bad_due : (due : Option (List ℕ)) (users old : ℕ) (kind : LineKind) (line : List ℕ) (good : Bool) → due ≡ numbers_of_line kind users line → old ≡ users → length line ≤ MOST_LINE
    → OnFalse good (IsNoLine kind old line) → OnFalse good (due ≡ None)
bad_due due users old kind line true is_due same fits none = tt
bad_due due users old kind line false is_due same fits none = is_due ∙ line_none kind users line fits (subst (λ n. IsNoLine kind n line) same none)

pub returns-clause-numbers : goal.returns-clause-numbers
returns-clause-numbers c =
    let book = c.args.book.now in
    let is_due = due_left book c.args.kind c.args.line.now c.is_spent.result c.is_spent.ensures c.if-is_spent.false in
    answer _ c.parse_block_line.result _
    (good_due _ book.shape.users _ c.args.kind c.args.line.now _ c.parse_block_line.result is_due c.requires.rows c.requires.fits c.parse_block_line.ensures.good)
    (bad_due _ book.shape.users _ c.args.kind c.args.line.now c.parse_block_line.result is_due c.requires.rows c.requires.fits c.parse_block_line.ensures.bad)

pub returns-clause-left : goal.returns-clause-left
returns-clause-left c = on_true c.parse_block_line.result (quantum_left c.args.kind c.args.book.now.quanta c.is_spent.result c.is_spent.ensures c.if-is_spent.false)
