use Rattle.std.proofs.Common.{Bool, true, false, ◌∙◌, ap, subst, if◌then◌else◌}
use Rattle.std.proofs.lemmas.Result.{err_from_is_err_and}
use Rattle.far_io.specs.Left.{in_front}
use Rattle.quantum_text.specs.Reading.{first_lines, second_line, ReadsOne}
use Rattle.quantum_text.proofs.Blocks.{first_read, first_end, second_read, second_end, demand_read, demand_end, whole_first, counted_first, counted_two}
use Rattle.quantum_text.proofs.read.read_first.Goals as goal

pub returns-in_err-read_kind-clause-read : goal.returns-in_err-read_kind-clause-read
returns-in_err-read_kind-clause-read g c = λ agrees.
    let p = err_from_is_err_and c.from_residual.result c.from_residual.ensures.1 in
    rw (p.1, p.2) (first_end _ c.args.shape _ _ c.args.out.now first_lines _ _ c.in_err-read_kind.field-0.0 (c.in_err-read_kind.ensures.read agrees c.args.shape))

pub returns-in_err-read_second-clause-read : goal.returns-in_err-read_second-clause-read
returns-in_err-read_second-clause-read g c = λ agrees.
    let p = err_from_is_err_and c.from_residual-in_err-read_second.result c.from_residual-in_err-read_second.ensures.1 in
    let first = first_read _ c.args.shape c.args.line.now.number _ c.args.out.now _ _ (c.in_ok-read_kind.ensures.read agrees c.args.shape) in
    rw (p.1, p.2)
    (second_end _ c.args.shape _ _ c.args.out.now _ _ first_lines _ _ _ _ c.in_err-read_second.field-0.0 c.in_ok-read_kind.ensures.limit c.in_ok-read_kind.ensures.number first
    (c.in_err-read_second.ensures.read (c.in_ok-read_kind.ensures.agrees agrees)))

pub returns-in_err-read_kind-2-clause-read : goal.returns-in_err-read_kind-2-clause-read
returns-in_err-read_kind-2-clause-read g c = λ agrees.
    let p = err_from_is_err_and c.from_residual-in_err-read_kind-2.result c.from_residual-in_err-read_kind-2.ensures.1 in
    let agrees_on = c.in_ok-read_kind.ensures.agrees agrees in
    let first = first_read _ c.args.shape c.args.line.now.number _ c.args.out.now _ _ (c.in_ok-read_kind.ensures.read agrees c.args.shape) in
    let one = subst (λ told. ReadsOne c.read_kind.new.line.limit c.args.shape (second_line told) (in_front c.read_kind.new.line.ahead (g.S.Source.left c.read_kind.new.source)) (in_front c.read_second.new.line.ahead (g.S.Source.left c.read_second.new.source)) c.read_kind.new.out c.read_second.new.out) c.if-branch.true (c.in_ok-read_second.ensures.read agrees_on) in
    let second = second_read _ c.args.shape c.args.line.now.number _ c.args.out.now _ _ _ true _ _ c.in_ok-read_kind.ensures.limit first one in
    rw (p.1, p.2)
    (demand_end _ c.args.shape _ _ c.args.out.now _ _ first_lines _ c.read_kind.new.line.number _ _ _ c.in_err-read_kind-2.field-0.0 (c.in_ok-read_second.ensures.limit ∙ c.in_ok-read_kind.ensures.limit)
    c.in_ok-read_kind.ensures.number c.in_ok-read_second.ensures.number second (c.in_err-read_kind-2.ensures.read (c.in_ok-read_second.ensures.agrees agrees_on) c.args.shape))

pub returns-in_ok-read_kind-2-clause-read : goal.returns-in_ok-read_kind-2-clause-read
returns-in_ok-read_kind-2-clause-read g c = λ agrees.
    let agrees_on = c.in_ok-read_kind.ensures.agrees agrees in
    let first = first_read _ c.args.shape c.args.line.now.number _ c.args.out.now _ _ (c.in_ok-read_kind.ensures.read agrees c.args.shape) in
    let one = subst (λ told. ReadsOne c.read_kind.new.line.limit c.args.shape (second_line told) (in_front c.read_kind.new.line.ahead (g.S.Source.left c.read_kind.new.source)) (in_front c.read_second.new.line.ahead (g.S.Source.left c.read_second.new.source)) c.read_kind.new.out c.read_second.new.out) c.if-branch.true (c.in_ok-read_second.ensures.read agrees_on) in
    let second = second_read _ c.args.shape c.args.line.now.number _ c.args.out.now _ _ _ true _ _ c.in_ok-read_kind.ensures.limit first one in
    whole_first _ c.args.shape c.args.line.now.number _ c.args.out.now true _ _
    (demand_read _ c.args.shape c.args.line.now.number _ c.args.out.now _ _ _ _ _ (c.in_ok-read_second.ensures.limit ∙ c.in_ok-read_kind.ensures.limit) second
    (c.in_ok-read_kind-2.ensures.read (c.in_ok-read_second.ensures.agrees agrees_on) c.args.shape))

pub returns-in_ok-read_kind-2-clause-number : goal.returns-in_ok-read_kind-2-clause-number
returns-in_ok-read_kind-2-clause-number g c =
    counted_first c.args.line.now.number _ _ _ _ c.in_ok-read_kind.ensures.number c.in_ok-read_second.ensures.number c.in_ok-read_kind-2.ensures.number
    (c.in_ok-read_kind-2.ensures.changed ∙ c.in_ok-read_second.ensures.changed ∙ ap (λ (told : Bool). if told then true else c.read_kind.new.out.changed) c.if-branch.true)

pub returns-else-branch-clause-read : goal.returns-else-branch-clause-read
returns-else-branch-clause-read g c = λ agrees.
    let first = first_read _ c.args.shape c.args.line.now.number _ c.args.out.now _ _ (c.in_ok-read_kind.ensures.read agrees c.args.shape) in
    let one = subst (λ told. ReadsOne c.read_kind.new.line.limit c.args.shape (second_line told) (in_front c.read_kind.new.line.ahead (g.S.Source.left c.read_kind.new.source)) (in_front c.read_second.new.line.ahead (g.S.Source.left c.read_second.new.source)) c.read_kind.new.out c.read_second.new.out) c.if-branch.false (c.in_ok-read_second.ensures.read (c.in_ok-read_kind.ensures.agrees agrees)) in
    whole_first _ c.args.shape c.args.line.now.number _ c.args.out.now false _ _ (second_read _ c.args.shape c.args.line.now.number _ c.args.out.now _ _ _ false _ _ c.in_ok-read_kind.ensures.limit first one)

pub returns-else-branch-clause-number : goal.returns-else-branch-clause-number
returns-else-branch-clause-number g c =
    counted_two c.args.line.now.number _ _ _ c.in_ok-read_kind.ensures.number c.in_ok-read_second.ensures.number
    (c.in_ok-read_second.ensures.changed ∙ ap (λ (told : Bool). if told then true else c.read_kind.new.out.changed) c.if-branch.false ∙ c.in_ok-read_kind.ensures.changed)
