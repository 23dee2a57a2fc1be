use Rattle.std.proofs.lemmas.Result.{err_from_is_err_and}
use Rattle.frame_fields.specs.Parts.{fields_of_rows}
use Rattle.frame_fields.proofs.RowLaws.{blames_row, rows_step}
use Rattle.frame_fields.proofs.rows.rows_at.Goals as goal

pub returns-in_err-row-clause-reads : goal.returns-in_err-row-clause-reads
returns-in_err-row-clause-reads g c =
    let p = err_from_is_err_and c.from_residual.result c.from_residual.ensures.1 in
    let all = c.loop.invariant in
    rw (p.1, p.2)
    (blames_row c.loop.counter c.args.count g.T.Framed.layout (fields_of_rows g.T.Framed.fields c.loop.items)
    c.args.bytes.now c.loop.rest.now c.in_err-row.field-0.0
    c.loop-test.true all.fits all.whole c.in_err-row.ensures)

pub loop-preserved : goal.loop-preserved
loop-preserved g c =
    let all = c.loop.invariant in
    let s =
    rows_step g.T.Framed.fields g.T.Framed.layout c.args.bytes.now c.loop.rest.now c.in_ok-row.after.now c.loop.items
    c.push.new.self c.in_ok-row.row c.loop.counter
    all.whole all.fits all.long c.in_ok-push.ensures.ok c.in_ok-row.ensures in
    record { whole = s.0; fits = s.1; long = s.2 }
