use Rattle.std.proofs.lemmas.Result.{err_from_is_err_and}
use Rattle.frame_fields.proofs.LayoutLaws.{reads_both, blames_first, blames_then}
use Rattle.frame_fields.proofs.framed.Tuple2Framed.read.Goals as goal

pub returns-in_err-first : goal.returns-in_err-first
returns-in_err-first g c =
    let p = err_from_is_err_and c.from_residual.result c.from_residual.ensures.1 in
    rw (p.1, p.2) (blames_first g.A.Framed.layout g.B.Framed.layout c.args.bytes.now c.in_err-first.field-0.0
    c.in_err-first.ensures)

pub returns-in_err-second : goal.returns-in_err-second
returns-in_err-second g c =
    let p = err_from_is_err_and c.from_residual-in_err-second.result c.from_residual-in_err-second.ensures.1 in
    rw (p.1, p.2)
    (blames_then g.A.Framed.layout g.B.Framed.layout (g.A.Framed.fields c.in_ok-first.first) c.args.bytes.now
    c.in_ok-first.rest.now c.in_err-second.field-0.0
    c.in_ok-first.ensures c.in_err-second.ensures)

pub returns : goal.returns
returns g c =
    reads_both g.A.Framed.layout g.B.Framed.layout (g.A.Framed.fields c.in_ok-first.first)
    (g.B.Framed.fields c.in_ok-second.second)
    c.args.bytes.now c.in_ok-first.rest.now c.in_ok-second.rest.now c.in_ok-first.ensures c.in_ok-second.ensures
