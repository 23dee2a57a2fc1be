use Rattle.std.proofs.Common.{◌<◌, length, refl, arith, inr}
use Rattle.std.proofs.lemmas.Result.{err_from_is_err_and}
use Rattle.frame_fields.proofs.LayoutLaws.{blames_all}
use Rattle.frame_fields.proofs.framed.read_all.Goals as goal

pub returns-in_err-value : goal.returns-in_err-value
returns-in_err-value g c =
    let p = err_from_is_err_and c.from_residual.result c.from_residual.ensures.1 in
    rw (p.1, p.2) (blames_all g.T.Framed.layout c.args.bytes.now c.in_err-value.field-0.0 c.in_err-value.ensures)

pub returns-then-not-is_empty : goal.returns-then-not-is_empty
returns-then-not-is_empty g c =
    let some : 0 < length c.in_ok-value.rest.now = grind arith in
    inr (record {
      fields = g.T.Framed.fields c.in_ok-value.value;
      rest = c.in_ok-value.rest.now;
      fits = c.in_ok-value.ensures.1;
      begins = c.in_ok-value.ensures.0;
      some = some;
      count = refl;
    })
