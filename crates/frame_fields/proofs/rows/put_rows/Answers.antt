use Rattle.std.proofs.Common.{◌+◌, ◌++◌, ◌∷◌, [], take, sym, ◌∙◌}
use Rattle.std.proofs.lemmas.List.{take_more}
use Rattle.frame_fields.proofs.RowLaws.{row_put, row_fits}
use Rattle.frame_fields.proofs.rows.put_rows.Goals as goal

pub loop-row-preserved : goal.loop-row-preserved
loop-row-preserved g c =
    let i = c.loop-row.row-index in
    let rows = c.args.rows.now in
    let row = c.row-item.result in
    let all = c.loop-row.invariant in
    let more = take_more rows i row c.loop-row-test.true ∙ (λ j. take i rows ++ sym c.row-item.is j ∷ []) in
    let fields = g.T.Framed.fields in
    record {
      put = row_put fields c.args.out.now c.loop-row.out c.put.new.out (take i rows) (take (i + 1) rows) row all.put
          c.in_ok-put.ensures.put more;
      fit = row_fits fields g.T.Framed.layout (take i rows) (take (i + 1) rows) row i all.fit c.in_ok-put.ensures.fits
          more;
    }
