use Rattle.std.proofs.Common.{◌≡◌, ◌++◌, take}
use Rattle.frame_fields.specs.Fields.{spelled}
use Rattle.frame_fields.specs.FrameLayouts.{Fits, times}
use Rattle.frame_fields.specs.Parts.{fields_of_rows}
use Rattle.frame_fields.proofs.rows.put_rows.Given as goal

abbrev pub invariant-loop-row : goal.invariant-loop-row
invariant-loop-row g l = record {
  put : l.out ≡ l.initial.out ++ spelled (fields_of_rows g.T.Framed.fields (take l.row-index l.rows));
  fit : Fits (times l.row-index g.T.Framed.layout) (fields_of_rows g.T.Framed.fields (take l.row-index l.rows));
}
