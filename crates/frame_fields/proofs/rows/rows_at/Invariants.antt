use Rattle.std.proofs.Common.{◌≡◌, ◌++◌, length}
use Rattle.frame_fields.specs.Fields.{spelled}
use Rattle.frame_fields.specs.FrameLayouts.{Fits, times}
use Rattle.frame_fields.specs.Parts.{fields_of_rows}
use Rattle.frame_fields.proofs.rows.rows_at.Given as goal

abbrev pub invariant-loop : goal.invariant-loop
invariant-loop g l = record {
  whole : l.bytes ≡ spelled (fields_of_rows g.T.Framed.fields l.items) ++ l.rest;
  fits : Fits (times l.counter g.T.Framed.layout) (fields_of_rows g.T.Framed.fields l.items);
  long : length l.items ≡ l.counter;
}
