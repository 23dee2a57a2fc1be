use Rattle.std.proofs.Common.{◌≡◌, ◌-◌, ◌≤◌, length, take}
use Rattle.std.specs.List.{flat_map}
use Rattle.far_io.specs.Escapes.{escaped_byte, AreBytes}
use Rattle.far_io.proofs.escape.parse_escaped.Given as goal

abbrev pub invariant-loop-at : goal.invariant-loop-at
invariant-loop-at l = record {
  front : take l.at l.text ≡ flat_map escaped_byte l.bytes;
  bytes : AreBytes l.bytes;
  within : l.at ≤ length l.text;
}

abbrev pub decreases-loop-at : goal.decreases-loop-at
decreases-loop-at l = length l.text - l.at
