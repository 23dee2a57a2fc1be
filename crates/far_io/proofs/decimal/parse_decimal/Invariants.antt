use Rattle.std.proofs.Common.{◌≡◌, ◌<◌, ◌^◌, take}
use Rattle.far_io.specs.Decimals.{AreDigits, value_of}
use Rattle.far_io.proofs.decimal.parse_decimal.Given as goal

abbrev pub invariant-loop-byte : goal.invariant-loop-byte
invariant-loop-byte l = record {
  number : l.number ≡ value_of (take l.byte-index l.text);
  digits : AreDigits (take l.byte-index l.text);
  fits : l.number < 2 ^ 64;
}
