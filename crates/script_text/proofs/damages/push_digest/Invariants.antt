use Rattle.std.proofs.Common.{◌≡◌, ◌++◌, ◌+◌, ◌*◌, length, take}
use Rattle.script_text.specs.Damages.{digest_text}
use Rattle.script_text.proofs.damages.push_digest.Given as goal

abbrev pub invariant-loop-byte : goal.invariant-loop-byte
invariant-loop-byte l = record {
  text : l.piece ≡ l.initial.piece ++ digest_text (take l.byte-index l.digest);
  room : length l.piece ≡ length l.initial.piece + 2 * l.byte-index;
}
