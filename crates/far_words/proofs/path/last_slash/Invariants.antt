use Rattle.std.proofs.Common.{◌≡◌, ◌≤◌, ◌==◌, false, length, drop}
use Rattle.std.specs.List.{All}
use Rattle.far_words.specs.Paths.{slash}
use Rattle.far_words.proofs.path.last_slash.Given as goal

abbrev pub invariant-loop-at : goal.invariant-loop-at
invariant-loop-at l = (l.at ≤ length l.text) × All (λ byte. (byte == slash) ≡ false) (drop l.at l.text)

abbrev pub decreases-loop-at : goal.decreases-loop-at
decreases-loop-at l = l.at
