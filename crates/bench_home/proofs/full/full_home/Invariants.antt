use Rattle.std.proofs.Common.{◌≡◌}
use Rattle.block_seats.specs.Seatings.{granted_of}
use Rattle.bench_home.proofs.full.full_home.Given as goal

-- the home holds a slice of each id so far
abbrev pub invariant-loop-id : goal.invariant-loop-id
invariant-loop-id l = (l.home.seats.size ≡ l.size) × (l.home.seats.slices ≡ l.slices) × (granted_of l.home.seats ≡ l.id)
