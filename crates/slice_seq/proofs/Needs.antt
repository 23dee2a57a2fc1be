-- How many slices a file needs to grow.
use Rattle.std.proofs.Common.{ℕ, ◌+◌, ◌<◌, ◌≤◌, arith}
use Rattle.std.specs.Int.{div_ceil}
use Rattle.std.proofs.Math.Nat.{lt_of_mul-lt-mul_right}
use Rattle.std.proofs.lemmas.Grind.{div_ceil_times}

-- more bytes take no fewer blocks
pub div_ceil-mono : (size old more : ℕ) → 1 ≤ size → div_ceil old size ≤ div_ceil (old + more) size
div_ceil-mono size old more some =
    let low = div_ceil_times old size some in
    let high = div_ceil_times (old + more) size some in
    let below : div_ceil old size < div_ceil (old + more) size + 1 = lt_of_mul-lt-mul_right size (omega (arith, low, high)) in
    omega arith
