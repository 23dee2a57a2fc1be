use Rattle.std.proofs.Common.{vec_len}
use Rattle.block_pool.proofs.pool.free_all.Given as goal

abbrev pub decreases-loop-place : goal.decreases-loop-place
decreases-loop-place l = vec_len l.places
