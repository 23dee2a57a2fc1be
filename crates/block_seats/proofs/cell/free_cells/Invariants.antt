use Rattle.std.proofs.Common.{vec_len}
use Rattle.block_seats.proofs.cell.free_cells.Given as goal

abbrev pub decreases-loop-cell : goal.decreases-loop-cell
decreases-loop-cell l = vec_len l.cells
