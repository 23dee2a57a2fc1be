use Rattle.std.proofs.Common.{◌≤◌, arith}
use Rattle.slice_seq.proofs.Needs.{div_ceil-mono}
use Rattle.block_file.proofs.FileBody.need.Goals as goal

pub overflow_sub-new : goal.overflow_sub-new
overflow_sub-new g c =
    let some : 1 ≤ c.from-size.result = omega (arith, c.size.ensures.some, c.size.ensures.value, c.from-size.ensures) in
    omega (arith, c.div_ceil.ensures, c.div_ceil-2.ensures, div_ceil-mono c.from-size.result c.self.inside.length c.args.more some)
