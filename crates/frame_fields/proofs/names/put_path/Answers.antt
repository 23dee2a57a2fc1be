use Rattle.std.proofs.Common.{◌<◌, ◌^◌, length, arith, ap}
use Rattle.far_words.proofs.Grammar.{path_sized}
use Rattle.frame_fields.proofs.names.put_path.Goals as goal

pub put_text-requires : goal.put_text-requires
put_text-requires c =
    omega (arith, ap length c.bytes.ensures.value, path_sized c.args.path.now c.bytes.ensures.grammar)

pub returns-clause-value : goal.returns-clause-value
returns-clause-value c =
    let low : length c.args.path.now < 2 ^ 32 = omega (arith, path_sized c.args.path.now c.bytes.ensures.grammar) in
    (low, c.bytes.ensures.grammar)
