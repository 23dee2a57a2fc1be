use Rattle.std.proofs.Common.{length, ◌/◌, ap, arith}
use Rattle.std.specs.Fmt.{decimal}
use Rattle.std.proofs.lemmas.List.{length-append}
use Rattle.far_io.proofs.Decimals.{length_step}
use Rattle.far_io.proofs.piece.+push_digits.Goals as goal

pub push-requires-2 : goal.push-requires-2
push-requires-2 t c =
    let grown = ap length c.push_digits.ensures in
    omega (arith, grown, length-append c.args.piece.now (decimal (c.args.value / 10)), length_step c.args.value c.if-value-lt10.false c.ranges.value.fits, c.requires)
