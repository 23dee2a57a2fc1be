use Rattle.std.proofs.Common.{arith}
use Rattle.std.proofs.lemmas.Slice.{drop-put_mid}
use Rattle.block_image.proofs.image.put_field.Goals as goal

pub returns-clause-rest : goal.returns-clause-rest
returns-clause-rest c = λ n after.
    drop-put_mid c.args.at _ c.args.out.now c.copy_from_slice.new.self n (omega (arith, after)) (omega (arith, c.requires)) (omega (arith, c.copy_from_slice.auto))
