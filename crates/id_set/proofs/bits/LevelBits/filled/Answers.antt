use Rattle.std.proofs.Common.{arith}
use Rattle.id_set.specs.Words.{Fills}
use Rattle.id_set.proofs.FilledLemmas.{bits_of-filled}
use Rattle.id_set.proofs.bits.LevelBits.filled.Goals as goal

pub overflow_cast-len : goal.overflow_cast-len
overflow_cast-len g c =
    let fills : Fills c.args.bound c.in_ok-words.words.items c.args.member = c.in_ok-words.ensures in
    omega (arith, fills.count, fills.small, c.in_ok-words.words.ok.0)

pub returns : goal.returns
returns g c = bits_of-filled c.args.bound c.in_ok-words.words.items c.args.member c.in_ok-words.ensures
