use Rattle.std.proofs.Common.{length, ap, sym, ◌∙◌}
use Rattle.id_set.proofs.BitLemmas.{length-bits_of}
use Rattle.id_set.proofs.bits.Level.bound.Goals as goal

pub returns : goal.returns
returns g c = sym (ap length (sym c.self.view_is) ∙ length-bits_of c.self.inside.bound c.self.inside.words.items)
