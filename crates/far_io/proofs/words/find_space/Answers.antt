use Rattle.far_io.proofs.WordLaws.{no_space_more}
use Rattle.far_io.proofs.words.find_space.Goals as goal

pub loop-i-preserved : goal.loop-i-preserved
loop-i-preserved c = no_space_more _ _ c.loop-i-test.true c.loop-i.invariant c.if-byte-eq32.false
