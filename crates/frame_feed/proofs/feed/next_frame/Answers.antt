use Rattle.std.proofs.Common.{refl}
use Rattle.frame_feed.proofs.Nexts.{decided, first_read}
use Rattle.frame_feed.proofs.feed.next_frame.Goals as goal

pub returns-clause-decided : goal.returns-clause-decided
returns-clause-decided g c = λ bytes told. decided _ _ (g.S.Source.left c.read_next.new.source) c.read_next.new.feed
    c.read_next.result refl c.read_next.ensures.feeds bytes told

pub returns-clause-first : goal.returns-clause-first
returns-clause-first g c = λ frame more is told.
    first_read _ c.read_next.new.feed.frame c.read_next.result (decided _ _ (g.S.Source.left c.read_next.new.source)
    c.read_next.new.feed c.read_next.result refl c.read_next.ensures.feeds _ told) frame more is refl
