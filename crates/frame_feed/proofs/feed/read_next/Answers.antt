use Rattle.std.proofs.Common.{◌≡◌, ◌+◌, List, ℕ, refl, ap, subst, ◌∙◌}
use Rattle.far_io.specs.Left.{in_front}
use Rattle.far_io.proofs.Faults.{follows_itself, follows_on}
use Rattle.frame_feed.specs.FeedView.{FeedView}
use Rattle.frame_fields.specs.Frames.{said}
use Rattle.frame_feed.specs.Feeds.{HasFrame}
use Rattle.frame_feed.proofs.Nexts.{whole_feeds, never_part}
use Rattle.frame_feed.proofs.feed.read_next.Goals as goal

pub returns-in-Whole-clause-feeds : goal.returns-in-Whole-clause-feeds
returns-in-Whole-clause-feeds g c =
    let all = c.pieces.invariant in
    rw c.cut.ensures
    (whole_feeds c.pieces.feed.ahead c.in-Whole.count (g.S.Source.left c.pieces.source) _ all.same
    (subst (λ (t : List ℕ). (c.in-Whole.count ≡ 4 + said t) × HasFrame t) c.ahead.ensures c.in-Whole.ensures))

pub pieces-init : goal.pieces-init
pieces-init g c = record {
  same = ap (λ (v : FeedView). in_front v.ahead (g.S.Source.left c.args.source.now)) c.drop_frame.ensures;
  frame = ap (λ (v : FeedView). v.frame) c.drop_frame.ensures;
  untaken = λ has. (refl, ap (λ (v : FeedView). v.ahead) c.drop_frame.ensures);
  faults = follows_itself (g.S.Source.faults c.args.source.now);
}

pub pieces-preserved : goal.pieces-preserved
pieces-preserved g c =
    let all = c.pieces.invariant in
    record {
      same = c.in-Ok.ensures.ahead.same ∙ all.same;
      frame = c.in-Ok.ensures.frame;
      untaken = λ has. never_part c.args.feed.now.ahead c.pieces.feed.ahead c.ahead.result.now has (all.untaken has).1
          c.ahead.ensures c.in-Part.ensures;
      faults = follows_on _ _ _ all.faults c.in-Ok.ensures.cause.follows;
    }

pub returns-in-Whole-clause-untaken : goal.returns-in-Whole-clause-untaken
returns-in-Whole-clause-untaken g c = λ has. (c.pieces.invariant.untaken has).0

pub returns-in-Long-clause-untaken : goal.returns-in-Long-clause-untaken
returns-in-Long-clause-untaken g c = λ has. (c.pieces.invariant.untaken has).0

pub returns-in-Err-clause-untaken : goal.returns-in-Err-clause-untaken
returns-in-Err-clause-untaken g c = λ has. never_part c.args.feed.now.ahead c.pieces.feed.ahead c.ahead.result.now has
    (c.pieces.invariant.untaken has).1 c.ahead.ensures c.in-Part.ensures

pub returns-then-have-eq0-clause-untaken : goal.returns-then-have-eq0-clause-untaken
returns-then-have-eq0-clause-untaken g c = λ has. never_part c.args.feed.now.ahead c.pieces.feed.ahead
    c.ahead.result.now has (c.pieces.invariant.untaken has).1 c.ahead.ensures c.in-Part.ensures

pub returns-then-count-eq0-clause-untaken : goal.returns-then-count-eq0-clause-untaken
returns-then-count-eq0-clause-untaken g c = λ has. never_part c.args.feed.now.ahead c.pieces.feed.ahead
    c.ahead.result.now has (c.pieces.invariant.untaken has).1 c.ahead.ensures c.in-Part.ensures
