use Rattle.std.proofs.Common.{length, sym, ◌∙◌}
use Rattle.block_queue.proofs.Behind.{needed_away}
use Rattle.block_queue.proofs.moves.place_item.Goals as goal

pub returns-in-Some-clause-void : goal.returns-in-Some-clause-void
returns-in-Some-clause-void g c = λ v needed.
    c.push_behind.ensures.void v
    (needed_away c.args.home.now.seats c.args.marks.now.items (length c.args.piece.now) c.in-Some.block (sym c.requires.target ∙ c.in-Some.is) needed)
