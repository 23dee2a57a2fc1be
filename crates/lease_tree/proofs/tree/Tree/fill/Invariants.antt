use Rattle.std.specs.Option.{option_copied}
use Rattle.lease_tree.specs.Trees.{base_of}
use Rattle.lease_tree.proofs.Filling.{IsFilled, left_from}
use Rattle.lease_tree.proofs.tree.Tree.fill.Given as goal

abbrev pub invariant-loop-next : goal.invariant-loop-next
invariant-loop-next g l = IsFilled (base_of (option_copied l.under)) l.self l.after (option_copied l.next) l.out

abbrev pub decreases-loop-next : goal.decreases-loop-next
decreases-loop-next g l = left_from (base_of (option_copied l.under)) l.self (option_copied l.next)
