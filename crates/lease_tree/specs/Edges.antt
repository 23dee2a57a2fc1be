-- The text that an edge stands for.
use Rattle.std.specs.Prelude.{ℕ, List, ◌++◌}
use Rattle.lease_tree.specs.declared.order.Edge.{Edge}

abbrev pub text_of : Edge → List ℕ
text_of edge = edge.front.now ++ edge.middle.now ++ edge.back.now
