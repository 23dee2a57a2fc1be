use Rattle.std.proofs.Common.{ℕ, List, ◌∷◌, ◌++◌, sym, ap, ◌∙◌}
use Rattle.std.specs.FinMap.{find}
use Rattle.far_words.specs.Paths.{bytes_cmp}
use Rattle.lease_tree.specs.Leases.{entry_of}
use Rattle.lease_tree.proofs.Found.{find-low, find-high, find-here}
use Rattle.lease_tree.proofs.Puts.{greater_back, same_name}
use Rattle.lease_tree.proofs.leases.Leases.+get.Goals as goal

pub returns-in-Less : goal.returns-in-Less
returns-in-Less t c =
    let top = c.in_ok-knot.ensures.some in
    let knot = c.in_ok-knot.knot.now in
    c.get.ensures ∙ sym (find-low c.args.path.now knot.left (entry_of knot) knot.right (sym c.in-Less.ensures) top.tied.between.above)
    ∙ ap (find bytes_cmp c.args.path.now) (sym top.is)

pub returns-in-Greater : goal.returns-in-Greater
returns-in-Greater t c =
    let top = c.in_ok-knot.ensures.some in
    let knot = c.in_ok-knot.knot.now in
    c.get-in-Greater.ensures
    ∙ sym (find-high c.args.path.now knot.left (entry_of knot) knot.right (greater_back c.args.path.now knot.path (sym c.in-Greater.ensures)) top.tied.between.below)
    ∙ ap (find bytes_cmp c.args.path.now) (sym top.is)

pub returns-in-Equal : goal.returns-in-Equal
returns-in-Equal t c =
    let top = c.in_ok-knot.ensures.some in
    let knot = c.in_ok-knot.knot.now in
    let same = same_name c.args.path.now knot.path (sym c.in-Equal.ensures) in
    sym (find-here knot.left (entry_of knot) knot.right top.tied.between.below)
    ∙ ap (λ (q : List ℕ). find bytes_cmp q (knot.left ++ entry_of knot ∷ knot.right)) (sym same)
    ∙ ap (find bytes_cmp c.args.path.now) (sym top.is)
