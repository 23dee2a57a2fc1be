use Rattle.std.proofs.Common.{ℕ, List, ap, sym, subst, ◌∙◌}
use Rattle.std.specs.Option.{option_copied}
use Rattle.far_words.specs.Paths.{bytes_cmp}
use Rattle.lease_tree.specs.Edges.{text_of}
use Rattle.lease_tree.specs.Lists.{IsSkipped}
use Rattle.lease_tree.specs.Trees.{base_of}
use Rattle.lease_tree.proofs.Passing.{passed_alone, not_past, not_past_itself}
use Rattle.lease_tree.proofs.tree.lists.skipped.Goals as goal

pub returns-in-Less : goal.returns-in-Less
returns-in-Less c =
    let base = base_of (option_copied c.args.under) in
    let name = c.args.name.now in
    subst (λ (t : List ℕ). IsSkipped base name t) (sym c.at_name.ensures) (record { onward = not_past_itself name; passed = passed_alone base name })

pub returns-in_default : goal.returns-in_default
returns-in_default c =
    let text = text_of c.passed-edge.result in
    record {
      onward = not_past text c.args.name.now (λ less. c.in_default.not-Less (c.order.ensures ∙ ap (bytes_cmp text) c.bytes.ensures.value ∙ less));
      passed = c.passed-edge.ensures;
    }
