use Rattle.std.proofs.Common.{sym, ◌∙◌, subst, ℕ, ◌<◌, ◌≤◌}
use Rattle.std.proofs.lemmas.Bool.{le-ltb}
use Rattle.far_words.proofs.Grammar.{is_path-few, is_path-many}
use Rattle.far_words.proofs.path.is_path.Goals as goal

pub returns-then-count_slashes-lt8 : goal.returns-then-count_slashes-lt8
returns-then-count_slashes-lt8 c = c.has_parts_only.ensures ∙ is_path-few c.args.text.now (subst (λ (n : ℕ). n < 8) c.count_slashes.ensures c.if-count_slashes-lt8.true)

pub returns-else-count_slashes-lt8 : goal.returns-else-count_slashes-lt8
returns-else-count_slashes-lt8 c =
    le-ltb c.count_slashes.result 8 c.if-count_slashes-lt8.false
    ∙ sym (is_path-many c.args.text.now (subst (λ (n : ℕ). 8 ≤ n) c.count_slashes.ensures c.if-count_slashes-lt8.false))
