use Rattle.std.proofs.Common.{sym, ◌∙◌}
use Rattle.far_words.proofs.Grammar.{is_path-long}
use Rattle.far_words.proofs.Parents.{joined-is_path, is_path-joined}
use Rattle.far_words.proofs.path.Path.parse.Goals as goal

pub returns-then-text-gt263-clause-grammar : goal.returns-then-text-gt263-clause-grammar
returns-then-text-gt263-clause-grammar c = let bad = is_path-long c.args.text.now c.if-text-gt263.true in (λ e. absurd cc, λ e. absurd cc)

pub returns-then-text-gt263-clause-joined : goal.returns-then-text-gt263-clause-joined
returns-then-text-gt263-clause-joined c parts j = sym (is_path-long c.args.text.now c.if-text-gt263.true) ∙ joined-is_path c.args.text.now parts j

pub returns-then-not-is_path-clause-joined : goal.returns-then-not-is_path-clause-joined
returns-then-not-is_path-clause-joined c parts j = sym c.if-not-is_path.true ∙ c.is_path.ensures ∙ joined-is_path c.args.text.now parts j

pub returns-clause-parted : goal.returns-clause-parted
returns-clause-parted c = is_path-joined c.args.text.now (sym c.is_path.ensures ∙ c.if-not-is_path.false)
