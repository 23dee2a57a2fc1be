use Rattle.std.proofs.Common.{sym, ◌∙◌}
use Rattle.far_words.proofs.Grammar.{part_sized}
use Rattle.far_words.proofs.part.Part.parse.Goals as goal

pub held-requires : goal.held-requires
held-requires c = (part_sized c.args.text.now (sym c.is_part.ensures ∙ c.if-not-is_part.false)).at_most_32
