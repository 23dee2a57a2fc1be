use Rattle.std.proofs.Common.{◌∙◌, arith}
use Rattle.far_words.proofs.Grammar.{is_part-within, is_part-empty, is_part-too_long}
use Rattle.far_words.proofs.part.is_part.Goals as goal

pub returns-in-1-to-32 : goal.returns-in-1-to-32
returns-in-1-to-32 c = c.has_letters_only.ensures ∙ is_part-within c.args.text.now (omega arith) (omega arith)

pub returns-in_default : goal.returns-in_default
returns-in_default c = is_part-empty c.args.text.now (omega arith)

pub returns-in_default-2 : goal.returns-in_default-2
returns-in_default-2 c = is_part-too_long c.args.text.now (omega arith)
