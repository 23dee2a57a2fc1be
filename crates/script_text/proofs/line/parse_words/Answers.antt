use Rattle.std.proofs.Common.{sym, ◌∙◌, ap}
use Rattle.std.specs.Option.{option_copied}
use Rattle.far_io.specs.Words.{words_after}
use Rattle.far_io.proofs.WordLaws.{words_of_some}
use Rattle.script_text.proofs.LineWords.{no_draw_more}
use Rattle.script_text.proofs.line.parse_words.Goals as goal

pub returns-in-Some-clause-none : goal.returns-in-Some-clause-none
returns-in-Some-clause-none c =
    no_draw_more _ _ (c.is_word.ensures.0 c.if-is_word.true) (λ none. words_of_some _ (ap (λ words. words_after (option_copied words)) (sym c.in-Some.is) ∙ none))
