use Rattle.script_text.proofs.LineWords.{all_spelled, all_none, all_read_back}
use Rattle.script_text.proofs.line.parse_line.Goals as goal

pub returns-clause-spelled : goal.returns-clause-spelled
returns-clause-spelled c = all_spelled _ _ _ c.split_word.ensures.words _ c.parse_words.result c.parse_words.ensures.some

pub returns-clause-none : goal.returns-clause-none
returns-clause-none c = all_none _ _ _ c.split_word.ensures.words _ c.parse_words.result c.parse_words.ensures.none

pub returns-clause-one_spelling : goal.returns-clause-one_spelling
returns-clause-one_spelling c = all_read_back _ _ _ c.split_word.ensures.words _ c.parse_words.result c.parse_words.ensures.some c.parse_words.ensures.none
