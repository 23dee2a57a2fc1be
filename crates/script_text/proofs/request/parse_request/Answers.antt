use Rattle.script_text.proofs.Asked.{no_verb, some_by_word, none_by_word}
use Rattle.script_text.proofs.request.parse_request.Goals as goal

pub returns-in-None-clause-none : goal.returns-in-None-clause-none
returns-in-None-clause-none c = no_verb _ _ c.in-None.ensures.none

pub returns-in-Some-clause-some : goal.returns-in-Some-clause-some
returns-in-Some-clause-some c = some_by_word _ _ _ c.in-Some.verb c.in-Some.ensures.some c.parse_fields.result c.parse_fields.ensures

pub returns-in-Some-clause-none : goal.returns-in-Some-clause-none
returns-in-Some-clause-none c = none_by_word _ _ _ c.in-Some.verb c.in-Some.ensures.some c.parse_fields.result c.parse_fields.ensures
