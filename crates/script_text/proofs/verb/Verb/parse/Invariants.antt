use Rattle.std.proofs.Common.{take}
use Rattle.script_text.proofs.Asked.{all_verbs, NoneOf}
use Rattle.script_text.proofs.verb.Verb.parse.Given as goal

abbrev pub invariant-loop-verb : goal.invariant-loop-verb
invariant-loop-verb l = NoneOf l.word (take l.verb-index all_verbs)
