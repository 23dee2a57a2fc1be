-- The word with which the line of each request begins.
use Rattle.std.specs.Prelude.{ℕ, List, codes}
use Rattle.script_text.specs.declared.verb.PathVerb.TheVariants.{Length, Pop, Front, Count, Park, Load}
use Rattle.script_text.specs.declared.verb.BytesVerb.TheVariants.{Append, Push}
use Rattle.script_text.specs.declared.verb.Verb.{Verb}
use Rattle.script_text.specs.declared.verb.Verb.TheVariants.{Make, Read, OfBytes, OfPath}

abbrev pub verb_word : Verb → List ℕ
verb_word Make = codes "make"
verb_word Read = codes "read"
verb_word (OfBytes Append) = codes "append"
verb_word (OfBytes Push) = codes "push"
verb_word (OfPath Length) = codes "length"
verb_word (OfPath Pop) = codes "pop"
verb_word (OfPath Front) = codes "front"
verb_word (OfPath Count) = codes "count"
verb_word (OfPath Park) = codes "park"
verb_word (OfPath Load) = codes "load"
