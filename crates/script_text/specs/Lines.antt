-- The lines of a script, without their line ends.
use Rattle.std.specs.Prelude.{◌≡◌, ◌≢◌, ℕ, ◌^◌, ◌<◌, List, [], ◌∷◌, codes, Some}
use Rattle.std.specs.Fmt.{decimal}
use Rattle.std.specs.Result.{IfOk}
use Rattle.std.specs.declared.option.Option.{Option}
use Rattle.std.specs.declared.result.Result.{Result}
use Rattle.far_asks.specs.declared.request.Request.{Request}
use Rattle.script_text.specs.declared.line.ScriptLine.{ScriptLine}
use Rattle.script_text.specs.declared.line.ScriptLine.TheVariants.{Ask, Draw, Grant}
use Rattle.script_text.specs.Words.{joined}
use Rattle.script_text.specs.Verbs.{verb_word}
use Rattle.script_text.specs.Asked.{asked_of, asked_verb, asked_fields, IsAskedWithin}

-- the word with which a request's line begins
abbrev pub request_word : Request → List ℕ
request_word request = verb_word (asked_verb (asked_of request))

-- its further words, after that of the user
abbrev pub field_words : Request → List (List ℕ)
field_words request = asked_fields (asked_of request)

abbrev pub line_words : ScriptLine → List (List ℕ)
line_words (Ask user request) = request_word request ∷ decimal user ∷ field_words request
line_words Draw = codes "draw" ∷ []
line_words (Grant user) = codes "grant" ∷ decimal user ∷ []

unfoldable pub line_text : ScriptLine → List ℕ
line_text line = joined (line_words line)

-- each field is within its limit, and a path is one
abbrev pub IsRequest : Request → Type 0
IsRequest request = IsAskedWithin (asked_of request)

abbrev pub IsScriptLine : ScriptLine → Type 0
IsScriptLine (Ask user request) = (user < 2 ^ 32) × IsRequest request
IsScriptLine Draw = Unit {0}
IsScriptLine (Grant user) = user < 2 ^ 32

-- these are the words of this line
pub record IsLineOf (words : List (List ℕ)) (line : ScriptLine) : Type 0 where
  pub words_are : words ≡ line_words line
  pub within : IsScriptLine line

-- these are the words of no line
abbrev pub IsNoLineOf : List (List ℕ) → Type 0
IsNoLineOf words = (line : ScriptLine) → IsLineOf words line → ⊥

-- these are the words of no user's request
abbrev pub IsNoAsk : List (List ℕ) → Type 0
IsNoAsk words = (user : ℕ) (request : Request) → IsLineOf words (Ask user request) → ⊥

-- no line has this text
abbrev pub IsNoLine : List ℕ → Type 0
IsNoLine text = (line : ScriptLine) → IsScriptLine line → text ≢ line_text line

-- one spelling: where the text is that of a line, this line is what it stands for
abbrev pub IsLineReadBack : {E : Type 0} → List ℕ → Result (Option ScriptLine) E → Type 0
IsLineReadBack text result = (line : ScriptLine) → IsScriptLine line → text ≡ line_text line → IfOk result (λ found. found ≡ Some line)
