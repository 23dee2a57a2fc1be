-- The words of a request's line, apart from its user.
use Rattle.std.specs.Prelude.{◌≡◌, ℕ, List, Some, None}
use Rattle.std.specs.declared.option.Option.{Option}
use Rattle.far_asks.specs.declared.request.Request.{Request}
use Rattle.script_text.specs.declared.verb.Verb.{Verb}
use Rattle.script_text.specs.Asked.{Asked, asked_of, asked_verb, asked_fields, IsAskedWithin}
use Rattle.script_text.specs.Lines.{request_word, field_words, IsRequest}

-- the line of this request begins with this word, and has these after that of the user
pub record IsAsked (word : List ℕ) (fields : List (List ℕ)) (request : Request) : Type 0 where
  pub word_is : word ≡ request_word request
  pub fields_are : fields ≡ field_words request
  pub within : IsRequest request

-- that of no request does
abbrev pub IsNotAsked : List ℕ → List (List ℕ) → Type 0
IsNotAsked word fields = (request : Request) → IsAsked word fields request → ⊥

-- the same by the verb: these fields are those of what is asked
pub record AreFieldsOf (verb : Verb) (fields : List (List ℕ)) (asked : Asked) : Type 0 where
  pub verb_is : verb ≡ asked_verb asked
  pub fields_are : fields ≡ asked_fields asked
  pub within : IsAskedWithin asked

-- the request that these fields are of, None where they are of no request
abbrev pub IsAnswer : Verb → List (List ℕ) → Option Request → Type 0
IsAnswer verb fields (Some request) = AreFieldsOf verb fields (asked_of request)
IsAnswer verb fields None = (asked : Asked) → AreFieldsOf verb fields asked → ⊥
