-- What a request asks, by the shape of its line: the verb, and the words after that of the user.
use Rattle.std.specs.Prelude.{ℕ, ◌^◌, ◌<◌, Bool, true, false, IsTrue, List, [], ◌∷◌, codes}
use Rattle.std.specs.Fmt.{decimal}
use Rattle.far_io.specs.Escapes.{escaped, AreBytes}
use Rattle.far_words.specs.Paths.{is_path}
use Rattle.far_words.specs.declared.kind.Kind.{Kind}
use Rattle.far_words.specs.declared.kind.Kind.TheVariants.{Dir, File, Queue, Table}
use Rattle.far_asks.specs.declared.request.Request.{Request}
use Rattle.far_asks.specs.declared.request.Request.TheVariants.{Make, Append, Read, Length, Push, Pop, Front, Count, Park, Load}
use Rattle.script_text.specs.declared.verb.PathVerb.{PathVerb}
use Rattle.script_text.specs.declared.verb.PathVerb.TheVariants as path_verb
use Rattle.script_text.specs.declared.verb.BytesVerb.{BytesVerb}
use Rattle.script_text.specs.declared.verb.BytesVerb.TheVariants as bytes_verb
use Rattle.script_text.specs.declared.verb.Verb.{Verb}
use Rattle.script_text.specs.declared.verb.Verb.TheVariants as verb

abbrev pub kind_word : Kind → List ℕ
kind_word Dir = codes "dir"
kind_word File = codes "file"
kind_word Queue = codes "queue"
kind_word Table = codes "table"

-- the kinds of which a line can make a name as yet
abbrev pub is_read : Kind → Bool
is_read File = true
is_read Queue = true
is_read kind = false

pub data Asked : Type 0 where
  AskMake : (path : List ℕ) (kind : Kind) (span : ℕ) → Asked
  AskRead : (path : List ℕ) (from len : ℕ) → Asked
  AskBytes : (verb : BytesVerb) (path bytes : List ℕ) → Asked
  AskPath : (verb : PathVerb) (path : List ℕ) → Asked

abbrev pub asked_of : Request → Asked
asked_of (Make path kind span) = AskMake path kind span
asked_of (Read path from len) = AskRead path from len
asked_of (Append path bytes) = AskBytes bytes_verb.Append path bytes
asked_of (Push path item) = AskBytes bytes_verb.Push path item
asked_of (Length path) = AskPath path_verb.Length path
asked_of (Pop path) = AskPath path_verb.Pop path
asked_of (Front path) = AskPath path_verb.Front path
asked_of (Count path) = AskPath path_verb.Count path
asked_of (Park path) = AskPath path_verb.Park path
asked_of (Load path) = AskPath path_verb.Load path

abbrev pub asked_verb : Asked → Verb
asked_verb (AskMake path kind span) = verb.Make
asked_verb (AskRead path from len) = verb.Read
asked_verb (AskBytes by path bytes) = verb.OfBytes by
asked_verb (AskPath by path) = verb.OfPath by

-- the words after that of the user
abbrev pub asked_fields : Asked → List (List ℕ)
asked_fields (AskMake path kind span) = path ∷ kind_word kind ∷ decimal span ∷ []
asked_fields (AskRead path from len) = path ∷ decimal from ∷ decimal len ∷ []
asked_fields (AskBytes by path bytes) = path ∷ escaped bytes ∷ []
asked_fields (AskPath by path) = path ∷ []

-- each field is within its limit, and a path is one
abbrev pub IsAskedWithin : Asked → Type 0
IsAskedWithin (AskMake path kind span) = IsTrue (is_path path) × (span < 2 ^ 64) × IsTrue (is_read kind)
IsAskedWithin (AskRead path from len) = IsTrue (is_path path) × (from < 2 ^ 64) × (len < 2 ^ 32)
IsAskedWithin (AskBytes by path bytes) = IsTrue (is_path path) × AreBytes bytes
IsAskedWithin (AskPath by path) = IsTrue (is_path path)
