-- What a request asks is told by its verb and its words.
use Rattle.std.proofs.Common.{◌≡◌, ◌≢◌, ℕ, true, false, cond, eqb, Result, Ok, Err, Option, Some, None, List, [], ◌∷◌, refl, sym, ◌∙◌, ap}
use Rattle.std.specs.Prelude.{IfSome, IfNone, codes}
use Rattle.std.specs.Result.{IfOk}
use Rattle.std.specs.Cmp.Lexicographic.{pointwise}
use Rattle.std.proofs.lemmas.Bool.{false≢true, and_from, eq-eqb}
use Rattle.far_io.specs.Words.{HasNoSpace}
use Rattle.far_io.proofs.Escapes.{escaped_one_word}
use Rattle.far_io.proofs.WordLaws.{HaveNoSpace, decimal_one_word, no_space_by_test}
use Rattle.far_words.specs.declared.kind.Kind.{Kind}
use Rattle.far_words.specs.declared.kind.Kind.TheVariants.{Dir, File, Queue, Table}
use Rattle.far_asks.specs.declared.request.Request.{Request}
use Rattle.far_asks.specs.declared.request.Request.TheVariants as request
use Rattle.script_text.specs.declared.verb.PathVerb.{PathVerb}
use Rattle.script_text.specs.declared.verb.PathVerb.TheVariants.{Length, Pop, Front, Count, Park, Load}
use Rattle.script_text.specs.declared.verb.BytesVerb.TheVariants.{Append, Push}
use Rattle.script_text.specs.declared.verb.Verb.{Verb}
use Rattle.script_text.specs.declared.verb.Verb.TheVariants.{Make, Read, OfBytes, OfPath}
use Rattle.script_text.specs.Verbs.{verb_word}
use Rattle.script_text.specs.Asked.{Asked, AskMake, AskRead, AskBytes, AskPath, kind_word, asked_of, asked_verb, asked_fields, IsAskedWithin}
use Rattle.script_text.specs.Fields.{IsAsked, IsNotAsked, IsAnswer}
use Rattle.script_text.proofs.OneLine.{word_no_space, path_word}
use Rattle.script_text.proofs.ReadBack.{same, wide, word_at, number_at, number_back, bytes_at, bytes_back}

texts_equal : (text : List ℕ) → pointwise eqb text text ≡ true
texts_equal [] = refl
texts_equal (byte ∷ bytes) = and_from (eqb byte byte) (pointwise eqb bytes bytes) (eq-eqb byte byte refl) (texts_equal bytes)

-- two words that a comparison tells apart
pub differ : (xs ys : List ℕ) → pointwise eqb xs ys ≡ false → xs ≡ ys → ⊥
differ xs ys apart same = false≢true (sym apart ∙ ap (pointwise eqb xs) (sym same) ∙ texts_equal xs)

-- the verbs
abbrev pub all_verbs : List Verb
all_verbs =
    Make ∷ Read ∷ OfBytes Append ∷ OfBytes Push ∷ OfPath Length ∷ OfPath Pop ∷ OfPath Front ∷ OfPath Count ∷ OfPath Park ∷ OfPath Load ∷ []

-- the word is that of none of these verbs
abbrev pub NoneOf : List ℕ → List Verb → Type 0
NoneOf word [] = Unit {0}
NoneOf word (verb ∷ verbs) = (word ≢ verb_word verb) × NoneOf word verbs

-- the first of these verbs that has the word
abbrev verb_among : List Verb → List ℕ → Verb
verb_among [] word = Make
verb_among (verb ∷ verbs) word = cond (same word (verb_word verb)) verb (verb_among verbs word)

-- the verbs' words, each in its own case
verb_back : (verb : Verb) → verb_among all_verbs (verb_word verb) ≡ verb
verb_back (OfBytes Append) = refl
verb_back (OfPath Length) = refl
verb_back verb = refl

pub no_draw : (verb : Verb) → same (verb_word verb) (codes "draw") ≡ false
no_draw (OfBytes Append) = refl
no_draw (OfPath Length) = refl
no_draw verb = refl

pub no_grant : (verb : Verb) → same (verb_word verb) (codes "grant") ≡ false
no_grant (OfBytes Append) = refl
no_grant (OfPath Length) = refl
no_grant verb = refl

pub verb_apart : (verb : Verb) → HasNoSpace (verb_word verb)
verb_apart (OfBytes Append) = no_space_by_test (codes "append") refl
verb_apart (OfPath Length) = no_space_by_test (codes "length") refl
verb_apart verb = no_space_by_test (verb_word verb) refl

-- one word is that of one verb
word_told : (verb other : Verb) → verb_word verb ≡ verb_word other → verb ≡ other
word_told verb other same = sym (verb_back verb) ∙ ap (verb_among all_verbs) same ∙ verb_back other

kind_one_word : (kind : Kind) → HasNoSpace (kind_word kind)
kind_one_word Dir = no_space_by_test (codes "dir") refl
kind_one_word File = no_space_by_test (codes "file") refl
kind_one_word Queue = no_space_by_test (codes "queue") refl
kind_one_word Table = no_space_by_test (codes "table") refl

pub fields_apart : (asked : Asked) → IsAskedWithin asked → HaveNoSpace (asked_fields asked)
fields_apart (AskMake path kind span) within = (word_no_space path (path_word path within.0), (kind_one_word kind, (decimal_one_word span within.1, tt)))
fields_apart (AskRead path from len) within = (word_no_space path (path_word path within.0), (decimal_one_word from within.1, (decimal_one_word len (wide len within.2), tt)))
fields_apart (AskBytes verb path bytes) within = (word_no_space path (path_word path within.0), (escaped_one_word bytes, tt))
fields_apart (AskPath verb path) within = (word_no_space path (path_word path within), tt)

-- what is asked, from the verb and the words
abbrev asked_from : Verb → List (List ℕ) → Asked
asked_from Make fields = AskMake (word_at fields 0) (cond (same (word_at fields 1) (codes "file")) File Queue) (number_at fields 2)
asked_from Read fields = AskRead (word_at fields 0) (number_at fields 1) (number_at fields 2)
asked_from (OfBytes verb) fields = AskBytes verb (word_at fields 0) (bytes_at fields 1)
asked_from (OfPath verb) fields = AskPath verb (word_at fields 0)

asked_back : (asked : Asked) → IsAskedWithin asked → asked_from (asked_verb asked) (asked_fields asked) ≡ asked
asked_back (AskMake path Dir span) within = let no = within.2 in cc
asked_back (AskMake path File span) within = ap (AskMake path File) (number_back span within.1)
asked_back (AskMake path Queue span) within = ap (AskMake path Queue) (number_back span within.1)
asked_back (AskMake path Table span) within = let no = within.2 in cc
asked_back (AskRead path from len) within = λ i. AskRead path (number_back from within.1 i) (number_back len (wide len within.2) i)
asked_back (AskBytes verb path bytes) within = ap (AskBytes verb path) (bytes_back bytes)
asked_back (AskPath verb path) within = refl

abbrev path_request : PathVerb → List ℕ → Request
path_request Length path = request.Length path
path_request Pop path = request.Pop path
path_request Front path = request.Front path
path_request Count path = request.Count path
path_request Park path = request.Park path
path_request Load path = request.Load path

abbrev request_asking : Asked → Request
request_asking (AskMake path kind span) = request.Make path kind span
request_asking (AskRead path from len) = request.Read path from len
request_asking (AskBytes Append path bytes) = request.Append path bytes
request_asking (AskBytes Push path bytes) = request.Push path bytes
request_asking (AskPath verb path) = path_request verb path

request_again : (asking : Request) → request_asking (asked_of asking) ≡ asking
request_again (request.Make path kind span) = refl
request_again asking = refl

-- the request of a word and the words after that of the user
abbrev pub request_from : List ℕ → List (List ℕ) → Request
request_from word fields = request_asking (asked_from (verb_among all_verbs word) fields)

pub request_back : (asking : Request) → IsAskedWithin (asked_of asking) → request_from (verb_word (asked_verb (asked_of asking))) (asked_fields (asked_of asking)) ≡ asking
request_back asking within =
    let asked = asked_of asking in
    ap (λ verb. request_asking (asked_from verb (asked_fields asked))) (verb_back (asked_verb asked))
    ∙ ap request_asking (asked_back asked within) ∙ request_again asking

pub no_verb : (word : List ℕ) (fields : List (List ℕ)) → ((verb : Verb) → word ≢ verb_word verb) → IsNotAsked word fields
no_verb word fields none request asked = none (asked_verb (asked_of request)) asked.word_is

-- what the verb and the words tell, the word does
module _ (E : Type 0) (word : List ℕ) (fields : List (List ℕ)) (verb : Verb) (is : word ≡ verb_word verb) where
  pub some_by_word : (result : Result (Option Request) E) → IfOk result (λ found. IsAnswer verb fields found) → IfOk result (λ found. IfSome found (λ asking. IsAsked word fields asking))
  some_by_word (Err e) answer = tt
  some_by_word (Ok None) answer = tt
  some_by_word (Ok (Some asking)) answer = record { word_is = is ∙ ap verb_word answer.verb_is; fields_are = answer.fields_are; within = answer.within }

  pub none_by_word : (result : Result (Option Request) E) → IfOk result (λ found. IsAnswer verb fields found) → IfOk result (λ found. IfNone found (IsNotAsked word fields))
  none_by_word (Err e) answer = tt
  none_by_word (Ok None) answer = λ asking asked. answer (asked_of asking)
      (record { verb_is = word_told verb (asked_verb (asked_of asking)) (sym is ∙ asked.word_is); fields_are = asked.fields_are; within = asked.within })
  none_by_word (Ok (Some asking)) answer = tt
