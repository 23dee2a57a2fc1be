-- A line is told by its words.
use Rattle.std.proofs.Common.{◌≡◌, ◌≢◌, ℕ, ◌^◌, ◌<◌, cond, Option, Some, None, Result, Ok, Err, List, [], ◌∷◌, drop, refl, sym, ◌∙◌, ap}
use Rattle.std.specs.Prelude.{IfSome, IfNone, codes}
use Rattle.std.specs.Result.{IfOk}
use Rattle.std.specs.Fmt.{decimal}
use Rattle.std.specs.List.{join_with_byte}
use Rattle.std.specs.Str.Parse.{digits_value}
use Rattle.std.proofs.lemmas.Bool.{cond-false}
use Rattle.far_io.specs.Words.{words_of}
use Rattle.far_io.proofs.WordLaws.{words_of-joined, joined-words_of, decimal_one_word, no_space_by_test}
use Rattle.far_asks.specs.declared.request.Request.{Request}
use Rattle.script_text.specs.declared.line.ScriptLine.{ScriptLine}
use Rattle.script_text.specs.declared.line.ScriptLine.TheVariants.{Ask, Draw, Grant}
use Rattle.script_text.specs.declared.verb.Verb.{Verb}
use Rattle.script_text.specs.Words.{joined}
use Rattle.script_text.specs.Asked.{asked_of, asked_verb}
use Rattle.script_text.specs.Lines.{request_word, field_words, line_words, line_text, IsScriptLine, IsLineOf, IsNoLineOf, IsNoAsk, IsNoLine}
use Rattle.script_text.proofs.Asked.{differ, no_draw, no_grant, verb_apart, fields_apart, request_from, request_back}
use Rattle.script_text.proofs.ReadBack.{same, wide, word_at, number_at, number_back}

abbrev verb_of : Request → Verb
verb_of request = asked_verb (asked_of request)

-- a line's text has its words
pub words_of-line_text : (line : ScriptLine) → IsScriptLine line → words_of (line_text line) ≡ line_words line
unfolding line_text joined
words_of-line_text (Ask user request) within =
    words_of-joined (request_word request) (decimal user ∷ field_words request) (verb_apart (verb_of request), (decimal_one_word user (wide user within.0), fields_apart (asked_of request) within.1))
words_of-line_text Draw within = words_of-joined (codes "draw") [] (no_space_by_test (codes "draw") refl, tt)
words_of-line_text (Grant user) within =
    words_of-joined (codes "grant") (decimal user ∷ []) (no_space_by_test (codes "grant") refl, (decimal_one_word user (wide user within), tt))

-- a text that has a line's words is its text
pub line_from_words : (text : List ℕ) (line : ScriptLine) → IsLineOf (words_of text) line → text ≡ line_text line
unfolding line_text joined
line_from_words text line is_line = sym (joined-words_of text) ∙ ap (join_with_byte 32) is_line.words_are

pub no_line_from_words : (text : List ℕ) → IsNoLineOf (words_of text) → IsNoLine text
no_line_from_words text none = λ line within same. none line (record { words_are = ap words_of same ∙ words_of-line_text line within; within = within })

-- the line of words
abbrev line_from : List (List ℕ) → ScriptLine
line_from words =
    cond (same (word_at words 0) (codes "draw")) Draw
    (cond (same (word_at words 0) (codes "grant")) (Grant (number_at words 1)) (Ask (number_at words 1) (request_from (word_at words 0) (drop 2 words))))

line_back : (line : ScriptLine) → IsScriptLine line → line_from (line_words line) ≡ line
line_back (Ask user request) within =
    let number = number_back user (wide user within.0) in
    let asked = request_from (request_word request) (field_words request) in
    let other = Ask (digits_value 10 (decimal user)) asked in
    let grant = Grant (digits_value 10 (decimal user)) in
    cond-false (same (request_word request) (codes "draw")) Draw (cond (same (request_word request) (codes "grant")) grant other) (no_draw (verb_of request))
    ∙ cond-false (same (request_word request) (codes "grant")) grant other (no_grant (verb_of request))
    ∙ (λ i. Ask (number i) (request_back request within.1 i))
line_back Draw within = refl
line_back (Grant user) within = ap Grant (number_back user (wide user within))

first_same : (word next : List ℕ) (words others : List (List ℕ)) → word ∷ words ≡ next ∷ others → word ≡ next
first_same word next words others same = cc

-- each line has a text of its own
pub line_text_injective : (a b : ScriptLine) → IsScriptLine a → IsScriptLine b → line_text a ≡ line_text b → a ≡ b
line_text_injective a b x y same =
    let words = sym (words_of-line_text a x) ∙ ap words_of same ∙ words_of-line_text b y in
    sym (line_back a x) ∙ ap line_from words ∙ line_back b y

-- what a reader of words answers, in terms of the text
module _ (text word : List ℕ) (others : List (List ℕ)) (parted : words_of text ≡ word ∷ others) where
  spelled_one : (line : ScriptLine) → IsLineOf (word ∷ others) line → text ≡ line_text line
  spelled_one line is_line = line_from_words text line (record { words_are = parted ∙ is_line.words_are; within = is_line.within })

  none_here : IsNoLineOf (word ∷ others) → IsNoLine text
  none_here none = no_line_from_words text (λ line is_line. none line (record { words_are = sym parted ∙ is_line.words_are; within = is_line.within }))

  module _ (E : Type 0) where
    pub all_spelled : (result : Result (Option ScriptLine) E) → IfOk result (λ found. IfSome found (λ line. IsLineOf (word ∷ others) line))
        → IfOk result (λ found. IfSome found (λ line. text ≡ line_text line))
    all_spelled (Err e) some = tt
    all_spelled (Ok None) some = tt
    all_spelled (Ok (Some line)) some = spelled_one line some

    pub all_none : (result : Result (Option ScriptLine) E) → IfOk result (λ found. IfNone found (IsNoLineOf (word ∷ others)))
        → IfOk result (λ found. IfNone found (IsNoLine text))
    all_none (Err e) none = tt
    all_none (Ok None) none = none_here none
    all_none (Ok (Some line)) none = tt

    pub all_read_back : (result : Result (Option ScriptLine) E) → IfOk result (λ found. IfSome found (λ line. IsLineOf (word ∷ others) line))
        → IfOk result (λ found. IfNone found (IsNoLineOf (word ∷ others)))
        → (line : ScriptLine) → IsScriptLine line → text ≡ line_text line → IfOk result (λ found. found ≡ Some line)
    all_read_back (Err e) some none line within same = tt
    all_read_back (Ok None) some none line within same = absurd (none_here none line within same)
    all_read_back (Ok (Some found)) some none line within same =
        ap Some (line_text_injective found line some.within within (sym (spelled_one found some) ∙ same))

-- words of neither a draw nor a grant
pub only_asks : (E : Type 0) (word : List ℕ) (others : List (List ℕ)) (result : Result (Option ScriptLine) E) → word ≢ codes "draw" → word ≢ codes "grant"
    → IfOk result (λ found. IfNone found (IsNoAsk (word ∷ others))) → IfOk result (λ found. IfNone found (IsNoLineOf (word ∷ others)))
only_asks E word others (Err e) draw grant none = tt
only_asks E word others (Ok (Some line)) draw grant none = tt
only_asks E word others (Ok None) draw grant none = each
  where
    each : IsNoLineOf (word ∷ others)
    each (Ask user request) is_line = none user request is_line
    each Draw is_line = let same = is_line.words_are in draw cc
    each (Grant user) is_line = let same = is_line.words_are in grant cc

pub no_draw_more : (others : List (List ℕ)) (word : List ℕ) → word ≡ codes "draw" → (others ≡ [] → ⊥) → IsNoLineOf (word ∷ others)
no_draw_more others word is some (Ask user request) is_line =
    differ (request_word request) (codes "draw") (no_draw (verb_of request)) (sym (first_same word (request_word request) others (decimal user ∷ field_words request) is_line.words_are) ∙ is)
no_draw_more others word is some Draw is_line = let same = is_line.words_are in some cc
no_draw_more others word is some (Grant user) is_line = differ (codes "draw") (codes "grant") refl (sym is ∙ first_same word (codes "grant") others (decimal user ∷ []) is_line.words_are)

pub no_grant_of : (others : List (List ℕ)) (word : List ℕ) → word ≡ codes "grant" → ((user : ℕ) → user < 2 ^ 32 → others ≢ decimal user ∷ []) → IsNoLineOf (word ∷ others)
no_grant_of others word is none (Ask user request) is_line =
    differ (request_word request) (codes "grant") (no_grant (verb_of request)) (sym (first_same word (request_word request) others (decimal user ∷ field_words request) is_line.words_are) ∙ is)
no_grant_of others word is none Draw is_line = differ (codes "grant") (codes "draw") refl (sym is ∙ first_same word (codes "draw") others [] is_line.words_are)
no_grant_of others word is none (Grant user) is_line = let same = is_line.words_are in none user is_line.within cc
