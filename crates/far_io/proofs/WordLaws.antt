-- Laws of words.
use Rattle.std.proofs.Common.{◌≡◌, ◌≢◌, ℕ, ◌+◌, ◌%◌, ◌^◌, ◌<◌, true, not, cond, eqb, Bor, Option, Some, None, List, [], ◌∷◌, ◌++◌, length, take, drop, get_or, refl, sym, ◌∙◌, ap, subst, take-append-drop, arith}
use Rattle.std.specs.List.{slice_split, onto_first, join_with_byte, list_all}
use Rattle.std.specs.Fmt.{decimal}
use Rattle.std.proofs.lemmas.Bool.{cond-true, cond-false, cond_both, and_parts, both_ways, not-true, ne_eqb, eq-eqb}
use Rattle.std.proofs.lemmas.Fmt.{decimal_by_steps}
use Rattle.std.proofs.lemmas.List.Splits.{join_with_byte-slice_split}
use Rattle.std.proofs.lemmas.List.{take_more, drop_more}
use Rattle.far_io.specs.Lines.{on_first}
use Rattle.std.specs.Option.{option_copied, is_some}
use Rattle.far_io.specs.Words.{words_of, words_after, HasNoSpace}

words_of_none : words_of [] ≡ [] ∷ []
unfolding words_of
words_of_none = refl

words_of_more : (b : ℕ) (bs : List ℕ) → b ≢ 32 → words_of (b ∷ bs) ≡ on_first b (words_of bs)
unfolding words_of
words_of_more b bs other = cond-false (eqb b 32) ([] ∷ words_of bs) (on_first b (words_of bs)) (ne_eqb b 32 other)

words_of_space : (bs : List ℕ) → words_of (32 ∷ bs) ≡ [] ∷ words_of bs
unfolding words_of
words_of_space bs = cond-true (eqb 32 32) ([] ∷ words_of bs) (on_first 32 (words_of bs)) (eq-eqb 32 32 refl)

on_first_word : (b : ℕ) (word : List ℕ) (words : List (List ℕ)) → on_first b (word ∷ words) ≡ (b ∷ word) ∷ words
unfolding on_first
on_first_word b word words = refl

-- a word that ends with a space is the first, whatever follows
pub words_of-space : (word rest : List ℕ) → HasNoSpace word → words_of (word ++ 32 ∷ rest) ≡ word ∷ words_of rest
words_of-space [] rest none = words_of_space rest
words_of-space (b ∷ bs) rest none =
    words_of_more b (bs ++ 32 ∷ rest) none.0 ∙ ap (on_first b) (words_of-space bs rest none.1) ∙ on_first_word b bs (words_of rest)

-- a line without a space is one word
pub words_of-word : (word : List ℕ) → HasNoSpace word → words_of word ≡ word ∷ []
words_of-word [] none = words_of_none
words_of-word (b ∷ bs) none = words_of_more b bs none.0 ∙ ap (on_first b) (words_of-word bs none.1) ∙ on_first_word b bs []

pub HasNoSpace-push : (bytes : List ℕ) (byte : ℕ) → HasNoSpace bytes → byte ≢ 32 → HasNoSpace (bytes ++ byte ∷ [])
HasNoSpace-push [] byte none other = (other, tt)
HasNoSpace-push (b ∷ bs) byte none other = (none.0, HasNoSpace-push bs byte none.1 other)

pub no_space_more : (line : List ℕ) (i : ℕ) → i < length line → HasNoSpace (take i line) → get_or line i 0 ≢ 32 → HasNoSpace (take (i + 1) line)
no_space_more line i here none other = subst HasNoSpace (sym (take_more line i 0 here)) (HasNoSpace-push (take i line) (get_or line i 0) none other)

parted : (line : List ℕ) (i : ℕ) → i < length line → line ≡ take i line ++ get_or line i 0 ∷ drop (i + 1) line
parted line i here = sym (take-append-drop i line) ∙ ap (λ rest. take i line ++ rest) (drop_more line i 0 here)

-- where a space stands after none, it ends the first word
pub words_of-parted : (line : List ℕ) (i : ℕ) → i < length line → HasNoSpace (take i line) → get_or line i 0 ≡ 32
    → words_of line ≡ take i line ∷ words_of (drop (i + 1) line)
words_of-parted line i here none space =
    ap words_of (parted line i here ∙ ap (λ b. take i line ++ b ∷ drop (i + 1) line) space) ∙ words_of-space (take i line) (drop (i + 1) line) none

on_first_is : (byte : ℕ) (words : List (List ℕ)) → on_first byte words ≡ onto_first byte words
unfolding on_first
on_first_is byte [] = refl
on_first_is byte (word ∷ words) = refl

words_are_parts : (bytes : List ℕ) → words_of bytes ≡ slice_split (λ byte. eqb byte 32) bytes
unfolding words_of
words_are_parts [] = refl
words_are_parts (byte ∷ bytes) =
    ap (λ words. cond (eqb byte 32) ([] ∷ words) (on_first byte words)) (words_are_parts bytes)
    ∙ ap (λ words. cond (eqb byte 32) ([] ∷ slice_split (λ b. eqb b 32) bytes) words) (on_first_is byte (slice_split (λ b. eqb b 32) bytes))

-- lines of the same words are the same
pub words_of_injective : (xs ys : List ℕ) → words_of xs ≡ words_of ys → xs ≡ ys
words_of_injective xs ys same =
    sym (join_with_byte-slice_split 32 xs) ∙ ap (join_with_byte 32) (sym (words_are_parts xs) ∙ same ∙ words_are_parts ys) ∙ join_with_byte-slice_split 32 ys

on_first_some : (byte : ℕ) (words : List (List ℕ)) → on_first byte words ≡ [] → ⊥
unfolding on_first
on_first_some byte [] none = cc
on_first_some byte (word ∷ words) none = cc

-- a line has a word, be it an empty one
pub words_of_some : (bytes : List ℕ) → words_of bytes ≡ [] → ⊥
unfolding words_of
words_of_some [] none = cc
words_of_some (byte ∷ bytes) none =
    cond_both (eqb byte 32) ([] ∷ words_of bytes) (on_first byte (words_of bytes)) (λ words. words ≡ [] → ⊥) (λ e h. cc) (λ e h. on_first_some byte (words_of bytes) h) none

pub decimal_one_word : (n : ℕ) → n < 2 ^ 64 → HasNoSpace (decimal n)
decimal_one_word n fits =
    decimal_by_steps (λ n digits. HasNoSpace digits) (λ n low. (λ e. absurd (omega arith), tt))
    (λ n digits high before. HasNoSpace-push digits (48 + n % 10) before (λ e. absurd (omega arith))) n fits

pub no_space_by_test : (bytes : List ℕ) → list_all (λ byte. not (eqb byte 32)) bytes ≡ true → HasNoSpace bytes
no_space_by_test [] test = tt
no_space_by_test (b ∷ bs) test =
    let parts = and_parts (not (eqb b 32)) (list_all (λ byte. not (eqb byte 32)) bs) test in
    (λ e. both_ways (eqb b 32) (not-true (eqb b 32) parts.0) (eq-eqb b 32 e), no_space_by_test bs parts.1)

pub HasNoSpace-append : (xs ys : List ℕ) → HasNoSpace xs → HasNoSpace ys → HasNoSpace (xs ++ ys)
HasNoSpace-append [] ys none also = also
HasNoSpace-append (x ∷ xs) ys none also = (none.0, HasNoSpace-append xs ys none.1 also)

abbrev pub HaveNoSpace : List (List ℕ) → Type 0
HaveNoSpace [] = Unit {0}
HaveNoSpace (word ∷ words) = HasNoSpace word × HaveNoSpace words

-- words with one space between each two are the words of that line
pub words_of-joined : (word : List ℕ) (words : List (List ℕ)) → HaveNoSpace (word ∷ words) → words_of (join_with_byte 32 (word ∷ words)) ≡ word ∷ words
words_of-joined word [] none = words_of-word word none.0
words_of-joined word (next ∷ words) none = words_of-space word (join_with_byte 32 (next ∷ words)) none.0 ∙ ap (λ t. word ∷ t) (words_of-joined next words none.1)

pub joined-words_of : (bytes : List ℕ) → join_with_byte 32 (words_of bytes) ≡ bytes
joined-words_of bytes = ap (join_with_byte 32) (words_are_parts bytes) ∙ join_with_byte-slice_split 32 bytes

-- where something is left, so is a word
pub left_over : (rest : Option (Bor (List ℕ))) → is_some rest ≡ true → words_after (option_copied rest) ≡ [] → ⊥
left_over None some none = absurd cc
left_over (Some bytes) some none = words_of_some bytes.now none
