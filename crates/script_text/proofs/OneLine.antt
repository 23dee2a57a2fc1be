-- Words have neither spaces nor line ends.
use Rattle.std.proofs.Common.{◌≡◌, ◌≢◌, ℕ, ◌+◌, ◌/◌, ◌%◌, ◌^◌, ◌<◌, ◌≤◌, ◌&&◌, Bool, true, not, eqb, leb, ltb, nat_le, List, [], ◌∷◌, ◌++◌, length, subst, arith}
use Rattle.std.specs.Prelude.{IsTrue}
use Rattle.std.specs.Fmt.{decimal}
use Rattle.std.specs.List.{flat_map, list_all, join_with_byte}
use Rattle.std.proofs.lemmas.Bool.{false≢true, and_parts, cond_both, leb-true}
use Rattle.std.proofs.lemmas.Fmt.{decimal_by_steps}
use Rattle.std.proofs.lemmas.List.Splits.{join_with_byte-slice_split}
use Rattle.far_io.specs.Words.{HasNoSpace}
use Rattle.far_io.specs.Escapes.{is_plain, hex_digit, escaped_byte, escaped}
use Rattle.far_io.proofs.WordLaws.{HaveNoSpace}
use Rattle.far_words.specs.Paths.{is_between, is_name_byte, is_part, slash, parts_of, is_path}
use Rattle.script_text.specs.Words.{joined, HasNoEnd}

-- each byte is neither a space nor a line end
abbrev pub IsWord : List ℕ → Type 0
IsWord [] = Unit {0}
IsWord (byte ∷ bytes) = (byte ≢ 32) × (byte ≢ 10) × IsWord bytes

abbrev pub AreWords : List (List ℕ) → Type 0
AreWords [] = Unit {0}
AreWords (word ∷ words) = IsWord word × AreWords words

pub word_no_space : (bytes : List ℕ) → IsWord bytes → HasNoSpace bytes
word_no_space [] word = tt
word_no_space (byte ∷ bytes) word = (word.0, word_no_space bytes word.2)

word_no_end : (bytes : List ℕ) → IsWord bytes → HasNoEnd bytes
word_no_end [] word = tt
word_no_end (byte ∷ bytes) word = (word.1, word_no_end bytes word.2)

HasNoEnd-append : (xs ys : List ℕ) → HasNoEnd xs → HasNoEnd ys → HasNoEnd (xs ++ ys)
HasNoEnd-append [] ys none also = also
HasNoEnd-append (x ∷ xs) ys none also = (none.0, HasNoEnd-append xs ys none.1 also)

pub words_no_space : (words : List (List ℕ)) → AreWords words → HaveNoSpace words
words_no_space [] are = tt
words_no_space (word ∷ words) are = (word_no_space word are.0, words_no_space words are.1)

-- a line has no line end inside
pub joined_no_end : (words : List (List ℕ)) → AreWords words → HasNoEnd (joined words)
unfolding joined
joined_no_end [] are = tt
joined_no_end (word ∷ []) are = word_no_end word are.0
joined_no_end (word ∷ next ∷ words) are =
    HasNoEnd-append word (32 ∷ join_with_byte 32 (next ∷ words)) (word_no_end word are.0) (λ e. absurd (omega arith), joined_no_end (next ∷ words) are.1)

pub IsWord-append : (xs ys : List ℕ) → IsWord xs → IsWord ys → IsWord (xs ++ ys)
IsWord-append [] ys word also = also
IsWord-append (x ∷ xs) ys word also = (word.0, word.1, IsWord-append xs ys word.2 also)

-- bytes above the space, without a colon
abbrev pub IsPart : List ℕ → Type 0
IsPart [] = Unit {0}
IsPart (byte ∷ bytes) = (32 < byte) × (byte ≢ 58) × IsPart bytes

pub IsPart-append : (xs ys : List ℕ) → IsPart xs → IsPart ys → IsPart (xs ++ ys)
IsPart-append [] ys part also = also
IsPart-append (x ∷ xs) ys part also = (part.0, part.1, IsPart-append xs ys part.2 also)

pub part_word : (bytes : List ℕ) → IsPart bytes → IsWord bytes
part_word [] part = tt
part_word (byte ∷ bytes) part = (λ space. absurd (omega arith), λ end. absurd (omega arith), part_word bytes part.2)

pub decimal_part : (n : ℕ) → n < 2 ^ 64 → IsPart (decimal n)
decimal_part n fits =
    decimal_by_steps (λ n digits. IsPart digits) (λ n low. (omega arith, λ colon. absurd (omega arith), tt))
    (λ n digits high before. IsPart-append digits ((48 + n % 10) ∷ []) before (omega arith, λ colon. absurd (omega arith), tt)) n fits

pub decimal_word : (n : ℕ) → n < 2 ^ 64 → IsWord (decimal n)
decimal_word n fits = part_word (decimal n) (decimal_part n fits)

-- a byte of an escaped text is above the space
escape_word : (byte : ℕ) → IsWord (escaped_byte byte)
escape_word byte =
    cond_both (is_plain byte) (byte ∷ []) (37 ∷ hex_digit (byte / 16) ∷ hex_digit (byte % 16) ∷ []) IsWord
    (λ plain. (plain_apart plain 32 (omega arith), plain_apart plain 10 (omega arith), tt))
    (λ other. (λ e. absurd (omega arith), λ e. absurd (omega arith), (digit_apart (byte / 16) 32 (omega arith), digit_apart (byte / 16) 10 (omega arith), (digit_apart (byte % 16) 32 (omega arith), digit_apart (byte % 16) 10 (omega arith), tt))))
  where
    plain_apart : is_plain byte ≡ true → (low : ℕ) → low < 33 → byte ≡ low → ⊥
    plain_apart plain low below same =
        let parts = and_parts (leb 33 byte && leb byte 126) (not (eqb byte 37)) plain in
        let above = leb-true 33 byte (and_parts (leb 33 byte) (leb byte 126) parts.0).0 in
        omega arith

    digit_apart : (digit low : ℕ) → low < 33 → hex_digit digit ≡ low → ⊥
    digit_apart digit low below = cond_both (ltb digit 10) (48 + digit) (55 + digit) (λ h. h ≡ low → ⊥) (λ _ e. omega arith) (λ _ e. omega arith)

flat_word : (bytes : List ℕ) → IsWord (flat_map escaped_byte bytes)
flat_word [] = tt
flat_word (byte ∷ bytes) = IsWord-append (escaped_byte byte) (flat_map escaped_byte bytes) (escape_word byte) (flat_word bytes)

pub escaped_word : (bytes : List ℕ) → IsWord (escaped bytes)
unfolding escaped
escaped_word [] = (λ e. absurd (omega arith), λ e. absurd (omega arith), tt)
escaped_word (byte ∷ bytes) = flat_word (byte ∷ bytes)

abbrev pub is_letter : ℕ → Bool
is_letter byte = nat_le 97 byte && nat_le byte 122

pub letters_above : (byte : ℕ) (bytes : List ℕ) → list_all is_letter (byte ∷ bytes) ≡ true → (97 ≤ byte) × (list_all is_letter bytes ≡ true)
letters_above byte bytes letters =
    let parts = and_parts (is_letter byte) (list_all is_letter bytes) letters in
    (leb-true 97 byte (and_parts (leb 97 byte) (leb byte 122) parts.0).0, parts.1)

pub letters_part : (bytes : List ℕ) → list_all is_letter bytes ≡ true → IsPart bytes
letters_part [] letters = tt
letters_part (byte ∷ bytes) letters =
    let above = letters_above byte bytes letters in
    let low : 97 ≤ byte = above.0 in
    (omega arith, λ colon. absurd (omega arith), letters_part bytes above.1)

name_word : (text : List ℕ) → list_all is_name_byte text ≡ true → IsWord text
name_word [] names = tt
name_word (byte ∷ bytes) names =
    let parts = and_parts (is_name_byte byte) (list_all is_name_byte bytes) names in
    (λ space. false≢true (subst (λ b. is_name_byte b ≡ true) space parts.0), λ end. false≢true (subst (λ b. is_name_byte b ≡ true) end parts.0), name_word bytes parts.1)

path_part_word : (text : List ℕ) → is_part text ≡ true → IsWord text
unfolding is_part
path_part_word text part = name_word text (and_parts (is_between 1 32 (length text)) (list_all is_name_byte text) part).1

parts_word : (parts : List (List ℕ)) → list_all is_part parts ≡ true → IsWord (join_with_byte slash parts)
parts_word [] parts = tt
parts_word (part ∷ []) parts = path_part_word part (and_parts (is_part part) true parts).0
parts_word (part ∷ next ∷ more) parts =
    let both = and_parts (is_part part) (list_all is_part (next ∷ more)) parts in
    IsWord-append part (slash ∷ join_with_byte slash (next ∷ more)) (path_part_word part both.0) (λ e. absurd (omega arith), λ e. absurd (omega arith), parts_word (next ∷ more) both.1)

pub path_word : (path : List ℕ) → IsTrue (is_path path) → IsWord path
unfolding is_path
path_word path good =
    subst IsWord (join_with_byte-slice_split slash path)
    (parts_word (parts_of path) (and_parts (nat_le (length (parts_of path)) 8) (list_all is_part (parts_of path)) good).1)
