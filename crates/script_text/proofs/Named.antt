-- Each outcome and each row of moves has words of its own.
use Rattle.std.proofs.Common.{◌≡◌, ℕ, ◌^◌, ◌<◌, ◌≤◌, ◌||◌, Bool, true, false, cond, List, [], ◌∷◌, ◌++◌, refl, sym, ◌∙◌, ap, subst, append_assoc, append-nil, arith}
use Rattle.std.specs.Prelude.{codes}
use Rattle.std.specs.Fmt.{decimal}
use Rattle.std.specs.List.{list_all}
use Rattle.std.proofs.lemmas.Bool.{false≢true, ne_eqb}
use Rattle.std.proofs.lemmas.Fmt.{decimal_injective}
use Rattle.far_io.specs.Escapes.{escaped}
use Rattle.far_io.specs.Words.{words_of}
use Rattle.far_io.proofs.WordLaws.{words_of-joined}
use Rattle.far_asks.specs.declared.request.Reply.TheVariants.{Done, Number, Bytes, Item, Nothing, TooLong, Absent, WrongKind, Exists, Full, Exhausted, StoreFault, Damaged, AbsentUser, NoMemory}
use Rattle.far_asks.specs.declared.request.Outcome.{Outcome}
use Rattle.far_asks.specs.declared.request.Outcome.TheVariants.{Reply as Replied, Slice, Granted, HandEmpty, PoolEmpty}
use Rattle.far_words.specs.declared.moves.PlacedRow.{PlacedRow}
use Rattle.script_text.specs.Words.{joined}
use Rattle.script_text.specs.Damages.{stamp_text, found_text}
use Rattle.script_text.specs.Outcomes.{outcome_words, OutcomeFits, HasNoMark}
use Rattle.script_text.specs.Moves.{freed_words, placed_words, FreedFits, PlacedFits}
use Rattle.script_text.proofs.OneLine.{IsWord, AreWords, is_letter, letters_above, letters_part, part_word, words_no_space, decimal_word, escaped_word, path_word}
use Rattle.script_text.proofs.ReadBack.{same, wide, word_at, number_at, number_back, bytes_at, bytes_back}
use Rattle.script_text.proofs.Stamped.{stamp_word, stamp_at, stamp_back, found_word, found_at, found_back}

-- the outcome of a word and the words after it
abbrev outcome_from : List ℕ → List (List ℕ) → Outcome
outcome_from word others =
    cond (same word (codes "done")) (Replied Done)
    (cond (same word (codes "number")) (Replied (Number (number_at others 0)))
    (cond (same word (codes "bytes")) (Replied (Bytes (bytes_at others 0)))
    (cond (same word (codes "item")) (Replied (Item (bytes_at others 0)))
    (cond (same word (codes "nothing")) (Replied Nothing)
    (cond (same word (codes "toolong")) (Replied (TooLong (number_at others 0)))
    (cond (same word (codes "absent")) (Replied Absent)
    (cond (same word (codes "wrongkind")) (Replied WrongKind)
    (cond (same word (codes "exists")) (Replied Exists)
    (cond (same word (codes "full")) (Replied (Full (number_at others 0)))
    (cond (same word (codes "exhausted")) (Replied (Exhausted (number_at others 0) (number_at others 1) (number_at others 2)))
    (cond (same word (codes "storefault")) (Replied StoreFault)
    (cond (same word (codes "damaged")) (Replied (Damaged (stamp_at (word_at others 0)) (found_at (word_at others 1))))
    (cond (same word (codes "absentuser")) (Replied (AbsentUser (number_at others 0)))
    (cond (same word (codes "nomemory")) (Replied NoMemory)
    (cond (same word (codes "slice")) (Slice (number_at others 0) (number_at others 1))
    (cond (same word (codes "granted")) (Granted (number_at others 0) (number_at others 1))
    (cond (same word (codes "handempty")) HandEmpty PoolEmpty)))))))))))))))))

abbrev is_name : List ℕ → Bool
is_name [] = false
is_name (byte ∷ bytes) = list_all is_letter (byte ∷ bytes)

-- an outcome's word and the words after it, from which the outcome can be told
record Named (outcome : Outcome) : Type 0 where
  word : List ℕ
  others : List (List ℕ)
  words_are : outcome_words outcome ≡ word ∷ others
  name : is_name word ≡ true
  are : OutcomeFits outcome → AreWords others
  back : OutcomeFits outcome → outcome_from word others ≡ outcome

-- an outcome of one word
alone : (outcome : Outcome) (word : List ℕ) → outcome_words outcome ≡ word ∷ [] → is_name word ≡ true → outcome_from word [] ≡ outcome → Named outcome
alone outcome word words_are name back = record { word = word; others = []; words_are = words_are; name = name; are = λ f. tt; back = λ f. back }

-- of a word and a number, of a word and two, and of a word and bytes
with_number : (of : ℕ → Outcome) (word : List ℕ) (n : ℕ) → (OutcomeFits (of n) → n < 2 ^ 64) → outcome_words (of n) ≡ word ∷ decimal n ∷ [] → is_name word ≡ true
    → ((others : List (List ℕ)) → outcome_from word others ≡ of (number_at others 0)) → Named (of n)
with_number of word n low words_are name tells =
    record { word = word; others = decimal n ∷ []; words_are = words_are; name = name; are = λ f. (decimal_word n (low f), tt); back = λ f. tells (decimal n ∷ []) ∙ ap of (number_back n (low f)) }

with_numbers : (of : ℕ → ℕ → Outcome) (word : List ℕ) (m n : ℕ) → (OutcomeFits (of m n) → (m < 2 ^ 32) × (n < 2 ^ 64)) → outcome_words (of m n) ≡ word ∷ decimal m ∷ decimal n ∷ [] → is_name word ≡ true
    → ((others : List (List ℕ)) → outcome_from word others ≡ of (number_at others 0) (number_at others 1)) → Named (of m n)
with_numbers of word m n low words_are name tells = record {
  word = word;
  others = decimal m ∷ decimal n ∷ [];
  words_are = words_are;
  name = name;
  are = λ f. (decimal_word m (wide m (low f).0), (decimal_word n (low f).1, tt));
  back = λ f. tells (decimal m ∷ decimal n ∷ []) ∙ (λ i. of (number_back m (wide m (low f).0) i) (number_back n (low f).1 i));
}

with_bytes : (of : List ℕ → Outcome) (word bytes : List ℕ) → outcome_words (of bytes) ≡ word ∷ escaped bytes ∷ [] → is_name word ≡ true
    → ((others : List (List ℕ)) → outcome_from word others ≡ of (bytes_at others 0)) → Named (of bytes)
with_bytes of word bytes words_are name tells =
    record { word = word; others = escaped bytes ∷ []; words_are = words_are; name = name; are = λ f. (escaped_word bytes, tt); back = λ f. tells (escaped bytes ∷ []) ∙ ap of (bytes_back bytes) }

named : (outcome : Outcome) → Named outcome
named (Replied Done) = alone (Replied Done) (codes "done") refl refl refl
named (Replied (Number n)) = with_number (λ m. Replied (Number m)) (codes "number") n (λ f. f) refl refl (λ others. refl)
named (Replied (Bytes bytes)) = with_bytes (λ b. Replied (Bytes b)) (codes "bytes") bytes refl refl (λ others. refl)
named (Replied (Item item)) = with_bytes (λ b. Replied (Item b)) (codes "item") item refl refl (λ others. refl)
named (Replied Nothing) = alone (Replied Nothing) (codes "nothing") refl refl refl
named (Replied (TooLong limit)) = with_number (λ m. Replied (TooLong m)) (codes "toolong") limit (λ f. f) refl refl (λ others. refl)
named (Replied Absent) = alone (Replied Absent) (codes "absent") refl refl refl
named (Replied WrongKind) = alone (Replied WrongKind) (codes "wrongkind") refl refl refl
named (Replied Exists) = alone (Replied Exists) (codes "exists") refl refl refl
named (Replied (Full limit)) = with_number (λ m. Replied (Full m)) (codes "full") limit (λ f. f) refl refl (λ others. refl)
named (Replied (Exhausted need used granted)) = record {
  word = codes "exhausted";
  others = decimal need ∷ decimal used ∷ decimal granted ∷ [];
  words_are = refl;
  name = refl;
  are = λ f. (decimal_word need f.0, (decimal_word used f.1, (decimal_word granted f.2, tt)));
  back = λ f. λ i. Replied (Exhausted (number_back need f.0 i) (number_back used f.1 i) (number_back granted f.2 i));
}
named (Replied StoreFault) = alone (Replied StoreFault) (codes "storefault") refl refl refl
named (Replied (Damaged kept found)) = record {
  word = codes "damaged";
  others = stamp_text kept ∷ found_text found ∷ [];
  words_are = refl;
  name = refl;
  are = λ f. (stamp_word kept f.0, (found_word found f.1, tt));
  back = λ f. λ i. Replied (Damaged (stamp_back kept f.0 i) (found_back found f.1 i));
}
named (Replied (AbsentUser users)) = with_number (λ m. Replied (AbsentUser m)) (codes "absentuser") users (wide users) refl refl (λ others. refl)
named (Replied NoMemory) = alone (Replied NoMemory) (codes "nomemory") refl refl refl
named (Slice slice number) = with_numbers Slice (codes "slice") slice number (λ f. f) refl refl (λ others. refl)
named (Granted slice number) = with_numbers Granted (codes "granted") slice number (λ f. f) refl refl (λ others. refl)
named HandEmpty = alone HandEmpty (codes "handempty") refl refl refl
named PoolEmpty = alone PoolEmpty (codes "poolempty") refl refl refl

name_word : (word : List ℕ) → is_name word ≡ true → IsWord word
name_word [] name = absurd (false≢true name)
name_word (byte ∷ bytes) name = part_word (byte ∷ bytes) (letters_part (byte ∷ bytes) name)

-- a line that begins with a name begins as no line of moves does
name_first : (word rest : List ℕ) → is_name word ≡ true → HasNoMark (word ++ rest)
name_first [] rest name = absurd (false≢true name)
name_first (byte ∷ bytes) rest name =
    let above = letters_above byte bytes name in
    let low : 97 ≤ byte = above.0 in
    λ i. ne_eqb byte 45 (λ e. absurd (omega arith)) i || ne_eqb byte 43 (λ e. absurd (omega arith)) i

joined_more : (word : List ℕ) (words : List (List ℕ)) → (rest : List ℕ) × (joined (word ∷ words) ≡ word ++ rest)
unfolding joined
joined_more word [] = ([], sym (append-nil word))
joined_more word (next ∷ words) = (32 ∷ joined (next ∷ words), refl)

pub outcome_are_words : (outcome : Outcome) → OutcomeFits outcome → AreWords (outcome_words outcome)
outcome_are_words outcome fits =
    let n = named outcome in
    subst AreWords (sym n.words_are) (name_word n.word n.name, n.are fits)

pub outcome_first : (outcome : Outcome) (rest : List ℕ) → HasNoMark (joined (outcome_words outcome) ++ rest)
outcome_first outcome rest =
    let n = named outcome in
    let more = joined_more n.word n.others in
    subst HasNoMark (sym (ap (λ t. t ++ rest) (ap joined n.words_are ∙ more.1) ∙ append_assoc n.word more.0 rest)) (name_first n.word (more.0 ++ rest) n.name)

words_injective : (word next : List ℕ) (words others : List (List ℕ)) → AreWords (word ∷ words) → AreWords (next ∷ others) → joined (word ∷ words) ≡ joined (next ∷ others) → word ∷ words ≡ next ∷ others
unfolding joined
words_injective word next words others are also same =
    sym (words_of-joined word words (words_no_space (word ∷ words) are)) ∙ ap words_of same ∙ words_of-joined next others (words_no_space (next ∷ others) also)

-- outcomes of one line are one
pub outcome_joined : (a b : Outcome) → OutcomeFits a → OutcomeFits b → joined (outcome_words a) ≡ joined (outcome_words b) → a ≡ b
outcome_joined a b fits also lines =
    let m = named a in
    let n = named b in
    let words : m.word ∷ m.others ≡ n.word ∷ n.others =
    words_injective m.word n.word m.others n.others (subst AreWords m.words_are (outcome_are_words a fits)) (subst AreWords n.words_are (outcome_are_words b also))
    (sym (ap joined m.words_are) ∙ lines ∙ ap joined n.words_are) in
    let word : m.word ≡ n.word = cc in
    let others : m.others ≡ n.others = cc in
    sym (m.back fits) ∙ (λ i. outcome_from (word i) (others i)) ∙ n.back also

dash : IsWord (codes "-")
dash = (λ e. absurd (omega arith), λ e. absurd (omega arith), tt)

plus : IsWord (codes "+")
plus = (λ e. absurd (omega arith), λ e. absurd (omega arith), tt)

pub freed_are_words : (row : ℕ × ℕ) → FreedFits row → AreWords (freed_words row)
freed_are_words row fits = (dash, (decimal_word row.0 (wide row.0 fits.slice), (decimal_word row.1 fits.number, tt)))

pub placed_are_words : (row : PlacedRow) → PlacedFits row → AreWords (placed_words row)
placed_are_words row fits = (plus, (decimal_word row.slice (wide row.slice fits.slice), (decimal_word row.number fits.number, (path_word row.path fits.path, (decimal_word row.index fits.index, tt)))))

-- rows of one line are one
pub freed_joined : (a b : ℕ × ℕ) → FreedFits a → FreedFits b → joined (freed_words a) ≡ joined (freed_words b) → a ≡ b
freed_joined a b fits also lines =
    let words : freed_words a ≡ freed_words b = words_injective (codes "-") (codes "-") _ _ (freed_are_words a fits) (freed_are_words b also) lines in
    let slice : a.0 ≡ b.0 = decimal_injective a.0 b.0 (wide a.0 fits.slice) (wide b.0 also.slice) cc in
    let number : a.1 ≡ b.1 = decimal_injective a.1 b.1 fits.number also.number cc in
    λ i. (slice i, number i)

pub placed_joined : (a b : PlacedRow) → PlacedFits a → PlacedFits b → joined (placed_words a) ≡ joined (placed_words b) → a ≡ b
placed_joined a b fits also lines =
    let words : placed_words a ≡ placed_words b = words_injective (codes "+") (codes "+") _ _ (placed_are_words a fits) (placed_are_words b also) lines in
    let slice : a.slice ≡ b.slice = decimal_injective a.slice b.slice (wide a.slice fits.slice) (wide b.slice also.slice) cc in
    let number : a.number ≡ b.number = decimal_injective a.number b.number fits.number also.number cc in
    let path : a.path ≡ b.path = cc in
    let index : a.index ≡ b.index = decimal_injective a.index b.index fits.index also.index cc in
    λ i. record { slice = slice i; number = number i; path = path i; index = index i }
