-- The words of a line: a line and the list of its words determine each other.
use Rattle.std.proofs.Common.{lit<, ◌≡◌, ℕ, ◌^◌, ◌<◌, ◌≤◌, Bool, true, false, not, Bor, Option, Some, None, List, [], ◌∷◌, ◌++◌, map, refl, sym, ◌∙◌, ap, append-nil, arith}
use Rattle.std.specs.Prelude.{All}
use Rattle.std.specs.Bool.{OnFalse}
use Rattle.std.specs.Option.{option_copied, is_some}
use Rattle.std.specs.Fmt.{decimal}
use Rattle.std.proofs.lemmas.List.Elements.{All-head, All-tail, All-weaker}
use Rattle.far_io.specs.Words.{words_of, words_after, HasNoSpace}
use Rattle.far_io.specs.Sends.{spaced}
use Rattle.far_io.proofs.WordLaws.{words_of-space, words_of-word, words_of_injective, words_of_some, decimal_one_word, no_space_by_test}
use Rattle.quantum_text.specs.declared.line_kind.LineKind.{LineKind}
use Rattle.quantum_text.specs.declared.line_kind.LineKind.TheVariants.{Quantum, Demand, Slices, Credits}
use Rattle.quantum_text.specs.LineKind.{word_of, limit_of}
use Rattle.quantum_text.specs.Block.{line_text}

kind_one_word : (kind : LineKind) → HasNoSpace (word_of kind)
kind_one_word Quantum = no_space_by_test (word_of Quantum) refl
kind_one_word Demand = no_space_by_test (word_of Demand) refl
kind_one_word Slices = no_space_by_test (word_of Slices) refl
kind_one_word Credits = no_space_by_test (word_of Credits) refl

-- a word, and then a space and the decimal of each number
words_of_spaced : (word numbers : List ℕ) → HasNoSpace word → All (λ n. n < 2 ^ 64) numbers → words_of (word ++ spaced numbers) ≡ word ∷ map decimal numbers
unfolding spaced
words_of_spaced word [] one fit = ap words_of (append-nil word) ∙ words_of-word word one
words_of_spaced word (n ∷ ns) one fit =
    words_of-space word (decimal n ++ spaced ns) one
    ∙ ap (λ words. word ∷ words) (words_of_spaced (decimal n) ns (decimal_one_word n (All-head (λ n. n < 2 ^ 64) n ns fit)) (All-tail (λ n. n < 2 ^ 64) n ns fit))

pub limit_fits : (kind : LineKind) → limit_of kind < 2 ^ 64
limit_fits Quantum = lit< tt
limit_fits Demand = lit< tt
limit_fits Slices = lit< tt
limit_fits Credits = lit< tt

pub numbers_fit : (kind : LineKind) (numbers : List ℕ) → All (λ n. n ≤ limit_of kind) numbers → All (λ n. n < 2 ^ 64) numbers
numbers_fit kind numbers within = All-weaker (λ n. n ≤ limit_of kind) (λ n. n < 2 ^ 64) (λ n low. omega (arith, limit_fits kind)) numbers within

pub line_words : (kind : LineKind) (numbers : List ℕ) → All (λ n. n ≤ limit_of kind) numbers → words_of (line_text kind numbers) ≡ word_of kind ∷ map decimal numbers
unfolding line_text
line_words kind numbers within = words_of_spaced (word_of kind) numbers (kind_one_word kind) (numbers_fit kind numbers within)

pub line_from_words : (kind : LineKind) (line numbers : List ℕ) → All (λ n. n ≤ limit_of kind) numbers → words_of line ≡ word_of kind ∷ map decimal numbers
    → line ≡ line_text kind numbers
line_from_words kind line numbers within same = words_of_injective line (line_text kind numbers) (same ∙ sym (line_words kind numbers within))

-- where something is left, so is a word
pub some_after : (rest : Option (Bor (List ℕ))) (result : Bool) (P : List ℕ → Type 0) → is_some rest ≡ not result
    → ((numbers : List ℕ) → P numbers → words_after (option_copied rest) ≡ []) → OnFalse result ((numbers : List ℕ) → P numbers → ⊥)
some_after rest true P same none = tt
some_after None false P same none = absurd cc
some_after (Some bytes) false P same none = λ numbers fact. words_of_some bytes.now (none numbers fact)
