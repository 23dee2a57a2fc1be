-- First words of lines of which the first bytes are kept.
use Rattle.std.proofs.Common.{◌≡◌, ◌≢◌, ℕ, zero, suc, ◌<◌, eqb, nat_le, true, ◌&&◌, ◌||◌, List, [], ◌∷◌, length, take, inl, inr, refl, sym, ◌∙◌, ap, arith}
use Rattle.std.specs.List.{list_any, list_all}
use Rattle.std.specs.Str.{bytes_eq}
use Rattle.std.proofs.lemmas.Bool.{cond-true, cond-false, ne_eqb, eq-eqb, and_parts, leb-true}
use Rattle.std.proofs.lemmas.Bool.Decides.{eqb_tells}
use Rattle.far_io.specs.Words.{words_of}
use Rattle.far_io.specs.Lines.{on_first}
use Rattle.far_drill.specs.Output.{first_of, first_word, refusal_words, is_refusal, is_quantum}
use Rattle.far_drill.specs.Sink.{kept_of}

word_none : first_word [] ≡ []
unfolding words_of
word_none = refl

word_end : (byte : ℕ) (bytes : List ℕ) → byte ≡ 32 → first_word (byte ∷ bytes) ≡ []
unfolding words_of
word_end byte bytes ends = ap first_of (cond-true (eqb byte 32) ([] ∷ words_of bytes) (on_first byte (words_of bytes)) (eq-eqb byte 32 ends))

first_on : (byte : ℕ) (words : List (List ℕ)) → first_of (on_first byte words) ≡ byte ∷ first_of words
unfolding on_first
first_on byte [] = refl
first_on byte (word ∷ words) = refl

word_more : (byte : ℕ) (bytes : List ℕ) → byte ≢ 32 → first_word (byte ∷ bytes) ≡ byte ∷ first_word bytes
unfolding words_of
word_more byte bytes other =
    ap first_of (cond-false (eqb byte 32) ([] ∷ words_of bytes) (on_first byte (words_of bytes)) (ne_eqb byte 32 other)) ∙ first_on byte (words_of bytes)

-- a word that is shorter than what is kept can be told
short_word : (kept : ℕ) (line word : List ℕ) → length word < kept → bytes_eq (first_word (take kept line)) word ≡ bytes_eq (first_word line) word
short_word zero line word short = absurd (omega (arith, short))
short_word (suc kept) [] word short = refl
short_word (suc kept) (byte ∷ bytes) [] short = elim (eqb_tells byte 32) [
  | inl is ↦ ap (λ w. bytes_eq w []) (word_end byte (take kept bytes) is.1 ∙ sym (word_end byte bytes is.1))
  | inr other ↦ ap (λ w. bytes_eq w []) (word_more byte (take kept bytes) other.1) ∙ ap (λ w. bytes_eq w []) (sym (word_more byte bytes other.1))
]
short_word (suc kept) (byte ∷ bytes) (first ∷ word) short = elim (eqb_tells byte 32) [
  | inl is ↦ ap (λ w. bytes_eq w (first ∷ word)) (word_end byte (take kept bytes) is.1 ∙ sym (word_end byte bytes is.1))
  | inr other ↦
      ap (λ w. bytes_eq w (first ∷ word)) (word_more byte (take kept bytes) other.1)
      ∙ ap (λ same. eqb byte first && same) (short_word kept bytes word (omega (arith, short)))
      ∙ ap (λ w. bytes_eq w (first ∷ word)) (sym (word_more byte bytes other.1))
]

short_words : (kept : ℕ) (line : List ℕ) (words : List (List ℕ)) → list_all (λ word. nat_le (suc (length word)) kept) words ≡ true
    → list_any (bytes_eq (first_word (take kept line))) words ≡ list_any (bytes_eq (first_word line)) words
short_words kept line [] short = refl
short_words kept line (word ∷ words) short =
    let parts = and_parts (nat_le (suc (length word)) kept) (list_all (λ w. nat_le (suc (length w)) kept) words) short in
    let here : length word < kept = omega (arith, leb-true (suc (length word)) kept parts.0) in
    ap (λ same. same || list_any (bytes_eq (first_word (take kept line))) words) (short_word kept line word here)
    ∙ ap (λ others. bytes_eq (first_word line) word || others) (short_words kept line words parts.1)

pub refusal_kept : (line : List ℕ) → is_refusal (kept_of line) ≡ is_refusal line
refusal_kept line = short_words 16 line refusal_words refl

pub quantum_kept : (line : List ℕ) → is_quantum (kept_of line) ≡ is_quantum line
quantum_kept line = short_word 16 line _ (omega arith)
