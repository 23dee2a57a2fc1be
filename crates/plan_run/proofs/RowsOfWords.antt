-- The words of a line, put into the rows one by one.
use Rattle.std.proofs.Common.{◌≡◌, ℕ, ◌+◌, ◌<◌, ◌≤◌, ◌^◌, true, false, cond, List, [], ◌∷◌, ◌++◌, length, Option, Some, None, decimal, refl, sym, ◌∙◌, ap, subst, append_assoc, arith, ◌==◌, length-append}
use Rattle.std.specs.Option.{option_and_then, option_map}
use Rattle.std.specs.Str.{bytes_eq}
use Rattle.std.proofs.lemmas.Slice.Eq.{bytes_eq-Decides}
use Rattle.std.proofs.lemmas.Bool.{cond-true, cond-false, and_from, and_right, and_parts, le-leb, lt-leb, leb-true, false_from_ne_true}
use Rattle.far_io.specs.Decimals.{value_of, IsNoDecimal}
use Rattle.far_io.specs.Lines.{on_first}
use Rattle.far_io.specs.Words.{words_of, words_after}
use Rattle.karma_rule.specs.declared.row.Row.{Row}
use Rattle.karma_rule.specs.Karma.{change_at}
use Rattle.demand_book.specs.Book.{demanding}
use Rattle.plan_run.specs.PlanText.{demand_of_word, rows_of_words}

pub demand_good : (word : List ℕ) (value : ℕ) → word ≡ decimal value → value ≡ value_of word → value ≤ 2 ^ 42 → demand_of_word word ≡ Some value
demand_good word value spelled is_value within =
    let same : bytes_eq word (decimal (value_of word)) ≡ true = (bytes_eq-Decides word (decimal (value_of word))).1 (spelled ∙ ap decimal is_value) in
    cond-true _ _ _ (and_from _ _ same (le-leb (value_of word) (2 ^ 42) (subst (λ n. n ≤ 2 ^ 42) is_value within))) ∙ ap Some (sym is_value)

pub demand_above : (word : List ℕ) (value : ℕ) → value ≡ value_of word → 2 ^ 42 < value → demand_of_word word ≡ None
demand_above word value is_value above = cond-false _ _ _ (and_right _ _ (lt-leb (value_of word) (2 ^ 42) (subst (λ n. 2 ^ 42 < n) is_value above)))

pub demand_no_decimal : (word : List ℕ) → IsNoDecimal word → demand_of_word word ≡ None
demand_no_decimal word none = cond-false _ _ _ (false_from_ne_true _ (λ both.
    let parts = and_parts _ _ both in
    let within : value_of word ≤ 2 ^ 42 = leb-true (value_of word) (2 ^ 42) parts.1 in
    none (value_of word) (omega arith) ((bytes_eq-Decides word (decimal (value_of word))).0 parts.0)))

pub map_nothing : (rows : Option (List Row)) → rows ≡ option_map (λ others. [] ++ others) rows
map_nothing None = refl
map_nothing (Some rows) = refl

map_twice : (done : List Row) (row : Row) (rows : Option (List Row))
    → option_map (λ others. done ++ others) (option_map (λ others. row ∷ others) rows) ≡ option_map (λ others. (done ++ row ∷ []) ++ others) rows
map_twice done row None = refl
map_twice done row (Some rows) = ap Some (sym (append_assoc done (row ∷ []) rows))

first_of_line : (byte : ℕ) (line : List ℕ) (lines : List (List ℕ)) → (first : List ℕ) × (others : List (List ℕ)) × (on_first byte lines ≡ first ∷ others)
unfolding on_first
first_of_line byte line [] = (byte ∷ [], [], refl)
first_of_line byte line (first ∷ others) = (byte ∷ first, others, refl)

-- a line has at least one word
some_word : (line : List ℕ) → (first : List ℕ) × (others : List (List ℕ)) × (words_of line ≡ first ∷ others)
unfolding words_of
some_word [] = ([], [], refl)
some_word (byte ∷ bytes) =
    elim (byte == 32) as (λ b. (first : List ℕ) × (others : List (List ℕ)) × (cond b ([] ∷ words_of bytes) (on_first byte (words_of bytes)) ≡ first ∷ others)) [
      | true ↦ ([], words_of bytes, refl)
      | false ↦ first_of_line byte bytes (words_of bytes)
    ]

changed_here : (change : Row → Row) (done : List Row) (row : Row) (others : List Row) → change_at change (done ++ row ∷ others) (length done) ≡ (done ++ change row ∷ []) ++ others
changed_here change [] row others = refl
changed_here change (first ∷ done) row others = ap (λ rows. first ∷ rows) (changed_here change done row others)

-- the words of the first users are put into their rows, and the others are to be put into those that are left
pub record PutSoFar (line : List ℕ) (start : List Row) (rest : Option (List ℕ)) (rows : List Row) (count : ℕ) : Type 0 where
  pub done : List Row
  pub left : List Row
  pub counted : length done ≡ count
  pub long : length done + length left ≡ length start
  pub split : rows ≡ done ++ left
  pub whole : rows_of_words (words_of line) start ≡ option_map (λ others. done ++ others) (rows_of_words (words_after rest) left)

abbrev pub put_none : (line : List ℕ) (start : List Row) → PutSoFar line start (Some line) start 0
put_none line start = record { done = []; left = start; counted = refl; long = omega arith; split = refl; whole = map_nothing (rows_of_words (words_of line) start) }

module _ (line : List ℕ) (start rows : List Row) (count : ℕ) where
  -- no word is left for this user
  pub too_few : PutSoFar line start None rows count → count < length start → rows_of_words (words_of line) start ≡ None
  unfolding rows_of_words
  too_few put more = elim put.left as (λ left. length put.done + length left ≡ length start → rows_of_words (words_of line) start ≡ option_map (λ others. put.done ++ others) (rows_of_words [] left) → rows_of_words (words_of line) start ≡ None) [
    | [] ↦ λ long whole. absurd (omega (arith, put.counted))
    | row ∷ others ↦ λ long whole. whole
  ] put.long put.whole

  -- a word is left after the last user
  pub too_many : (text : List ℕ) → PutSoFar line start (Some text) rows count → length start ≤ count → rows_of_words (words_of line) start ≡ None
  unfolding rows_of_words
  too_many text put all =
      let word = some_word text in
      elim put.left as (λ left. length put.done + length left ≡ length start → rows_of_words (words_of line) start ≡ option_map (λ others. put.done ++ others) (rows_of_words (words_of text) left) → rows_of_words (words_of line) start ≡ None) [
        | [] ↦ λ long whole. whole ∙ ap (λ words. option_map (λ others. put.done ++ others) (rows_of_words words [])) word.2
        | row ∷ others ↦ λ long whole. absurd (omega (arith, put.counted))
      ] put.long put.whole

  pub all_put : PutSoFar line start None rows count → length start ≤ count → rows_of_words (words_of line) start ≡ Some rows
  unfolding rows_of_words
  all_put put all = elim put.left as (λ left. length put.done + length left ≡ length start → rows ≡ put.done ++ left → rows_of_words (words_of line) start ≡ option_map (λ others. put.done ++ others) (rows_of_words [] left) → rows_of_words (words_of line) start ≡ Some rows) [
    | [] ↦ λ long split whole. whole ∙ ap Some (sym split)
    | row ∷ others ↦ λ long split whole. absurd (omega (arith, put.counted))
  ] put.long put.split put.whole

  pub bad_word : (text word : List ℕ) (others : List (List ℕ)) → PutSoFar line start (Some text) rows count → words_of text ≡ word ∷ others → demand_of_word word ≡ None
      → rows_of_words (words_of line) start ≡ None
  unfolding rows_of_words
  bad_word text word others put first bad = elim put.left as (λ left. rows_of_words (words_of line) start ≡ option_map (λ rs. put.done ++ rs) (rows_of_words (words_of text) left) → rows_of_words (words_of line) start ≡ None) [
    | [] ↦ λ whole. whole ∙ ap (λ words. option_map (λ rs. put.done ++ rs) (rows_of_words words [])) first
    | row ∷ left ↦ λ whole. whole ∙ ap (λ words. option_map (λ rs. put.done ++ rs) (rows_of_words words (row ∷ left))) first
        ∙ ap (λ demand. option_map (λ rs. put.done ++ rs) (option_and_then (λ d. option_map (λ rs. demanding d row ∷ rs) (rows_of_words others left)) demand)) bad
  ] put.whole

  pub put_more : (text word : List ℕ) (rest : Option (List ℕ)) (demand : ℕ) → PutSoFar line start (Some text) rows count → count < length start → words_of text ≡ word ∷ words_after rest
      → demand_of_word word ≡ Some demand → PutSoFar line start rest (change_at (demanding demand) rows count) (count + 1)
  unfolding rows_of_words
  put_more text word rest demand put more first good = elim put.left as (λ left. length put.done + length left ≡ length start → rows ≡ put.done ++ left
      → rows_of_words (words_of line) start ≡ option_map (λ rs. put.done ++ rs) (rows_of_words (words_of text) left) → PutSoFar line start rest (change_at (demanding demand) rows count) (count + 1)) [
        | [] ↦ λ long split whole. absurd (omega (arith, put.counted))
        | row ∷ left ↦ λ long split whole. record {
          done = put.done ++ demanding demand row ∷ [];
          left = left;
          counted = simp length-append (omega (arith, put.counted));
          long = simp length-append (omega (arith, put.counted));
          split = ap (λ rs. change_at (demanding demand) rs count) split ∙ ap (λ n. change_at (demanding demand) (put.done ++ row ∷ left) n) (sym put.counted) ∙ changed_here (demanding demand) put.done row left;
          whole = whole ∙ ap (λ words. option_map (λ rs. put.done ++ rs) (rows_of_words words (row ∷ left))) first
              ∙ ap (λ d. option_map (λ rs. put.done ++ rs) (option_and_then (λ e. option_map (λ rs. demanding e row ∷ rs) (rows_of_words (words_after rest) left)) d)) good
              ∙ map_twice put.done (demanding demand row) (rows_of_words (words_after rest) left);
        }
      ] put.long put.split put.whole
