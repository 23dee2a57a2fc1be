-- A line of a kind, told by its words.
use Rattle.std.proofs.Common.{◌≡◌, ◌≢◌, ℕ, Bool, true, false, not, eqb, List, ◌∷◌, map, refl, sym, ◌∙◌, ap}
use Rattle.std.specs.Cmp.Lexicographic.{pointwise}
use Rattle.std.proofs.lemmas.Bool.{not-false}
use Rattle.std.proofs.lemmas.Bool.Decides.{Decides-eqb}
use Rattle.std.proofs.lemmas.Slice.Eq.{slice_eq-Decides}
use Rattle.std.specs.Fmt.{decimal}
use Rattle.far_io.specs.Words.{words_of}
use Rattle.quantum_text.specs.declared.line_kind.LineKind.{LineKind}
use Rattle.quantum_text.specs.LineKind.{word_of, limit_of, count_of}
use Rattle.quantum_text.specs.Block.{AreDecimals, IsLine, IsNoLine}
use Rattle.quantum_text.proofs.Words.{line_words, line_from_words}

module _ (kind : LineKind) (users : ℕ) (line word : List ℕ) (others : List (List ℕ)) (parted : words_of line ≡ word ∷ others) where
  words_spelled : (numbers : List ℕ) → IsLine kind users line numbers → word ∷ others ≡ word_of kind ∷ map decimal numbers
  words_spelled numbers is_line = sym parted ∙ ap words_of is_line.spelled ∙ line_words kind numbers is_line.within

  pub other_word : word ≢ word_of kind → IsNoLine kind users line
  other_word other = λ numbers is_line. let same = words_spelled numbers is_line in other cc

  pub no_numbers : ((numbers : List ℕ) → AreDecimals (limit_of kind) (count_of kind users) others numbers → ⊥) → IsNoLine kind users line
  no_numbers none = λ numbers is_line.
      let same = words_spelled numbers is_line in
      none numbers (record { spelled = cc; many = is_line.many; within = is_line.within })

  pub its_numbers : (numbers : List ℕ) → word ≡ word_of kind → AreDecimals (limit_of kind) (count_of kind users) others numbers → IsLine kind users line numbers
  its_numbers numbers is_word are = record {
    spelled = line_from_words kind line numbers are.within (parted ∙ ap (λ w. w ∷ others) is_word ∙ ap (λ o. word_of kind ∷ o) are.spelled);
    many = are.many;
    within = are.within;
  }

-- what a comparison of two words tells
pub told_apart : (xs ys : List ℕ) (differ : Bool) → differ ≡ not (pointwise eqb xs ys) → differ ≡ true → xs ≢ ys
told_apart xs ys differ is differs = λ same. let equal = (slice_eq-Decides Decides-eqb xs ys (pointwise eqb xs ys) refl).1 same in absurd cc

pub told_same : (xs ys : List ℕ) (differ : Bool) → differ ≡ not (pointwise eqb xs ys) → differ ≡ false → xs ≡ ys
told_same xs ys differ is same =
    (slice_eq-Decides Decides-eqb xs ys (pointwise eqb xs ys) refl).0 (not-false (pointwise eqb xs ys) (sym is ∙ same))

pub numbers_within : (limit most count many : ℕ) (words : List (List ℕ)) (numbers : List ℕ) → limit ≡ most → count ≡ many → AreDecimals most many words numbers → AreDecimals limit count words numbers
numbers_within limit most count many words numbers same_limit same_count are = rw (same_limit, same_count) are
