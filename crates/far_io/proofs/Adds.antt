-- Laws of what a sink took.
use Rattle.std.proofs.Common.{◌≡◌, ℕ, List, [], ◌++◌, sym, ◌∙◌, ap, subst, append_assoc, append-nil}
use Rattle.far_io.specs.Adds.{Adds, AddsPrefix}

module _ {O : Type 0} (took : O → O → List ℕ → Type 0) where
  pub adds_nothing : (sink : O) → Adds took sink sink []
  adds_nothing sink = record { each = λ begun old h. subst (took begun sink) (sym (append-nil old)) h }

  pub adds_more : (a b c : O) (xs ys : List ℕ) → Adds took a b xs → Adds took b c ys → Adds took a c (xs ++ ys)
  adds_more a b c xs ys first second = record {
    each = λ begun old h. subst (took begun c) (append_assoc old xs ys) (second.each begun (old ++ xs) (first.each begun old h));
  }

  -- a prefix of what followed
  pub adds_prefix : (a b c : O) (xs ys : List ℕ) → Adds took a b xs → AddsPrefix took b c ys → AddsPrefix took a c (xs ++ ys)
  adds_prefix a b c xs ys first fault = record {
    sent = xs ++ fault.sent;
    unsent = fault.unsent;
    whole = append_assoc xs fault.sent fault.unsent ∙ ap (λ t. xs ++ t) fault.whole;
    adds = adds_more a b c xs fault.sent first fault.adds;
  }

  pub adds_equal : (a b : O) (xs ys : List ℕ) → xs ≡ ys → Adds took a b xs → Adds took a b ys
  adds_equal a b xs ys same adds = subst (Adds took a b) same adds

-- what a sink that keeps its bytes took
pub keeps_more : (begun before now old bytes : List ℕ) → now ≡ before ++ bytes → before ≡ begun ++ old → now ≡ begun ++ (old ++ bytes)
keeps_more begun before now old bytes grows kept = grows ∙ ap (λ t. t ++ bytes) kept ∙ append_assoc begun old bytes
