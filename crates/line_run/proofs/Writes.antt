-- Two writes, one after the other.
use Rattle.std.proofs.Common.{◌≡◌, ℕ, List, ◌++◌, Result, Ok, Err, OnOk, OnErr, sym, ◌∙◌, ap, subst, append_assoc}
use Rattle.far_io.specs.Adds.{Adds, AddsPrefix}
use Rattle.far_io.specs.Sends.{Sends}
use Rattle.far_io.proofs.Adds.{adds_more, adds_equal}

module _ {O : Type 0} (took : O → O → List ℕ → Type 0) (a b c : O) (first second : List ℕ) where
  pub prefix_more : Adds took a b first → AddsPrefix took b c second → AddsPrefix took a c (first ++ second)
  prefix_more one two = record {
    sent = first ++ two.sent;
    unsent = two.unsent;
    whole = append_assoc first two.sent two.unsent ∙ ap (λ t. first ++ t) two.whole;
    adds = adds_more took a b c first two.sent one two.adds;
  }

  pub then_all : {T E : Type 0} (result : Result T E) → Adds took a b first → OnOk result (Adds took b c second) → OnOk result (Adds took a c (first ++ second))
  then_all (Ok _) one two = adds_more took a b c first second one two
  then_all (Err _) one two = tt

  pub then_prefix : {T E : Type 0} (result : Result T E) → Adds took a b first → OnErr result (AddsPrefix took b c second) → OnErr result (AddsPrefix took a c (first ++ second))
  then_prefix (Ok _) one two = tt
  then_prefix (Err _) one two = prefix_more one two

-- what a piece holds, and then these bytes, went to the sink once the piece was flushed
module _ {O : Type 0} (took : O → O → List ℕ → Type 0) (a b c : O) (held next bytes : List ℕ) where
  pub sent_all : {T E : Type 0} (result : Result T E) → Sends took a b held next bytes → OnOk result (Adds took b c next) → OnOk result (Adds took a c (held ++ bytes))
  sent_all (Ok _) sends flushed = adds_equal took a c (sends.sent ++ next) (held ++ bytes) sends.whole (adds_more took a b c sends.sent next sends.adds flushed)
  sent_all (Err _) sends flushed = tt

  pub sent_prefix : {T E : Type 0} (result : Result T E) → Sends took a b held next bytes → OnErr result (AddsPrefix took b c next) → OnErr result (AddsPrefix took a c (held ++ bytes))
  sent_prefix (Ok _) sends flushed = tt
  sent_prefix (Err _) sends flushed = record {
    sent = sends.sent ++ flushed.sent;
    unsent = flushed.unsent;
    whole = append_assoc sends.sent flushed.sent flushed.unsent ∙ ap (λ t. sends.sent ++ t) flushed.whole ∙ sends.whole;
    adds = adds_more took a b c sends.sent flushed.sent sends.adds flushed.adds;
  }

-- a prefix of equal bytes
pub prefix_equal : {O : Type 0} (took : O → O → List ℕ → Type 0) (a b : O) (xs ys : List ℕ) → xs ≡ ys → AddsPrefix took a b xs → AddsPrefix took a b ys
prefix_equal took a b xs ys same fault = record { sent = fault.sent; unsent = fault.unsent; whole = fault.whole ∙ same; adds = fault.adds }

-- what changes nothing while it is empty, and was empty at first, is as it was at first
pub unmoved : {O : Type 0} (is_empty : O → Type 0) (first before now : O) → before ≡ first → is_empty first → (is_empty before → now ≡ before) → now ≡ first
unmoved is_empty first before now same empty still = still (subst is_empty (sym same) empty) ∙ same
