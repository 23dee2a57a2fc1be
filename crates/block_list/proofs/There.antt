-- Lists whose blocks are there: once the home changed, with one block more, and in another order.
use Rattle.std.proofs.Common.{◌≡◌, ◌≢◌, ℕ, ◌==◌, ◌<◌, is_some, List, [], ◌∷◌, ◌++◌, length, get_or, None, sym, ap, ◌∙◌, subst, inl, inr, arith}
use Rattle.std.specs.Prelude.{All}
use Rattle.std.specs.Ordering.{nat_cmp}
use Rattle.std.specs.FinMap.{find, put}
use Rattle.std.specs.List.Sorted.{IsPermutation}
use Rattle.std.proofs.lemmas.Bool.{cases_eq, cases_lt}
use Rattle.std.proofs.lemmas.Bool.Decides.{Decides-eqb}
use Rattle.std.proofs.lemmas.List.{get_or_default, get_or_append_left, get_or_push, length_push}
use Rattle.std.proofs.lemmas.List.Quantifiers.{all_pairs_push}
use Rattle.std.proofs.lemmas.List.Sorted.{All-permutation}
use Rattle.std.proofs.lemmas.Map.Keys.{IsDistinct-IsPermutation}
use Rattle.std.proofs.lemmas.Map.Made.{AllPairs-from_IsDistinct, IsDistinct-from_AllPairs}
use Rattle.block_seats.specs.Blocks.{BlockView}
use Rattle.block_seats.specs.Seatings.{SeatingView, HasBlock}
use Rattle.block_home.proofs.Held.{put_here, put_other}
use Rattle.block_list.specs.Lists.{AreThere, KeepsOthers}
use Rattle.block_list.proofs.Listed.{eq_true, eq_false}

-- no block
pub there-none : (seats : SeatingView) → AreThere seats []
there-none seats = record { distinct = λ i j d before inside. absurd (omega arith); each = λ i inside. absurd (omega arith) }

-- the same numbers name blocks
pub there_kept : (old new : SeatingView) (blocks : List ℕ) → ((q : ℕ) → is_some (find nat_cmp q new.blocks) ≡ is_some (find nat_cmp q old.blocks)) → AreThere old blocks → AreThere new blocks
there_kept old new blocks same there = record { distinct = there.distinct; each = λ i inside. same (get_or blocks i 0) ∙ there.each i inside }

-- one block more was made
pub there-push : (old new : SeatingView) (blocks : List ℕ) (block : ℕ) (view : BlockView) → new.blocks ≡ put nat_cmp block view old.blocks → find nat_cmp block old.blocks ≡ None → AreThere old blocks → AreThere new (blocks ++ block ∷ [])
there-push old new blocks block view is fresh there = record {
  distinct = all_pairs_push ◌≢◌ blocks block there.distinct (λ k d inside same. gone k d inside same);
  each = λ i inside.
      elim (cases_lt i (length blocks)) [
        | inl before ↦
            ap (λ b. is_some (find nat_cmp b new.blocks)) (get_or_append_left blocks (block ∷ []) 0 i before)
            ∙ ap is_some (ap (find nat_cmp (get_or blocks i 0)) is ∙ put_other old.blocks block view (get_or blocks i 0) (λ same. gone i 0 before same))
            ∙ there.each i before
        | inr not_before ↦
            let last : length blocks ≡ i = let many = length_push blocks block in omega arith in
            ap (λ b. is_some (find nat_cmp b new.blocks)) (get_or_push blocks block 0 i last)
            ∙ ap is_some (ap (find nat_cmp block) is ∙ put_here old.blocks block view)
      ];
}
  where
    gone : (k d : ℕ) → k < length blocks → get_or blocks k d ≡ block → ⊥
    gone k d inside same =
        let here = there.each k inside in
        let none : find nat_cmp (get_or blocks k 0) old.blocks ≡ None = ap (λ b. find nat_cmp b old.blocks) (get_or_default blocks k 0 d inside ∙ same) ∙ fresh in
        cc

-- in another order
flips : (a b : ℕ) → (a == b) ≡ (b == a)
flips a b =
    elim (cases_eq a b) [
      | inl same ↦ eq_true a b same ∙ sym (eq_true b a (sym same))
      | inr apart ↦ eq_false a b apart ∙ sym (eq_false b a (λ same. apart (sym same)))
    ]

pub there_moved : (seats : SeatingView) (xs ys : List ℕ) → IsPermutation xs ys → AreThere seats xs → AreThere seats ys
there_moved seats xs ys moved there = record {
  distinct = AllPairs-from_IsDistinct Decides-eqb ys (IsDistinct-IsPermutation (λ a b. a == b) flips xs ys moved (IsDistinct-from_AllPairs Decides-eqb xs there.distinct));
  each = λ i inside.
      All-permutation (λ b. HasBlock seats b) xs ys moved
      (λ k d early. subst (λ b. HasBlock seats b) (get_or_default xs k 0 d early) (there.each k early)) i 0 inside;
}

pub others_moved : {X : Type 0} (old new : List (ℕ × X)) (xs ys : List ℕ) → IsPermutation xs ys → KeepsOthers old new ys → KeepsOthers old new xs
others_moved old new xs ys moved kept = record { others = λ q apart. kept.others q (All-permutation (λ b. q ≢ b) xs ys moved apart) }
