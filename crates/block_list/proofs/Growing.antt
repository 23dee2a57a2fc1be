-- Blocks come into slices, and new ones are made, one after the other.
use Rattle.std.proofs.Common.{◌≡◌, ℕ, true, false, is_some, List, [], ◌∷◌, ◌++◌, Some, None, Option, refl, sym, ap, ◌∙◌, subst, inl, inr}
use Rattle.std.specs.Ordering.{nat_cmp}
use Rattle.std.specs.FinMap.{find, put}
use Rattle.std.proofs.lemmas.Bool.{cases_eq}
use Rattle.slice_seq.specs.Purses.{Purse}
use Rattle.block_seats.specs.Blocks.{Blocks, BlockView}
use Rattle.block_seats.specs.Noted.{NotedView, noting_placed}
use Rattle.block_seats.specs.Purses.{with_block, next_place}
use Rattle.block_seats.specs.Seatings.{SeatingView, IsAlike, IsNewNumber}
use Rattle.block_home.proofs.Held.{put_here, put_other}
use Rattle.block_list.specs.Growth.{with_blocks, noting_in, ComeIn, AddsBlocks}

-- some blocks, and then others
pub with_blocks-append : (purse : Purse) (xs ys : List ℕ) → with_blocks purse (xs ++ ys) ≡ with_blocks (with_blocks purse xs) ys
with_blocks-append purse [] ys = refl
with_blocks-append purse (x ∷ xs) ys = with_blocks-append (with_block purse x) xs ys

pub noting_in-append : (moves : NotedView) (purse : Purse) (xs ys : List ℕ) → noting_in moves purse (xs ++ ys) ≡ noting_in (noting_in moves purse xs) (with_blocks purse xs) ys
noting_in-append moves purse [] ys = refl
noting_in-append moves purse (x ∷ xs) ys = noting_in-append (noting_placed moves (next_place purse) x) (with_block purse x) xs ys

pub alike_then : (old mid new : SeatingView) → IsAlike old mid → IsAlike mid new → IsAlike old new
alike_then old mid new first second = second ∙ (λ i. record (first i) { blocks = new.blocks; purse = new.purse; moves = new.moves })

pub alike_same : (old new : SeatingView) → new ≡ old → IsAlike old new
alike_same old new same = same ∙ (λ i. record old { blocks = (sym same i).blocks; purse = (sym same i).purse; moves = (sym same i).moves })

pub come-append : (xs ys : List ℕ) (old mid new : SeatingView) → ComeIn xs old mid → ComeIn ys mid new → ComeIn (xs ++ ys) old new
come-append xs ys old mid new first second = record {
  purse = second.purse ∙ ap (λ p. with_blocks p ys) first.purse ∙ sym (with_blocks-append old.purse xs ys);
  moves = second.moves ∙ (λ i. noting_in (first.moves i) (first.purse i) ys) ∙ sym (noting_in-append old.moves old.purse xs ys);
  alike = alike_then old mid new first.alike second.alike;
}

pub come-none : (old new : SeatingView) → new ≡ old → ComeIn [] old new
come-none old new same = record {
  purse = ap (λ (s : SeatingView). s.purse) same;
  moves = ap (λ (s : SeatingView). s.moves) same;
  alike = alike_same old new same;
}

pub come-blocks : (old new : SeatingView) → new ≡ record old { blocks = new.blocks } → ComeIn [] old new
come-blocks old new same = record {
  purse = ap (λ (s : SeatingView). s.purse) same;
  moves = ap (λ (s : SeatingView). s.moves) same;
  alike = same ∙ (λ i. record old { blocks = new.blocks; purse = (sym same i).purse; moves = (sym same i).moves });
}

-- the same numbers name blocks
abbrev pub AreSame : SeatingView → SeatingView → Type 0
AreSame old new = (block : ℕ) → is_some (find nat_cmp block new.blocks) ≡ is_some (find nat_cmp block old.blocks)

pub same_put : (old new : Blocks) (block : ℕ) (view : BlockView) → new ≡ put nat_cmp block view old → is_some (find nat_cmp block old) ≡ true → (q : ℕ) → is_some (find nat_cmp q new) ≡ is_some (find nat_cmp q old)
same_put old new block view is there q =
    elim (cases_eq q block) [
      | inl same ↦ subst (λ p. is_some (find nat_cmp p new) ≡ is_some (find nat_cmp p old)) (sym same) (ap is_some (ap (find nat_cmp block) is ∙ put_here old block view) ∙ sym there)
      | inr apart ↦ ap is_some (ap (find nat_cmp q) is ∙ put_other old block view q apart)
    ]

none_of : (o : Option BlockView) → is_some o ≡ false → o ≡ None
none_of None e = refl
none_of (Some view) e = cc

abbrev with_new : SeatingView → ℕ → BlockView → SeatingView
with_new seats block view = record seats { blocks = put nat_cmp block view seats.blocks }

number_same : (old new : SeatingView) (block : ℕ) → AreSame old new → IsNewNumber new block → IsNewNumber old block
number_same old new block same number = record {
  fresh = none_of (find nat_cmp block old.blocks) (sym (same block) ∙ ap is_some number.fresh);
  least = λ lower below. sym (same lower) ∙ number.least lower below;
}

same_with : (old new : SeatingView) (block : ℕ) (view : BlockView) → AreSame old new → AreSame (with_new old block view) (with_new new block view)
same_with old new block view same q =
    elim (cases_eq q block) [
      | inl is ↦
          ap (λ b. is_some (find nat_cmp b (put nat_cmp block view new.blocks))) is
          ∙ ap is_some (put_here new.blocks block view ∙ sym (put_here old.blocks block view))
          ∙ sym (ap (λ b. is_some (find nat_cmp b (put nat_cmp block view old.blocks))) is)
      | inr apart ↦
          ap is_some (put_other new.blocks block view q apart)
          ∙ same q
          ∙ sym (ap is_some (put_other old.blocks block view q apart))
    ]

-- one block more was made
pub adds-push : (old : SeatingView) (added : List ℕ) (mid new : SeatingView) (block : ℕ) (view : BlockView) → AddsBlocks old added mid → IsNewNumber mid block → AreSame (with_new mid block view) new → AddsBlocks old (added ++ block ∷ []) new
adds-push old [] mid new block view same number now =
    (view, number_same old mid block same number, λ q. now q ∙ same_with old mid block view same q)
adds-push old (b ∷ added) mid new block view adds number now =
    (adds.0, adds.1, adds-push (with_new old b adds.0) added mid new block view adds.2 number now)

-- new blocks were made after bytes were written
pub adds-after : (old mid : SeatingView) (added : List ℕ) (new : SeatingView) → AreSame old mid → AddsBlocks mid added new → AddsBlocks old added new
adds-after old mid [] new same adds = λ q. adds q ∙ same q
adds-after old mid (b ∷ added) new same adds =
    (adds.0, number_same old mid b same adds.1, adds-after (with_new old b adds.0) (with_new mid b adds.0) added new (same_with old mid b adds.0 same) adds.2)
