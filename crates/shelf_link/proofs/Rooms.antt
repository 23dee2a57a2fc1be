-- Laws of a shelf's room.
use Rattle.std.proofs.Common.{◌≡◌, ℕ, ◌<◌, ◌≤◌, inl, inr, Bool, true, false, not, cond, [], ◌∷◌, IsTrue, is_some, if◌then◌else◌, Some, None, refl, sym, ◌∙◌, ap, arith}
use Rattle.std.specs.Ordering.{nat_cmp, is_eq}
use Rattle.shelf_link.specs.Blocks.{Blocks, block_at, without_block}
use Rattle.shelf_link.specs.Shelves.{SureShelfView, taken_by, IsTooSmall}

module _ (shelf : SureShelfView) (block : ℕ) where
  pub taken_there : IsTrue (is_some (block_at shelf.blocks block)) → taken_by shelf block ≡ 1
  taken_there there = ap (λ b. if b then 1 else 0) there

  pub taken_absent : block_at shelf.blocks block ≡ None → taken_by shelf block ≡ 0
  taken_absent absent = ap (λ held. if is_some held then 1 else 0) absent

  -- a block's own room is big enough, and so is room for one that isn't held
  pub fits_again : (len : ℕ) → len ≤ shelf.size → IsTrue (is_some (block_at shelf.blocks block)) → IsTooSmall shelf block len → false ≡ true
  fits_again len fits there (inl long) = absurd (omega (arith, long, fits))
  fits_again len fits there (inr full) = sym (ap (λ held. is_some held) full.0) ∙ there

  pub fits_new : (len : ℕ) → len ≤ shelf.size → 0 < shelf.room → IsTooSmall shelf block len → false ≡ true
  fits_new len fits room (inl long) = absurd (omega (arith, long, fits))
  fits_new len fits room (inr full) = absurd (omega (arith, full.1, room))

-- a block that isn't there is taken out by nothing
pub without_absent : (blocks : Blocks) (block : ℕ) → block_at blocks block ≡ None → without_block blocks block ≡ blocks
without_absent [] block absent = refl
without_absent (e ∷ es) block absent = by (is_eq (nat_cmp block e.0)) absent (without_absent es block)
  where
    by : (b : Bool) → cond b (Some e.1) (block_at es block) ≡ None → (block_at es block ≡ None → without_block es block ≡ es)
        → cond (not b) (e ∷ without_block es block) (without_block es block) ≡ e ∷ es
    by true is rest = absurd (cc)
    by false is rest = ap (λ entries. e ∷ entries) (rest is)
