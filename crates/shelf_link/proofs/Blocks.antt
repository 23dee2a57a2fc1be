-- Laws of finite maps from block numbers to bytes.
use Rattle.std.proofs.Common.{◌≡◌, ◌≢◌, ℕ, true, false, not, cond, List, [], ◌∷◌, refl, sym, ◌∙◌, ap, subst, Some, None}
use Rattle.std.specs.declared.cmp.Ordering.{Ordering}
use Rattle.std.specs.declared.cmp.Ordering.TheVariants.{Less, Equal, Greater}
use Rattle.std.specs.Ordering.{nat_cmp, is_eq, eq_by_cmp, match_ordering}
use Rattle.std.specs.Cmp.{nat_cmp_total, tied_itself}
use Rattle.std.specs.List.{AllByRecursion}
use Rattle.std.specs.List.Sorted.{IsStrictlySortedBy}
use Rattle.std.specs.Map.{keys_of, lookup, remove_entry}
use Rattle.std.specs.BTreeMap.{insert_entry, is_at}
use Rattle.std.specs.FinMap.{nat_cmp-IsAntisymmetric}
use Rattle.std.specs.FinMap.Entries.{by_order, find-put, find-where_key}
use Rattle.shelf_link.specs.Blocks.{Blocks, block_at, with_block, without_block}

pub same_number : (block : ℕ) → eq_by_cmp nat_cmp block block ≡ true
same_number block = ap is_eq (tied_itself nat_cmp_total block)

pub other_number : (other block : ℕ) → other ≢ block → eq_by_cmp nat_cmp other block ≡ false
other_number other block apart = by (nat_cmp other block) refl
  where
    by : (o : Ordering) → nat_cmp other block ≡ o → is_eq o ≡ false
    by Less e = refl
    by Equal e = absurd (apart (nat_cmp-IsAntisymmetric other block e))
    by Greater e = refl

-- what is put stands there, and nothing else changed
pub at_with_block : (blocks : Blocks) (block : ℕ) (bytes : List ℕ) → block_at (with_block blocks block bytes) block ≡ Some bytes
at_with_block blocks block bytes =
    find-put nat_cmp nat_cmp_total block block bytes blocks ∙ ap (λ b. cond b (Some bytes) (block_at blocks block)) (same_number block)

pub others_with_block : (blocks : Blocks) (block : ℕ) (bytes : List ℕ) (other : ℕ) → other ≢ block → block_at (with_block blocks block bytes) other ≡ block_at blocks other
others_with_block blocks block bytes other apart =
    find-put nat_cmp nat_cmp_total other block bytes blocks ∙ ap (λ b. cond b (Some bytes) (block_at blocks other)) (other_number other block apart)

-- a number ties with itself alone, so a removal is a test of numbers
find-without : (blocks : Blocks) (block other : ℕ) → block_at (without_block blocks block) other ≡ cond (not (eq_by_cmp nat_cmp block other)) (block_at blocks other) None
find-without blocks block other =
    find-where_key nat_cmp (λ x. not (eq_by_cmp nat_cmp block x)) other
    (λ x tied. ap (λ y. not (eq_by_cmp nat_cmp block y)) (sym (nat_cmp-IsAntisymmetric other x tied))) blocks

pub at_without_block : (blocks : Blocks) (block : ℕ) → block_at (without_block blocks block) block ≡ None
at_without_block blocks block = find-without blocks block block ∙ ap (λ b. cond (not b) (block_at blocks block) None) (same_number block)

pub others_without_block : (blocks : Blocks) (block other : ℕ) → other ≢ block → block_at (without_block blocks block) other ≡ block_at blocks other
others_without_block blocks block other apart =
    find-without blocks block other ∙ ap (λ b. cond (not b) (block_at blocks other) None) (other_number block other (λ same. apart (sym same)))

-- the calls of a map of std, as those of the list of its entries
pub lookup_is_find : (blocks : Blocks) (block : ℕ) → lookup (is_at (nat_cmp block)) blocks ≡ block_at blocks block
lookup_is_find [] block = refl
lookup_is_find (e ∷ es) block = ap (cond (is_eq (nat_cmp block e.0)) (Some e.1)) (lookup_is_find es block)

by_match : {A : Type 0} (o : Ordering) (a b c : A) → match_ordering o a b c ≡ by_order o a b c
by_match Less a b c = refl
by_match Equal a b c = refl
by_match Greater a b c = refl

pub insert_is_put : (blocks : Blocks) (block : ℕ) (bytes : List ℕ) → insert_entry nat_cmp blocks block bytes ≡ with_block blocks block bytes
insert_is_put [] block bytes = refl
insert_is_put (e ∷ es) block bytes =
    ap (λ rest. match_ordering (nat_cmp block e.0) ((block, bytes) ∷ e ∷ es) ((e.0, bytes) ∷ es) (e ∷ rest)) (insert_is_put es block bytes)
    ∙ by_match (nat_cmp block e.0) ((block, bytes) ∷ e ∷ es) ((e.0, bytes) ∷ es) (e ∷ with_block es block bytes)

-- numbers above all those that a removal looks for stay
without_below : (block : ℕ) (es : Blocks) → AllByRecursion (λ other. nat_cmp block other ≡ Less) (keys_of es) → without_block es block ≡ es
without_below block [] below = refl
without_below block (e ∷ es) below =
    ap (λ o. cond (not (is_eq o)) (e ∷ without_block es block) (without_block es block)) below.0
    ∙ ap (λ rest. e ∷ rest) (without_below block es below.1)

pub remove_is_without : (blocks : Blocks) (block : ℕ) → IsStrictlySortedBy nat_cmp (keys_of blocks) → remove_entry (is_at (nat_cmp block)) blocks ≡ without_block blocks block
unfolding IsStrictlySortedBy
remove_is_without [] block sorted = refl
remove_is_without (e ∷ es) block sorted = by (nat_cmp block e.0) refl (remove_is_without es block sorted.1)
  where
    by : (o : Ordering) → nat_cmp block e.0 ≡ o → remove_entry (is_at (nat_cmp block)) es ≡ without_block es block
        → cond (is_eq o) es (e ∷ remove_entry (is_at (nat_cmp block)) es) ≡ cond (not (is_eq o)) (e ∷ without_block es block) (without_block es block)
    by Less tied rest = ap (λ entries. e ∷ entries) rest
    by Equal tied rest =
        let same : block ≡ e.0 = nat_cmp-IsAntisymmetric block e.0 tied in
        sym (without_below block es (subst (λ (k : ℕ). AllByRecursion (λ other. nat_cmp k other ≡ Less) (keys_of es)) (sym same) sorted.0))
    by Greater tied rest = ap (λ entries. e ∷ entries) rest
