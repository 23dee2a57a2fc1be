-- What keeps a map held.
use Rattle.std.proofs.Common.{◌≡◌, ◌≢◌, ℕ, ◌||◌, inl, inr, Bool, true, not, cond, List, [], ◌∷◌, IsTrue, Some, None, Option, refl, sym, ap, subst, ◌∙◌}
use Rattle.std.specs.declared.cmp.Ordering.{Ordering}
use Rattle.std.specs.declared.cmp.Ordering.TheVariants.{Less, Equal, Greater}
use Rattle.std.specs.Ordering.{nat_cmp, eq_by_cmp, is_eq}
use Rattle.std.specs.Cmp.{nat_cmp_total}
use Rattle.std.specs.FinMap.{find, put, nat_cmp-IsAntisymmetric}
use Rattle.std.specs.FinMap.Entries.{by_order, find-put, find-where_key}
use Rattle.std.proofs.lemmas.Bool.{cases_eq}
use Rattle.shelf_link.specs.Told.{Told, tells, is_sure, under, IsSameKind, KeepsOthers}
use Rattle.shelf_link.specs.Blocks as map
use Rattle.shelf_link.proofs.Blocks.{same_number, other_number, at_with_block, others_with_block, at_without_block, others_without_block}
use Rattle.block_seats.specs.Tables.{without}
use Rattle.block_seats.specs.Blocks.{Blocks, BlockView, InSlice, InStore}
use Rattle.block_home.specs.Holding.{IsHeld, Holds}

-- a finite map after one number was set or taken out

pub put_here : {X : Type 0} (es : List (ℕ × X)) (k : ℕ) (x : X) → find nat_cmp k (put nat_cmp k x es) ≡ Some x
put_here es k x = find-put nat_cmp nat_cmp_total k k x es ∙ ap (λ b. cond b (Some x) (find nat_cmp k es)) (same_number k)

pub put_other : {X : Type 0} (es : List (ℕ × X)) (k : ℕ) (x : X) (q : ℕ) → q ≢ k → find nat_cmp q (put nat_cmp k x es) ≡ find nat_cmp q es
put_other es k x q apart = find-put nat_cmp nat_cmp_total q k x es ∙ ap (λ b. cond b (Some x) (find nat_cmp q es)) (other_number q k apart)

find-without : {X : Type 0} (es : List (ℕ × X)) (k q : ℕ) → find nat_cmp q (without k es) ≡ cond (not (eq_by_cmp nat_cmp k q)) (find nat_cmp q es) None
find-without es k q =
    find-where_key nat_cmp (λ x. not (eq_by_cmp nat_cmp k x)) q
    (λ x tied. ap (λ y. not (eq_by_cmp nat_cmp k y)) (sym (nat_cmp-IsAntisymmetric q x tied))) es

pub without_here : {X : Type 0} (es : List (ℕ × X)) (k : ℕ) → find nat_cmp k (without k es) ≡ None
without_here es k = find-without es k k ∙ ap (λ b. cond (not b) (find nat_cmp k es) None) (same_number k)

pub without_other : {X : Type 0} (es : List (ℕ × X)) (k q : ℕ) → q ≢ k → find nat_cmp q (without k es) ≡ find nat_cmp q es
without_other es k q apart = find-without es k q ∙ ap (λ b. cond (not b) (find nat_cmp q es) None) (other_number k q (λ same. apart (sym same)))

pub without_put : {X : Type 0} (es : List (ℕ × X)) (k : ℕ) (x : X) → without k (put nat_cmp k x es) ≡ without k es
without_put [] k x = ap (λ b. cond (not b) ((k, x) ∷ []) []) (same_number k)
without_put (e ∷ es) k x = by (without_put es k x) (nat_cmp k e.0) refl
  where
    by : without k (put nat_cmp k x es) ≡ without k es → (o : Ordering) → nat_cmp k e.0 ≡ o → without k (by_order o ((k, x) ∷ e ∷ es) ((e.0, x) ∷ es) (e ∷ put nat_cmp k x es)) ≡ without k (e ∷ es)
    by later Less is = ap (λ b. cond (not b) ((k, x) ∷ without k (e ∷ es)) (without k (e ∷ es))) (same_number k)
    by later Equal is =
        let rest = without k es in
        let tied : eq_by_cmp nat_cmp k e.0 ≡ true = ap is_eq is in
        ap (λ b. cond (not b) ((e.0, x) ∷ rest) rest) tied ∙ sym (ap (λ b. cond (not b) (e ∷ rest) rest) tied)
    by later Greater is = ap (λ rest. cond (not (eq_by_cmp nat_cmp k e.0)) (e ∷ rest) rest) later

-- what holds of two tellings that are the same

pub kind_same : (before now : Told) → now ≡ before → IsSameKind before now
kind_same before now same = record { tells = ap tells same; void = ap (λ (t : Told). t.void) same }

pub others_same : (before now : Told) (block : ℕ) → now ≡ before → KeepsOthers before now block
others_same before now block same = λ other apart. ap (λ (t : Told). under t other) same

sure_kept : (before now : Told) → IsSameKind before now → IsTrue (is_sure before) → IsTrue (is_sure now)
sure_kept before now kind sure = ap (λ b. b || now.void) kind.tells ∙ ap (λ b. tells before || b) kind.void ∙ sure

held_kept : (m n : map.Blocks) (before now : Told) (user q : ℕ) (o : Option BlockView) → tells now ≡ tells before → under now q ≡ under before q → map.block_at n q ≡ map.block_at m q
    → IsHeld m before user q o → IsHeld n now user q o
held_kept m n before now user q None t u e held = e ∙ held
held_kept m n before now user q (Some (InSlice bytes was)) t u e held = e ∙ held
held_kept m n before now user q (Some (InStore stamp)) t u e held = record {
  bytes = held.bytes;
  there = e ∙ held.there;
  stamped = held.stamped;
  stored = λ told.
      let stood = held.stored (sym t ∙ told) in
      record { image = stood.image; there = u ∙ stood.there; is = stood.is };
}

-- a call that touches one block keeps what is held at all others
pub held_at : (m n : map.Blocks) (before now : Told) (user : ℕ) (old new : Blocks) (block : ℕ) → IsSameKind before now → KeepsOthers before now block
    → ((q : ℕ) → q ≢ block → map.block_at n q ≡ map.block_at m q) → ((q : ℕ) → q ≢ block → find nat_cmp q new ≡ find nat_cmp q old)
    → IsHeld n now user block (find nat_cmp block new) → Holds m before user old → Holds n now user new
held_at m n before now user old new block kind others maps seen here holds = record {
  sure = sure_kept before now kind holds.sure;
  each = λ q. elim (cases_eq q block) [
    | inl same ↦ subst (λ p. IsHeld n now user p (find nat_cmp p new)) (sym same) here
    | inr apart ↦ held_kept m n before now user q (find nat_cmp q new) kind.tells (others q apart) (maps q apart)
        (subst (λ o. IsHeld m before user q o) (sym (seen q apart)) (holds.each q))
  ];
}

-- the same, where the block is set, or taken out, in the home, and where it is so in the map too

pub held_put : (m : map.Blocks) (before now : Told) (user : ℕ) (old : Blocks) (block : ℕ) (view : BlockView) → IsSameKind before now → KeepsOthers before now block
    → IsHeld m now user block (Some view) → Holds m before user old → Holds m now user (put nat_cmp block view old)
held_put m before now user old block view kind others here holds =
    held_at m m before now user old (put nat_cmp block view old) block kind others (λ q apart. refl) (put_other old block view)
    (subst (λ o. IsHeld m now user block o) (sym (put_here old block view)) here) holds

pub held_with : (m : map.Blocks) (told : Told) (user : ℕ) (old : Blocks) (block : ℕ) (bytes : List ℕ) (was : Bool)
    → Holds m told user old → Holds (map.with_block m block bytes) told user (put nat_cmp block (InSlice bytes was) old)
held_with m told user old block bytes was holds =
    held_at m (map.with_block m block bytes) told told user old (put nat_cmp block (InSlice bytes was) old) block (kind_same told told refl) (others_same told told block refl)
    (others_with_block m block bytes) (put_other old block (InSlice bytes was))
    (subst (λ o. IsHeld (map.with_block m block bytes) told user block o) (sym (put_here old block (InSlice bytes was))) (at_with_block m block bytes)) holds

pub held_without : (m : map.Blocks) (before now : Told) (user : ℕ) (old : Blocks) (block : ℕ) → IsSameKind before now → KeepsOthers before now block
    → Holds m before user old → Holds (map.without_block m block) now user (without block old)
held_without m before now user old block kind others holds =
    held_at m (map.without_block m block) before now user old (without block old) block kind others
    (λ q apart. others_without_block m block q apart) (λ q apart. without_other old block q apart)
    (subst (λ o. IsHeld (map.without_block m block) now user block o) (sym (without_here old block)) (at_without_block m block)) holds
