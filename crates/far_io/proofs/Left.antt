-- Laws of what a source has left.
use Rattle.std.proofs.Common.{◌≡◌, ℕ, ◌+◌, ◌<◌, ◌≤◌, List, [], ◌++◌, length, take, drop, Option, Some, None, Ok, refl, sym, ◌∙◌, ap, subst, append_assoc, take-append-drop, drop-drop, arith}
use Rattle.std.proofs.lemmas.List.{drop_all}
use Rattle.far_io.specs.Left.{in_front, Takes}

pub in_front_of : (a b : List ℕ) (left : Option (List ℕ)) → in_front a (in_front b left) ≡ in_front (a ++ b) left
unfolding in_front
in_front_of a b None = refl
in_front_of a b (Some xs) = ap Some (sym (append_assoc a b xs))

pub in_front_none : (left : Option (List ℕ)) → in_front [] left ≡ left
unfolding in_front
in_front_none None = refl
in_front_none (Some xs) = refl

pub in_front_some : (a xs : List ℕ) → in_front a (Some xs) ≡ Some (a ++ xs)
unfolding in_front
in_front_some a xs = refl

pub in_front_told : (a xs : List ℕ) (left : Option (List ℕ)) → in_front a left ≡ Some xs → (ys : List ℕ) × (left ≡ Some ys) × (xs ≡ a ++ ys)
unfolding in_front
in_front_told a xs None e = cc
in_front_told a xs (Some ys) e = (ys, refl, cc)

none_past : (at len count room : ℕ) → (0 < room → at < len → 0 < count) → count ≡ 0 → 0 < room → len ≤ at + count
none_past at len count room some nothing more = grind arith

-- a take from memory, of a slice that is all of it
pub takes_memory : (E : Type 0) (xs slice out : List ℕ) (at count : ℕ) → slice ≡ xs → take count out ≡ take count (drop at slice) → (0 < length out → at < length slice → 0 < count)
    → Takes {E = E} (Some (drop at xs)) (Some (drop (at + count) xs)) (Ok count) out
unfolding in_front
takes_memory E xs slice out at count all same some = (
  ap Some (sym (take-append-drop count (drop at xs)) ∙ ap (λ front. front ++ drop count (drop at xs)) (sym (same ∙ ap (λ bytes. take count (drop at bytes)) all)) ∙ ap (λ rest. take count out ++ rest) (drop-drop count at xs)),
  λ nothing room bytes told. subst (λ left. left ≡ []) (cc) (drop_all (at + count) xs (none_past at (length xs) count (length out) (λ more here. some more (subst (λ bytes. at < length bytes) (sym all) here)) nothing room)),
)
