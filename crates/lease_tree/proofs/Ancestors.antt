-- The names that a name is under: its parent, and those that the parent is under.
use Rattle.std.proofs.Common.{◌≡◌, ℕ, ◌+◌, ◌<◌, ◌==◌, nat_eq, Bool, true, false, ◌&&◌, ◌||◌, List, [], ◌∷◌, ◌++◌, length, drop, get_or, refl, sym, ap, subst, ◌∙◌, inl, inr, ◌⊎◌, arith, length-append, Some, None}
use Rattle.std.specs.declared.option.Option.{Option}
use Rattle.std.specs.declared.cmp.Ordering.TheVariants.{Less, Equal, Greater}
use Rattle.std.specs.Ordering.{nat_cmp, ordering_then, is_eq}
use Rattle.std.specs.Cmp.{ranked}
use Rattle.std.specs.List.{All, AllByRecursion}
use Rattle.std.specs.Option.{unwrap_or}
use Rattle.std.proofs.lemmas.List.Elements.{All-from_recursion}
use Rattle.std.proofs.lemmas.Bool.Decides.{nat_tests}
use Rattle.std.proofs.Math.Seq.{take-append_seam, drop-append-add}
use Rattle.far_words.specs.Paths.{bytes_cmp, slash, parent_of}
use Rattle.far_words.proofs.Parents.{IsLastSlash, parent_of-last_slash, parent_of-no_slash}
use Rattle.lease_tree.specs.Under.{is_same, is_under, is_along, stem}
use Rattle.lease_tree.proofs.Texts.{begins}

-- no slash stands in a text
abbrev pub Free : List ℕ → Type 0
Free text = AllByRecursion (λ byte. (byte == slash) ≡ false) text

-- a text that is cut at its last slash
pub record Cut (text : List ℕ) : Type 0 where
  pub front : List ℕ
  pub back : List ℕ
  pub is : text ≡ front ++ slash ∷ back
  pub free : Free back

with_head : (x : ℕ) (text : List ℕ) → Cut text → Cut (x ∷ text)
with_head x text c = record { front = x ∷ c.front; back = c.back; is = ap (λ l. x ∷ l) c.is; free = c.free }

cut : (text : List ℕ) → Cut text ⊎ Free text
cut [] = inr tt
cut (x ∷ text) =
    elim (cut text) [
      | inl c ↦ inl (with_head x text c)
      | inr free ↦
          elim (x == slash) as (λ b. (x == slash) ≡ b → Cut (x ∷ text) ⊎ Free (x ∷ text)) [
            | true ↦ λ is. let same : x ≡ slash = grind (arith, nat_tests, is) in inl (record { front = []; back = text; is = ap (λ (y : ℕ). y ∷ text) same; free = free })
            | false ↦ λ is. inr (is, free)
          ] refl
    ]

at_seam : (front back : List ℕ) (y d : ℕ) → get_or (front ++ y ∷ back) (length front) d ≡ y
at_seam [] back y d = refl
at_seam (x ∷ front) back y d = at_seam front back y d

parent_of-cut : (front back : List ℕ) → Free back → parent_of (front ++ slash ∷ back) ≡ Some front
parent_of-cut front back free =
    let text = front ++ slash ∷ back in
    let dropped : drop (length front + 1) text ≡ back = drop-append-add front (slash ∷ back) 1 in
    let last : IsLastSlash text (length front) = record {
      below = omega (arith, length-append front (slash ∷ back));
      here = at_seam front back slash 0;
      none_after = subst (λ (l : List ℕ). All (λ byte. (byte == slash) ≡ false) l) (sym dropped) (All-from_recursion (λ byte. (byte == slash) ≡ false) back free);
    } in
    parent_of-last_slash text (length front) last ∙ ap Some (take-append_seam front (slash ∷ back))

parent_of-free : (text : List ℕ) → Free text → parent_of text ≡ None
parent_of-free text free = parent_of-no_slash text (All-from_recursion (λ byte. (byte == slash) ≡ false) text free)

-- a text without a slash is under nothing
pub free_under : (k text : List ℕ) → Free text → is_under k text ≡ false
free_under k [] free = elim k as (λ (l : List ℕ). begins [] (stem l) ≡ false) [ [] ↦ refl | x ∷ l ↦ refl ]
free_under [] (y ∷ text) free =
    let apart : nat_eq slash y ≡ false = grind (arith, nat_tests, free.0) in
    ap (λ b. b && begins text []) apart
free_under (x ∷ k) (y ∷ text) free = elim (nat_eq x y) as (λ b. (b && begins text (stem k)) ≡ false) [ true ↦ free_under k text free.1 | false ↦ refl ]

-- a text is under the part before its last slash, and under what that part is under
under_cut : (k front back : List ℕ) → Free back → is_under k (front ++ slash ∷ back) ≡ (is_same front k || is_under k front)
under_cut [] [] back free = refl
under_cut [] (x ∷ front) back free = refl
under_cut (y ∷ k) [] back free = elim (nat_eq y slash) as (λ b. (b && begins back (stem k)) ≡ false) [ true ↦ free_under k back free | false ↦ refl ]
under_cut (y ∷ k) (x ∷ front) back free =
    elim (nat_cmp x y) as (λ o. nat_cmp x y ≡ o → (nat_eq y x && begins (front ++ slash ∷ back) (stem k)) ≡ (is_eq (ordering_then o (bytes_cmp front k)) || (nat_eq y x && begins front (stem k)))) [
      | Less ↦ λ is.
          let less : x < y = ranked x y Less (sym is) in
          let apart : nat_eq y x ≡ false = grind (arith, nat_tests, less) in
          ap (λ b. b && begins (front ++ slash ∷ back) (stem k)) apart ∙ sym (ap (λ b. b && begins front (stem k)) apart)
      | Equal ↦ λ is.
          let same : x ≡ y = ranked x y Equal (sym is) in
          let one : nat_eq y x ≡ true = grind (arith, nat_tests, same) in
          ap (λ b. b && begins (front ++ slash ∷ back) (stem k)) one ∙ under_cut k front back free ∙ sym (ap (λ b. is_same front k || (b && begins front (stem k))) one)
      | Greater ↦ λ is.
          let more : y < x = ranked x y Greater (sym is) in
          let apart : nat_eq y x ≡ false = grind (arith, nat_tests, more) in
          ap (λ b. b && begins (front ++ slash ∷ back) (stem k)) apart ∙ sym (ap (λ b. b && begins front (stem k)) apart)
    ] refl

-- what stands along the parent, if there is one
abbrev pub along_some : Option (List ℕ) → List ℕ → Bool
along_some None name = false
along_some (Some parent) name = is_along parent name

-- a path is under its parent, and under what that is under
pub under_parent : (path k : List ℕ) → is_under k path ≡ along_some (parent_of path) k
under_parent path k =
    elim (cut path) [
      | inl c ↦ ap (is_under k) c.is ∙ under_cut k c.front c.back c.free ∙ sym (ap (λ (o : Option (List ℕ)). along_some o k) (ap parent_of c.is ∙ parent_of-cut c.front c.back c.free))
      | inr free ↦ free_under k path free ∙ sym (ap (λ (o : Option (List ℕ)). along_some o k) (parent_of-free path free))
    ]

-- a parent is shorter
pub shorter_parent : (path parent : List ℕ) → parent_of path ≡ Some parent → length parent < length path
shorter_parent path parent is =
    elim (cut path) [
      | inl c ↦
          let same : c.front ≡ parent = ap (λ (o : Option (List ℕ)). unwrap_or o parent) (sym (ap parent_of c.is ∙ parent_of-cut c.front c.back c.free) ∙ is) in
          let count : length path ≡ length (c.front ++ slash ∷ c.back) = ap length c.is in
          let long : length c.front ≡ length parent = ap length same in
          omega (arith, count, long, length-append c.front (slash ∷ c.back))
      | inr free ↦ absurd (let no : None ≡ Some parent = sym (parent_of-free path free) ∙ is in cc)
    ]
