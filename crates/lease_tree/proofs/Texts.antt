-- Texts that begin with others, in the order of bytes.
use Rattle.std.proofs.Common.{◌≡◌, ◌≢◌, ℕ, ◌-◌, nat_eq, Bool, true, false, ◌&&◌, List, [], ◌∷◌, ◌++◌, length, take, drop, refl, sym, ap, ◌∙◌, arith}
use Rattle.std.specs.declared.cmp.Ordering.{Ordering}
use Rattle.std.specs.declared.cmp.Ordering.TheVariants.{Less, Equal, Greater}
use Rattle.std.specs.Ordering.{nat_cmp, ordering_then, ordering_reverse, is_lt}
use Rattle.std.specs.Cmp.Lexicographic.{nat_list_cmp_total}
use Rattle.lease_tree.specs.Under.{is_before, is_under, stem}
use Rattle.std.specs.Cmp.{ranked, tied_itself, nat_cmp_total}
use Rattle.std.specs.List.{starts_with}
use Rattle.std.specs.Cmp.{unsigned_Decides}
use Rattle.std.proofs.lemmas.Slice.Eq.{starts_is}
use Rattle.std.proofs.lemmas.List.{take_all, length-drop, append-nil}
use Rattle.far_words.specs.Paths.{bytes_cmp}

abbrev pub begins : List ℕ → List ℕ → Bool
begins text front = starts_with nat_eq text front

-- what both begin with doesn't count
pub cmp-front : (front a b : List ℕ) → bytes_cmp (front ++ a) (front ++ b) ≡ bytes_cmp a b
cmp-front [] a b = refl
cmp-front (x ∷ front) a b = ap (λ o. ordering_then o (bytes_cmp (front ++ a) (front ++ b))) (tied_itself nat_cmp_total x) ∙ cmp-front front a b

pub begins_parts : (x y : ℕ) (b : Bool) → (nat_eq x y && b) ≡ true → (nat_eq x y ≡ true) × (b ≡ true)
begins_parts x y b e = elim (nat_eq x y) as (λ t. (t && b) ≡ true → (t ≡ true) × (b ≡ true)) [ true ↦ λ is. (refl, is) | false ↦ λ is. absurd (let no : false ≡ true = is in cc) ] e

-- a text that doesn't begin with another compares to all that begin with that one alike
pub cmp-apart : (front back text : List ℕ) → begins text front ≡ false → bytes_cmp (front ++ back) text ≡ bytes_cmp front text
cmp-apart [] back text apart = absurd (let no : true ≡ false = apart in cc)
cmp-apart (x ∷ front) back [] apart = refl
cmp-apart (x ∷ front) back (y ∷ text) apart =
    elim (nat_cmp x y) as (λ o. nat_cmp x y ≡ o → ordering_then o (bytes_cmp (front ++ back) text) ≡ ordering_then o (bytes_cmp front text)) [
      | Less ↦ λ is. refl
      | Equal ↦ λ is.
          let same : x ≡ y = ranked x y Equal (sym is) in
          let one : nat_eq x y ≡ true = grind (arith, same) in
          cmp-apart front back text (sym (ap (λ t. t && begins text front) one) ∙ apart)
      | Greater ↦ λ is. refl
    ] refl

-- what comes after the first part is what is to begin with the second
pub begins-more : (front more text : List ℕ) → begins text front ≡ true → begins text (front ++ more) ≡ begins (drop (length front) text) more
begins-more [] more text is = refl
begins-more (x ∷ front) more [] is = absurd (let no : false ≡ true = is in cc)
begins-more (x ∷ front) more (y ∷ text) is =
    let parts = begins_parts x y (begins text front) is in
    ap (λ t. t && begins text (front ++ more)) parts.0 ∙ begins-more front more text parts.1

pub begins-less : (front more text : List ℕ) → begins text front ≡ false → begins text (front ++ more) ≡ false
begins-less [] more text is = absurd (let no : true ≡ false = is in cc)
begins-less (x ∷ front) more [] is = refl
begins-less (x ∷ front) more (y ∷ text) is =
    elim (nat_eq x y) as (λ t. (t && begins text front) ≡ false → (t && begins text (front ++ more)) ≡ false) [
      | true ↦ λ rest. begins-less front more text rest
      | false ↦ λ rest. refl
    ] is

-- and it is that part and the rest
pub begins-rest : (front text : List ℕ) → begins text front ≡ true → text ≡ front ++ drop (length front) text
begins-rest front text is = (starts_is unsigned_Decides text front (begins text front) refl).0 is

-- all from a place on
pub rest_is : (n : ℕ) (text : List ℕ) → take (length text - n) (drop n text) ≡ drop n text
rest_is n text = take_all (length text - n) (drop n text) (omega (arith, length-drop n text))

-- a name that a text isn't after doesn't stand before it
pub before_else : (text name : List ℕ) (o : Ordering) → (o ≡ Greater → ⊥) → o ≡ bytes_cmp text name → is_before text name ≡ false
before_else text name o not_greater is =
    elim (bytes_cmp name text) as (λ r. bytes_cmp name text ≡ r → is_lt r ≡ false) [
      | Less ↦ λ less. absurd (not_greater (is ∙ nat_list_cmp_total.antisymm text name ∙ ap ordering_reverse less))
      | Equal ↦ λ _. refl
      | Greater ↦ λ _. refl
    ] refl

pub no_greater : Greater ≢ Less
no_greater e = cc

-- a text between one and a text that begins with it begins with it too
pub sandwich : (front text more : List ℕ) → (bytes_cmp front text ≡ Greater → ⊥) → bytes_cmp text (front ++ more) ≡ Less → begins text front ≡ true
sandwich [] text more low high = refl
sandwich (x ∷ front) [] more low high = absurd (low refl)
sandwich (x ∷ front) (y ∷ text) more low high =
    elim (nat_cmp x y) as (λ o. nat_cmp x y ≡ o → (ordering_then o (bytes_cmp front text) ≡ Greater → ⊥) → ordering_then (ordering_reverse o) (bytes_cmp text (front ++ more)) ≡ Less → (nat_eq x y && begins text front) ≡ true) [
      | Less ↦ λ is l h. absurd (no_greater h)
      | Equal ↦ λ is l h.
          let same : x ≡ y = ranked x y Equal (sym is) in
          let one : nat_eq x y ≡ true = grind (arith, same) in
          ap (λ t. t && begins text front) one ∙ sandwich front text more l h
      | Greater ↦ λ is l h. absurd (l refl)
    ] refl low (ap (λ o. ordering_then o (bytes_cmp text (front ++ more))) (sym (nat_cmp_total.antisymm y x)) ∙ high)

-- a text doesn't come after one that begins with it
pub not_after : (front more : List ℕ) → bytes_cmp front (front ++ more) ≡ Greater → ⊥
not_after front more greater =
    let short : bytes_cmp [] more ≡ Greater = sym (cmp-front front [] more) ∙ ap (λ (l : List ℕ). bytes_cmp l (front ++ more)) (append-nil front) ∙ greater in
    elim more as (λ m. bytes_cmp [] m ≡ Greater → ⊥) [ [] ↦ λ e. let no : Equal ≡ Greater = e in cc | x ∷ m ↦ λ e. let no : Less ≡ Greater = e in cc ] short

-- past the names under a path none is under it
pub under_later : (path name later : List ℕ) → bytes_cmp (stem path) name ≡ Less → is_under path name ≡ false → bytes_cmp name later ≡ Less → is_under path later ≡ false
under_later path name later less not_under above =
    elim (is_under path later) as (λ b. is_under path later ≡ b → b ≡ false) [
      | true ↦ λ is.
          let rest = drop (length (stem path)) later in
          let high : bytes_cmp name (stem path ++ rest) ≡ Less = ap (bytes_cmp name) (sym (begins-rest (stem path) later is)) ∙ above in
          let inside = sandwich (stem path) name rest (λ greater. let no : Less ≡ Greater = sym less ∙ greater in cc) high in
          sym inside ∙ not_under
      | false ↦ λ is. refl
    ] refl

-- and before them neither
pub under_earlier : (path name earlier : List ℕ) → (bytes_cmp (stem path) name ≡ Less → ⊥) → bytes_cmp earlier name ≡ Less → is_under path earlier ≡ false
under_earlier path name earlier not_less below =
    elim (is_under path earlier) as (λ b. is_under path earlier ≡ b → b ≡ false) [
      | true ↦ λ is.
          let rest = drop (length (stem path)) earlier in
          let parted = begins-rest (stem path) earlier is in
          absurd (not_less (through (stem path) earlier name (λ greater. not_after (stem path) rest (ap (bytes_cmp (stem path)) (sym parted) ∙ greater)) below))
      | false ↦ λ is. refl
    ] refl
  where
    through : (i j k : List ℕ) → (bytes_cmp i j ≡ Greater → ⊥) → bytes_cmp j k ≡ Less → bytes_cmp i k ≡ Less
    through i j k not_greater less =
        elim (bytes_cmp i j) as (λ o. bytes_cmp i j ≡ o → bytes_cmp i k ≡ Less) [
          | Less ↦ λ e. nat_list_cmp_total.trans i j k e less
          | Equal ↦ λ e. nat_list_cmp_total.congr i j k e ∙ less
          | Greater ↦ λ e. absurd (not_greater e)
        ] refl
