-- A table seen as a finite map: what a write of one place does to it.
use Rattle.std.proofs.Common.{nat_lt, ◌≡◌, ℕ, zero, suc, ◌+◌, ◌<◌, ◌≤◌, Bool, true, false, not, is_some, cond, List, [], ◌∷◌, length, replicate, count_by, map, get_or, set, refl, ap, sym, subst, ◌∙◌, arith, Some, None}
use Rattle.std.specs.declared.option.Option.{Option}
use Rattle.std.specs.declared.cmp.Ordering.TheVariants.{Less, Equal, Greater}
use Rattle.std.specs.Option.{option_map_or}
use Rattle.std.specs.List.{AllByRecursion, position, position_or_len}
use Rattle.std.specs.List.Sorted.{IsStrictlySortedBy}
use Rattle.std.specs.Map.{keys_of}
use Rattle.std.proofs.lemmas.List.Sums.{sum_by-cons, sum_by-set}
use Rattle.std.proofs.lemmas.Bool.Decides.{nat_tests}
use Rattle.std.specs.Ordering.{nat_cmp, is_eq}
use Rattle.std.specs.Cmp.{nat_cmp_is}
use Rattle.std.specs.FinMap.{find, put}
use Rattle.std.specs.FinMap.Entries.{by_order}
use Rattle.id_set.specs.Tables.{entries_from, entries_of, without}

pub entries-replicate : {X : Type 0} (from n : ℕ) → entries_from {X = X} from (replicate n None) ≡ []
entries-replicate from zero = refl
entries-replicate from (suc n) = entries-replicate (from + 1) n

-- a number below the first place stands nowhere
find_below : {X : Type 0} (from k : ℕ) (xs : List (Option X)) → k < from → find nat_cmp k (entries_from from xs) ≡ None
find_below from k [] l = refl
find_below from k (None ∷ xs) l = find_below (from + 1) k xs (omega arith)
find_below from k (Some x ∷ xs) l =
    ap (λ o. cond (is_eq o) (Some x) (find nat_cmp k (entries_from (from + 1) xs))) (sym (nat_cmp_is k from Less l)) ∙ find_below (from + 1) k xs (omega arith)

find_from : {X : Type 0} (from : ℕ) (xs : List (Option X)) (i k : ℕ) → k ≡ from + i → find nat_cmp k (entries_from from xs) ≡ get_or xs i None
find_from from [] i k e = refl
find_from from (None ∷ xs) zero k e = find_below (from + 1) k xs (omega arith)
find_from from (Some x ∷ xs) zero k e = let same : k ≡ from = omega arith in ap (λ o. cond (is_eq o) (Some x) (find nat_cmp k (entries_from (from + 1) xs))) (sym (nat_cmp_is k from Equal same))
find_from from (None ∷ xs) (suc i) k e = find_from (from + 1) xs i k (omega arith)
find_from from (Some x ∷ xs) (suc i) k e =
    let above : from < k = omega arith in
    ap (λ o. cond (is_eq o) (Some x) (find nat_cmp k (entries_from (from + 1) xs))) (sym (nat_cmp_is k from Greater above)) ∙ find_from (from + 1) xs i k (omega arith)

-- a look-up in the map reads the table
pub find-entries : {X : Type 0} (k : ℕ) (xs : List (Option X)) → find nat_cmp k (entries_of xs) ≡ get_or xs k None
find-entries k xs = find_from 0 xs k k (omega arith)

put_front : {X : Type 0} (from k : ℕ) (x : X) (xs : List (Option X)) → k < from → put nat_cmp k x (entries_from from xs) ≡ (k, x) ∷ entries_from from xs
put_front from k x [] l = refl
put_front from k x (None ∷ xs) l = put_front (from + 1) k x xs (omega arith)
put_front from k x (Some y ∷ xs) l =
    ap (λ o. by_order o ((k, x) ∷ (from, y) ∷ entries_from (from + 1) xs) ((from, x) ∷ entries_from (from + 1) xs) ((from, y) ∷ put nat_cmp k x (entries_from (from + 1) xs))) (sym (nat_cmp_is k from Less l))

put_from : {X : Type 0} (from : ℕ) (xs : List (Option X)) (i k : ℕ) (x : X) → k ≡ from + i → i < length xs → entries_from from (set xs i (Some x)) ≡ put nat_cmp k x (entries_from from xs)
put_from from [] i k x e l = absurd (omega arith)
put_from {X} from (None ∷ xs) zero k x e l =
    let same : k ≡ from = omega arith in
    subst (λ (j : ℕ). (from, x) ∷ entries_from (from + 1) xs ≡ put nat_cmp j x (entries_from (from + 1) xs)) (sym same) (sym (put_front (from + 1) from x xs (omega arith)))
put_from from (Some y ∷ xs) zero k x e l =
    let same : k ≡ from = omega arith in
    sym (ap (λ o. by_order o ((k, x) ∷ (from, y) ∷ entries_from (from + 1) xs) ((from, x) ∷ entries_from (from + 1) xs) ((from, y) ∷ put nat_cmp k x (entries_from (from + 1) xs))) (sym (nat_cmp_is k from Equal same)))
put_from from (None ∷ xs) (suc i) k x e l = put_from (from + 1) xs i k x (omega arith) (omega arith)
put_from from (Some y ∷ xs) (suc i) k x e l =
    let above : from < k = omega arith in
    ap (λ es. (from, y) ∷ es) (put_from (from + 1) xs i k x (omega arith) (omega arith))
    ∙ sym (ap (λ o. by_order o ((k, x) ∷ (from, y) ∷ entries_from (from + 1) xs) ((from, x) ∷ entries_from (from + 1) xs) ((from, y) ∷ put nat_cmp k x (entries_from (from + 1) xs))) (sym (nat_cmp_is k from Greater above)))

-- a write of a place is one `put`
pub entries-set_some : {X : Type 0} (xs : List (Option X)) (k : ℕ) (x : X) → k < length xs → entries_of (set xs k (Some x)) ≡ put nat_cmp k x (entries_of xs)
entries-set_some xs k x l = put_from 0 xs k k x (omega arith) l

without_below : {X : Type 0} (from k : ℕ) (xs : List (Option X)) → k < from → without k (entries_from from xs) ≡ entries_from from xs
without_below from k [] l = refl
without_below from k (None ∷ xs) l = without_below (from + 1) k xs (omega arith)
without_below from k (Some x ∷ xs) l =
    ap (λ o. cond (not (is_eq o)) ((from, x) ∷ without k (entries_from (from + 1) xs)) (without k (entries_from (from + 1) xs))) (sym (nat_cmp_is k from Less l))
    ∙ ap (λ es. (from, x) ∷ es) (without_below (from + 1) k xs (omega arith))

without_from : {X : Type 0} (from : ℕ) (xs : List (Option X)) (i k : ℕ) → k ≡ from + i → entries_from from (set xs i None) ≡ without k (entries_from from xs)
without_from from [] i k e = refl
without_from from (None ∷ xs) zero k e = sym (without_below (from + 1) k xs (omega arith))
without_from from (Some x ∷ xs) zero k e =
    let same : k ≡ from = omega arith in
    sym (ap (λ o. cond (not (is_eq o)) ((from, x) ∷ without k (entries_from (from + 1) xs)) (without k (entries_from (from + 1) xs))) (sym (nat_cmp_is k from Equal same)) ∙ without_below (from + 1) k xs (omega arith))
without_from from (None ∷ xs) (suc i) k e = without_from (from + 1) xs i k (omega arith)
without_from from (Some x ∷ xs) (suc i) k e =
    let above : from < k = omega arith in
    ap (λ es. (from, x) ∷ es) (without_from (from + 1) xs i k (omega arith))
    ∙ sym (ap (λ o. cond (not (is_eq o)) ((from, x) ∷ without k (entries_from (from + 1) xs)) (without k (entries_from (from + 1) xs))) (sym (nat_cmp_is k from Greater above)))

-- a place that is emptied is one removal
pub entries-set_none : {X : Type 0} (xs : List (Option X)) (k : ℕ) → entries_of (set xs k None) ≡ without k (entries_of xs)
entries-set_none xs k = without_from 0 xs k k (omega arith)

-- one more element of a count
pub count_by-cons : {X : Type 0} (p : X → Bool) (x : X) (xs : List X) → count_by p (x ∷ xs) ≡ cond (p x) 1 0 + count_by p xs
count_by-cons p x xs = sum_by-cons (λ y. cond (p y) 1 0) x xs

pub count_by-map : {X Y : Type 0} (p : Y → Bool) (f : X → Y) (xs : List X) → count_by p (map f xs) ≡ count_by (λ x. p (f x)) xs
count_by-map p f [] = refl
count_by-map p f (x ∷ xs) = count_by-cons p (f x) (map f xs) ∙ ap (λ n. cond (p (f x)) 1 0 + n) (count_by-map p f xs) ∙ sym (count_by-cons (λ y. p (f y)) x xs)

pub count_by-set : {X : Type 0} (p : X → Bool) (xs : List X) (i : ℕ) (y d : X) → i < length xs → count_by p (set xs i y) + cond (p (get_or xs i d)) 1 0 ≡ count_by p xs + cond (p y) 1 0
count_by-set p xs i y d l = sum_by-set (λ x. cond (p x) 1 0) xs i y d l

-- how many entries there are, and how many pass a test
pub length-entries : {X : Type 0} (from : ℕ) (xs : List (Option X)) → length (entries_from from xs) ≡ count_by (λ (o : Option X). is_some o) xs
length-entries from [] = refl
length-entries {X} from (None ∷ xs) = length-entries (from + 1) xs
length-entries {X} from (Some x ∷ xs) =
    let rest : length (entries_from (from + 1) xs) ≡ count_by (λ (o : Option X). is_some o) xs = length-entries (from + 1) xs in
    let more : count_by (λ (o : Option X). is_some o) (Some x ∷ xs) ≡ 1 + count_by (λ (o : Option X). is_some o) xs = count_by-cons (λ (o : Option X). is_some o) (Some x) xs in
    omega arith

pub count_by-entries : {X : Type 0} (p : X → Bool) (from : ℕ) (xs : List (Option X)) → count_by (λ (e : ℕ × X). p e.1) (entries_from from xs) ≡ count_by (λ (o : Option X). option_map_or p o false) xs
count_by-entries p from [] = refl
count_by-entries {X} p from (None ∷ xs) = count_by-entries p (from + 1) xs
count_by-entries {X} p from (Some x ∷ xs) =
    count_by-cons (λ (e : ℕ × X). p e.1) (from, x) (entries_from (from + 1) xs)
    ∙ ap (λ n. cond (p x) 1 0 + n) (count_by-entries p (from + 1) xs)
    ∙ sym (count_by-cons (λ (o : Option X). option_map_or p o false) (Some x) xs)

-- where something passes a test, there is a first one that does
none_passes : {X : Type 0} (p : X → Bool) (xs : List X) → length xs ≤ position_or_len p xs → count_by p xs ≡ 0
none_passes p [] l = refl
none_passes p (x ∷ xs) l = by (p x) refl (λ m. none_passes p xs m)
  where
    by : (b : Bool) → p x ≡ b → (length xs ≤ position_or_len p xs → count_by p xs ≡ 0) → count_by p (x ∷ xs) ≡ 0
    by true e later =
        let short : suc (length xs) ≤ cond (not true) (1 + position_or_len p xs) 0 = subst (λ (b : Bool). suc (length xs) ≤ cond (not b) (1 + position_or_len p xs) 0) e l in
        absurd (omega arith)
    by false e later =
        let long : suc (length xs) ≤ cond (not false) (1 + position_or_len p xs) 0 = subst (λ (b : Bool). suc (length xs) ≤ cond (not b) (1 + position_or_len p xs) 0) e l in
        count_by-cons p x xs ∙ ap (λ b. cond b 1 0 + count_by p xs) e ∙ (let rest : count_by p xs ≡ 0 = later (omega arith) in omega arith)

-- where no place passes, none is counted
pub position_none : {X : Type 0} (p : X → Bool) (xs : List X) → position p xs ≡ None → count_by p xs ≡ 0
position_none p xs e = by (nat_lt (position_or_len p xs) (length xs)) refl
  where
    by : (b : Bool) → nat_lt (position_or_len p xs) (length xs) ≡ b → count_by p xs ≡ 0
    by true t = let none : cond true (Some (position_or_len p xs)) None ≡ None = ap (λ b. cond b (Some (position_or_len p xs)) None) (sym t) ∙ e in cc
    by false t =
        let past : length xs ≤ position_or_len p xs = grind (arith, nat_tests) in
        none_passes p xs past

pub position_there : {X : Type 0} (p : X → Bool) (xs : List X) → 0 < count_by p xs → position p xs ≡ None → ⊥
position_there p xs l e = let zero_is : count_by p xs ≡ 0 = position_none p xs e in omega arith

-- the numbers of the map ascend
above_all : {X : Type 0} (low from : ℕ) (xs : List (Option X)) → low < from → AllByRecursion (λ k. nat_cmp low k ≡ Less) (keys_of (entries_from from xs))
above_all low from [] l = tt
above_all low from (None ∷ xs) l = above_all low (from + 1) xs (omega arith)
above_all low from (Some x ∷ xs) l = (sym (nat_cmp_is low from Less l), above_all low (from + 1) xs (omega arith))

pub entries_ascend : {X : Type 0} (from : ℕ) (xs : List (Option X)) → IsStrictlySortedBy nat_cmp (keys_of (entries_from from xs))
unfolding IsStrictlySortedBy
entries_ascend from [] = tt
entries_ascend from (None ∷ xs) = entries_ascend (from + 1) xs
entries_ascend from (Some x ∷ xs) = (above_all from (from + 1) xs (omega arith), entries_ascend (from + 1) xs)
