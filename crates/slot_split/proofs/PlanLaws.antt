-- What a plan of a move comes to, block by block, and that it keeps the records.
use Rattle.std.proofs.Common.{◌≡◌, ℕ, ◌+◌, ◌<◌, ◌≤◌, Bool, true, false, cond, ◌||◌, List, [], ◌∷◌, ◌++◌, length, get_or, map, take, refl, sym, ap, subst, ◌∙◌, append_assoc, append-nil, length-append, eq-eqb, arith}
use Rattle.std.specs.Prelude.{All, filter}
use Rattle.std.specs.List.{list_any}
use Rattle.std.specs.List.Sorted.{IsPermutation}
use Rattle.std.proofs.lemmas.Bool.{ne_eqb}
use Rattle.std.proofs.lemmas.List.{length-take-le, take_more}
use Rattle.std.proofs.lemmas.List.Concat.{flat_map-append}
use Rattle.std.proofs.lemmas.List.Elements.{All-nil, All-cons, All-head, All-tail, All-append}
use Rattle.std.proofs.lemmas.List.Sorted.{IsPermutation-refl, IsPermutation-trans, IsPermutation-append, IsPermutation-append_left, IsPermutation-append_right, IsPermutation-append_comm, IsPermutation-filter_both}
use Rattle.table_block.specs.Records.{Record, record_size, records_size}
use Rattle.slot_split.specs.declared.plans.Rest.{Rest}
use Rattle.slot_split.specs.Packing.{with_records, packed}
use Rattle.slot_split.specs.Plans.{moves, stays, all_records, moving, rests, is_empty, move_plan_of, with_rests, with_new, KeepsRecords, IsNewBlock}
use Rattle.slot_split.proofs.Parts.{each_within, filter_size, filter-none, filter-all, filter-some}
use Rattle.slot_split.proofs.PackingLaws.{with_records-append}
use Rattle.slot_split.proofs.PackedLaws.{with_records_keep, with_records_new, packed_some}

-- one block more
abbrev pub next_rest : ℕ → ℕ → ℕ → List Record → List Rest
next_rest from to at block = cond (list_any (moves from to) block) (record { at = at; kept = filter (stays from to) block } ∷ []) []

rests-push : (from to at : ℕ) (chain : List (List Record)) (block : List Record)
    → rests from to at (chain ++ block ∷ []) ≡ rests from to at chain ++ next_rest from to (at + length chain) block
rests-push from to at [] block = ap (λ (n : ℕ). next_rest from to n block) (omega arith)
rests-push from to at (b ∷ chain) block =
    let more : rests from to (at + 1) (chain ++ block ∷ []) ≡ rests from to (at + 1) chain ++ next_rest from to (at + length (b ∷ chain)) block =
    rests-push from to (at + 1) chain block ∙ ap (λ (n : ℕ). rests from to (at + 1) chain ++ next_rest from to n block) (omega arith) in
    elim (list_any (moves from to) b) as (λ t. cond t (record { at = at; kept = filter (stays from to) b } ∷ rests from to (at + 1) (chain ++ block ∷ [])) (rests from to (at + 1) (chain ++ block ∷ []))
    ≡ cond t (record { at = at; kept = filter (stays from to) b } ∷ rests from to (at + 1) chain) (rests from to (at + 1) chain) ++ next_rest from to (at + length (b ∷ chain)) block) [
      | true ↦ ap (λ (rs : List Rest). record { at = at; kept = filter (stays from to) b } ∷ rs) more
      | false ↦ more
    ]

-- where no block holds a record that moves, none is moving and no block is left out
pub none_moving : (from to at : ℕ) (chain : List (List Record)) → list_any (list_any (moves from to)) chain ≡ false
    → (moving from to chain ≡ []) × (rests from to at chain ≡ [])
none_moving from to at [] none = (refl, refl)
none_moving from to at (block ∷ chain) none =
    by (list_any (moves from to) block) refl none (λ later. none_moving from to (at + 1) chain later)
  where
    by : (t : Bool) → list_any (moves from to) block ≡ t → (t || list_any (list_any (moves from to)) chain) ≡ false
        → (list_any (list_any (moves from to)) chain ≡ false → (moving from to chain ≡ []) × (rests from to (at + 1) chain ≡ []))
        → (filter (moves from to) block ++ moving from to chain ≡ [])
        × (cond t (record { at = at; kept = filter (stays from to) block } ∷ rests from to (at + 1) chain) (rests from to (at + 1) chain) ≡ [])
    by true some none later = absurd (cc)
    by false here none later =
        let more = later none in
        ((λ i. filter-none (moves from to) block here i ++ more.0 i), more.1)

-- else some are
pub some_moving : (from to : ℕ) (chain : List (List Record)) → list_any (list_any (moves from to)) chain ≡ true → 1 ≤ length (moving from to chain)
some_moving from to [] some = cc
some_moving from to (block ∷ chain) some = by (list_any (moves from to) block) refl some (λ later. some_moving from to chain later)
  where
    by : (t : Bool) → list_any (moves from to) block ≡ t → (t || list_any (list_any (moves from to)) chain) ≡ true
        → (list_any (list_any (moves from to)) chain ≡ true → 1 ≤ length (moving from to chain))
        → 1 ≤ length (filter (moves from to) block ++ moving from to chain)
    by true here some later =
        omega (arith, filter-some (moves from to) block here, length-append (filter (moves from to) block) (moving from to chain))
    by false none some later =
        omega (arith, later some, length-append (filter (moves from to) block) (moving from to chain))

pub is_empty-some : (rs : List Record) → 1 ≤ length rs → is_empty rs ≡ false
is_empty-some [] some = absurd (omega arith)
is_empty-some (r ∷ rs) some = refl

moving-push : (from to : ℕ) (chain : List (List Record)) (block : List Record)
    → moving from to (chain ++ block ∷ []) ≡ moving from to chain ++ filter (moves from to) block
moving-push from to chain block =
    flat_map-append (filter (moves from to)) chain (block ∷ [])
    ∙ ap (λ (rs : List Record). moving from to chain ++ rs) (append-nil (filter (moves from to) block))

-- so a step along a chain
abbrev pub IsBlockAt : List (List Record) → ℕ → List Record → Type 0
IsBlockAt chain i block = (i < length chain) × (block ≡ get_or chain i block)

pub rests-next : (from to : ℕ) (chain : List (List Record)) (i : ℕ) (block : List Record) (b : Bool) → IsBlockAt chain i block
    → list_any (moves from to) block ≡ b
    → rests from to 0 (take (i + 1) chain)
    ≡ rests from to 0 (take i chain) ++ cond b (record { at = i; kept = filter (stays from to) block } ∷ []) []
rests-next from to chain i block b at test =
    let place : 0 + length (take i chain) ≡ i = omega (arith, at.0, length-take-le i chain) in
    ap (rests from to 0) (take_more chain i block at.0 ∙ ap (λ (b : List Record). take i chain ++ b ∷ []) (sym at.1))
    ∙ rests-push from to 0 (take i chain) block
    ∙ (λ j. rests from to 0 (take i chain) ++ cond (test j) (record { at = place j; kept = filter (stays from to) block } ∷ []) [])

pub moving-next : (from to : ℕ) (chain : List (List Record)) (i : ℕ) (block : List Record) → IsBlockAt chain i block
    → moving from to (take (i + 1) chain) ≡ moving from to (take i chain) ++ filter (moves from to) block
moving-next from to chain i block at =
    ap (moving from to) (take_more chain i block at.0 ∙ ap (λ (b : List Record). take i chain ++ b ∷ []) (sym at.1))
    ∙ moving-push from to (take i chain) block

-- ---- the plan, by whether a record moves

pub plan_none : (size from to : ℕ) (left : List (List Record)) (last : List Record) → list_any (list_any (moves from to)) left ≡ false
    → move_plan_of size from to left last ≡ record { left = []; right = [] }
plan_none size from to left last none =
    let it = none_moving from to 0 left none in
    (λ i. record { left = it.1 i; right = cond (is_empty (it.0 i)) [] (packed size (last ++ it.0 i)) })

pub plan_some : (size from to : ℕ) (left : List (List Record)) (last : List Record) → list_any (list_any (moves from to)) left ≡ true
    → move_plan_of size from to left last ≡ record { left = rests from to 0 left; right = with_records size (packed size last) (moving from to left) }
plan_some size from to left last some =
    let more = moving from to left in
    let right : cond (is_empty more) [] (packed size (last ++ more)) ≡ with_records size (packed size last) more =
    ap (λ (b : Bool). cond b [] (packed size (last ++ more))) (is_empty-some more (some_moving from to left some)) ∙ with_records-append size [] last more in
    (λ i. record { left = rests from to 0 left; right = right i })

-- ---- no record is lost or doubled

-- a rest's place isn't before the first block of its chain
IsAfter : ℕ → List Rest → Type 0
IsAfter at [] = Unit {0}
IsAfter at (rest ∷ rests) = at ≤ rest.at

rests_after : (from to at : ℕ) (chain : List (List Record)) → IsAfter at (rests from to at chain)
unfolding IsAfter
rests_after from to at [] = tt
rests_after from to at (block ∷ chain) =
    elim (list_any (moves from to) block) as (λ t. IsAfter at (cond t (record { at = at; kept = filter (stays from to) block } ∷ rests from to (at + 1) chain) (rests from to (at + 1) chain))) [
      | true ↦ omega arith
      | false ↦ earlier (rests from to (at + 1) chain) (rests_after from to (at + 1) chain)
    ]
  where
    earlier : (rs : List Rest) → IsAfter (at + 1) rs → IsAfter at rs
    earlier [] after = tt
    earlier (rest ∷ rs) after = omega arith

with_rests-later : (at : ℕ) (rs : List Rest) (block : List Record) (chain : List (List Record)) → IsAfter (at + 1) rs
    → with_rests at rs (block ∷ chain) ≡ block ∷ with_rests (at + 1) rs chain
unfolding IsAfter
with_rests-later at [] block chain after = refl
with_rests-later at (rest ∷ rs) block chain after =
    ap (λ (b : Bool). cond b (rest.kept ∷ with_rests (at + 1) rs chain) (block ∷ with_rests (at + 1) (rest ∷ rs) chain))
    (ne_eqb at rest.at (omega arith))

-- each block keeps those that stay
rested : (from to at : ℕ) (chain : List (List Record)) → with_rests at (rests from to at chain) chain ≡ map (filter (stays from to)) chain
rested from to at [] = refl
rested from to at (block ∷ chain) = by (list_any (moves from to) block) refl (rested from to (at + 1) chain)
  where
    by : (t : Bool) → list_any (moves from to) block ≡ t
        → with_rests (at + 1) (rests from to (at + 1) chain) chain ≡ map (filter (stays from to)) chain
        → with_rests at (cond t (record { at = at; kept = filter (stays from to) block } ∷ rests from to (at + 1) chain) (rests from to (at + 1) chain)) (block ∷ chain)
        ≡ filter (stays from to) block ∷ map (filter (stays from to)) chain
    by true some more =
        ap (λ (b : Bool). cond b (filter (stays from to) block ∷ with_rests (at + 1) (rests from to (at + 1) chain) chain) (block ∷ with_rests (at + 1) (record { at = at; kept = filter (stays from to) block } ∷ rests from to (at + 1) chain) chain)) (eq-eqb at at refl)
        ∙ ap (λ (bs : List (List Record)). filter (stays from to) block ∷ bs) more
    by false none more =
        with_rests-later at (rests from to (at + 1) chain) block chain (rests_after from to (at + 1) chain)
        ∙ (λ i. sym (filter-all (moves from to) block none) i ∷ more i)

four : {X : Type 0} (a b c d : List X) → IsPermutation ((a ++ b) ++ (c ++ d)) ((a ++ c) ++ (b ++ d))
four a b c d =
    let inner : IsPermutation (b ++ (c ++ d)) (c ++ (b ++ d)) =
    subst (λ xs. IsPermutation xs (c ++ (b ++ d))) (append_assoc b c d)
    (subst (λ ys. IsPermutation ((b ++ c) ++ d) ys) (append_assoc c b d) (IsPermutation-append_left d (b ++ c) (c ++ b) (IsPermutation-append_comm b c))) in
    subst (λ xs. IsPermutation xs ((a ++ c) ++ (b ++ d))) (sym (append_assoc a b (c ++ d)))
    (subst (λ ys. IsPermutation (a ++ (b ++ (c ++ d))) ys) (sym (append_assoc a c (b ++ d))) (IsPermutation-append_right a (b ++ (c ++ d)) (c ++ (b ++ d)) inner))

pub parted : (from to : ℕ) (chain : List (List Record)) → IsPermutation (all_records chain) (moving from to chain ++ all_records (map (filter (stays from to)) chain))
parted from to [] = IsPermutation-refl []
parted from to (block ∷ chain) =
    let go = filter (moves from to) block in
    let stay = filter (stays from to) block in
    IsPermutation-trans (block ++ all_records chain) ((go ++ stay) ++ (moving from to chain ++ all_records (map (filter (stays from to)) chain)))
    ((go ++ moving from to chain) ++ (stay ++ all_records (map (filter (stays from to)) chain)))
    (IsPermutation-append block (go ++ stay) (all_records chain) (moving from to chain ++ all_records (map (filter (stays from to)) chain))
    (IsPermutation-filter_both (moves from to) (stays from to) (λ r. refl) block) (parted from to chain))
    (four go stay (moving from to chain) (all_records (map (filter (stays from to)) chain)))

-- the new blocks have the last one's records and those that move
new_records : (size : ℕ) (last more : List Record) → IsPermutation (more ++ last) (all_records (with_new last (cond (is_empty more) [] (packed size (last ++ more)))))
new_records size last [] =
    subst (λ (rs : List Record). IsPermutation last rs) (sym (append-nil last)) (IsPermutation-refl last)
new_records size last (r ∷ more) =
    let all = last ++ r ∷ more in
    let some : 1 ≤ length (packed size all) = packed_some size all (omega (arith, length-append last (r ∷ more))) in
    subst (λ (bs : List (List Record)). IsPermutation ((r ∷ more) ++ last) (all_records bs)) (sym (new (packed size all) some))
    (IsPermutation-trans ((r ∷ more) ++ last) all (all_records (packed size all)) (IsPermutation-append_comm (r ∷ more) last) (with_records_keep size [] all))
  where
    new : (bs : List (List Record)) → 1 ≤ length bs → with_new last bs ≡ bs
    new [] some = absurd (omega arith)
    new (b ∷ bs) some = refl

pub plan_keeps : (size from to : ℕ) (left : List (List Record)) (last : List Record) → KeepsRecords left last (move_plan_of size from to left last)
plan_keeps size from to left last =
    let more = moving from to left in
    let stay = all_records (map (filter (stays from to)) left) in
    let new = all_records (with_new last (cond (is_empty more) [] (packed size (last ++ more)))) in
    subst (λ (bs : List (List Record)). IsPermutation (all_records left ++ last) (all_records bs ++ new)) (sym (rested from to 0 left))
    (IsPermutation-trans (all_records left ++ last) ((stay ++ more) ++ last) (stay ++ new)
    (IsPermutation-append_left last (all_records left) (stay ++ more)
    (IsPermutation-trans (all_records left) (more ++ stay) (stay ++ more) (parted from to left) (IsPermutation-append_comm more stay)))
    (subst (λ (rs : List Record). IsPermutation rs (stay ++ new)) (sym (append_assoc stay more last))
    (IsPermutation-append_right stay (more ++ last) new (new_records size last more))))

-- ---- each block has no more than its bytes

moving_fit : (size from to : ℕ) (chain : List (List Record)) → All (λ block. records_size block ≤ size) chain
    → All (λ r. record_size r ≤ size) (moving from to chain)
moving_fit size from to [] within = All-nil (λ r. record_size r ≤ size)
moving_fit size from to (block ∷ chain) within =
    All-append (λ r. record_size r ≤ size) (filter (moves from to) block) (moving from to chain)
    (each_within size (filter (moves from to) block)
    (let here = All-head (λ block. records_size block ≤ size) block chain within in omega (arith, here, filter_size (moves from to) block)))
    (moving_fit size from to chain (All-tail (λ block. records_size block ≤ size) block chain within))

pub new_blocks : (size from to : ℕ) (left : List (List Record)) (last : List Record) → All (λ block. records_size block ≤ size) left → records_size last ≤ size
    → All (IsNewBlock size) (move_plan_of size from to left last).right
new_blocks size from to left last within last_within = by (is_empty (moving from to left))
  where
    by : (b : Bool) → All (IsNewBlock size) (cond b [] (packed size (last ++ moving from to left)))
    by true = All-nil (IsNewBlock size)
    by false =
        with_records_new size [] (last ++ moving from to left)
        (All-append (λ r. record_size r ≤ size) last (moving from to left) (each_within size last last_within) (moving_fit size from to left within))
        (All-nil (IsNewBlock size))

pub rests_within : (size from to at : ℕ) (chain : List (List Record)) → All (λ block. records_size block ≤ size) chain
    → All (λ rest. records_size rest.kept ≤ size) (rests from to at chain)
rests_within size from to at [] within = All-nil (λ (rest : Rest). records_size rest.kept ≤ size)
rests_within size from to at (block ∷ chain) within =
    let more = rests_within size from to (at + 1) chain (All-tail (λ block. records_size block ≤ size) block chain within) in
    let here = All-head (λ block. records_size block ≤ size) block chain within in
    elim (list_any (moves from to) block) as (λ t. All (λ (rest : Rest). records_size rest.kept ≤ size) (cond t (record { at = at; kept = filter (stays from to) block } ∷ rests from to (at + 1) chain) (rests from to (at + 1) chain))) [
      | true ↦ All-cons (λ (rest : Rest). records_size rest.kept ≤ size) (record { at = at; kept = filter (stays from to) block }) (rests from to (at + 1) chain) (omega (arith, here, filter_size (stays from to) block)) more
      | false ↦ more
    ]
