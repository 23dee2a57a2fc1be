-- What a step of a move makes of the two chains: no record is lost, and each lies where it belongs.
use Rattle.std.proofs.Common.{◌≡◌, ℕ, ◌+◌, ◌-◌, ◌≤◌, Bool, true, false, cond, not, ◌||◌, List, [], ◌∷◌, ◌++◌, length, map, take, drop, refl, sym, ap, subst, ◌∙◌, append_assoc, append-nil, inl, inr, arith}
use Rattle.std.specs.Prelude.{◌==◌, All, filter, nat_le, nat_lt, slice_index}
use Rattle.std.specs.List.{list_any}
use Rattle.std.specs.List.Sorted.{IsPermutation}
use Rattle.std.proofs.lemmas.Bool.{ne_eqb, not-true, leb-true, leb-false, ltb-true, ltb-false, and_parts, and_cases, or_parts, cond_both}
use Rattle.std.proofs.lemmas.List.{take_all, take-append-drop, length-drop}
use Rattle.std.proofs.lemmas.List.Concat.{flat_map-append}
use Rattle.std.proofs.lemmas.List.Elements.{All-nil, All-cons, All-head, All-tail, All-append, All-weaker, All-take, All-drop, All-map}
use Rattle.std.proofs.lemmas.List.Sorted.{IsPermutation-refl, IsPermutation-trans, IsPermutation-append_left, IsPermutation-append_right, IsPermutation-append_comm, All-permutation}
use Rattle.table_block.specs.Records.{Record, records_size}
use Rattle.table_block.specs.Slots.{slot_of}
use Rattle.slot_split.specs.declared.plans.MovePlan.{MovePlan}
use Rattle.slot_split.specs.Packing.{packed}
use Rattle.slot_split.specs.Plans.{moves, stays, all_records, moving, rests, is_empty, move_plan_of, IsNewBlock}
use Rattle.slot_split.specs.Tables.{TableBlock, chain_records, records_in}
use Rattle.slot_split.specs.Turns.{last_block, old_last, numbered, left_chain, right_chain}
use Rattle.slot_split.specs.Well.{LiesIn}
use Rattle.slot_split.proofs.Parts.{filter-all, filter_size}
use Rattle.slot_split.proofs.PackedLaws.{with_records_keep}
use Rattle.slot_split.proofs.PlanLaws.{none_moving, some_moving, is_empty-some, plan_none, parted, new_blocks}
use Rattle.slot_split.proofs.ChainLaws.{IsGood, is_empty-nil, not_empty, records_in-is}
use Rattle.slot_split.proofs.TableLaws.{All-split}

-- the plan of a step between these two chains
abbrev pub chains_plan : ℕ → ℕ → ℕ → List TableBlock → List TableBlock → MovePlan
chains_plan size from to left right = move_plan_of size from to (chain_records left) (all_records (chain_records (last_block right)))

abbrev pub moves_any : ℕ → ℕ → List TableBlock → Bool
moves_any from to chain = list_any (list_any (moves from to)) (chain_records chain)

-- ---- the left chain keeps what stays

abbrev staying : ℕ → ℕ → List TableBlock → List Record
staying from to chain = all_records (map (filter (stays from to)) (chain_records chain))

left-records : (from to : ℕ) (numbers : List ℕ) (chain : List TableBlock) → records_in (left_chain from to numbers chain) ≡ staying from to chain
left-records from to numbers [] = refl
left-records from to numbers (b ∷ chain) =
    by (list_any (moves from to) b.records) (is_empty (filter (stays from to) b.records)) refl refl (λ numbers. left-records from to numbers chain)
  where
    by : (t u : Bool) → list_any (moves from to) b.records ≡ t → is_empty (filter (stays from to) b.records) ≡ u
        → ((numbers : List ℕ) → records_in (left_chain from to numbers chain) ≡ staying from to chain)
        → records_in (cond t (cond u (left_chain from to numbers chain)
        (record { block = slice_index numbers 0; records = filter (stays from to) b.records } ∷ left_chain from to (drop 1 numbers) chain))
        (b ∷ left_chain from to numbers chain)) ≡ filter (stays from to) b.records ++ staying from to chain
    by true true some nil later = later numbers ∙ ap (λ (rs : List Record). rs ++ staying from to chain) (sym (is_empty-nil (filter (stays from to) b.records) nil))
    by true false some left later = ap (λ (rs : List Record). filter (stays from to) b.records ++ rs) (later (drop 1 numbers))
    by false u none nil later = (λ i. sym (filter-all (moves from to) b.records none) i ++ later numbers i)

left-none : (from to : ℕ) (numbers : List ℕ) (chain : List TableBlock) → moves_any from to chain ≡ false → left_chain from to numbers chain ≡ chain
left-none from to numbers [] none = refl
left-none from to numbers (b ∷ chain) none =
    let parts = or_parts (list_any (moves from to) b.records) (moves_any from to chain) none in
    ap (λ (t : Bool). cond t (cond (is_empty (filter (stays from to) b.records)) (left_chain from to numbers chain)
    (record { block = slice_index numbers 0; records = filter (stays from to) b.records } ∷ left_chain from to (drop 1 numbers) chain))
    (b ∷ left_chain from to numbers chain)) parts.0
    ∙ ap (λ (bs : List TableBlock). b ∷ bs) (left-none from to numbers chain parts.1)

-- each keeps a record, and has no more bytes than it had
pub left-good : (size from to : ℕ) (numbers : List ℕ) (chain : List TableBlock) → All (IsGood size) chain → All (IsGood size) (left_chain from to numbers chain)
left-good size from to numbers [] good = good
left-good size from to numbers (b ∷ chain) good =
    by (list_any (moves from to) b.records) (is_empty (filter (stays from to) b.records)) refl
    (λ numbers. left-good size from to numbers chain (All-tail (IsGood size) b chain good)) (All-head (IsGood size) b chain good)
  where
    by : (t u : Bool) → is_empty (filter (stays from to) b.records) ≡ u
        → ((numbers : List ℕ) → All (IsGood size) (left_chain from to numbers chain)) → IsNewBlock size b.records
        → All (IsGood size) (cond t (cond u (left_chain from to numbers chain)
        (record { block = slice_index numbers 0; records = filter (stays from to) b.records } ∷ left_chain from to (drop 1 numbers) chain))
        (b ∷ left_chain from to numbers chain))
    by true true nil later here = later numbers
    by true false left later here =
        All-cons (IsGood size) (record { block = slice_index numbers 0; records = filter (stays from to) b.records }) (left_chain from to (drop 1 numbers) chain)
        (record {
          some = not_empty (filter (stays from to) b.records) (ap not left);
          within = omega (arith, filter_size (stays from to) b.records, here.within);
        })
        (later (drop 1 numbers))
    by false u nil later here = All-cons (IsGood size) b (left_chain from to numbers chain) here (later numbers)

-- ---- the right chain has what moves, besides

rests_some : (from to at : ℕ) (chain : List (List Record)) → list_any (list_any (moves from to)) chain ≡ true → 1 ≤ length (rests from to at chain)
rests_some from to at [] some = cc
rests_some from to at (block ∷ chain) some =
    by (list_any (moves from to) block) some (λ later. rests_some from to (at + 1) chain later)
  where
    by : (t : Bool) → (t || list_any (list_any (moves from to)) chain) ≡ true
        → (list_any (list_any (moves from to)) chain ≡ true → 1 ≤ length (rests from to (at + 1) chain))
        → 1 ≤ length (cond t (record { at = at; kept = filter (stays from to) block } ∷ rests from to (at + 1) chain) (rests from to (at + 1) chain))
    by true some later = omega arith
    by false some later = later some

-- the old last block, and those in front of it
pub front_last : (plan : MovePlan) (chain : List TableBlock) → take (length chain - length (old_last plan chain)) chain ++ old_last plan chain ≡ chain
front_last plan chain =
    elim (0 == length plan.left) as (λ t. take (length chain - length (cond t [] (last_block chain))) chain ++ cond t [] (last_block chain) ≡ chain) [
      | true ↦ append-nil (take (length chain - 0) chain) ∙ take_all (length chain - 0) chain (omega arith)
      | false ↦
          let count : length chain - length (last_block chain) ≡ length chain - 1 = omega (arith, length-drop (length chain - 1) chain) in
          ap (λ (n : ℕ). take n chain ++ last_block chain) count ∙ take-append-drop (length chain - 1) chain
    ]

pub numbered-records : (numbers : List ℕ) (blocks : List (List Record)) → length blocks ≤ length numbers → chain_records (numbered numbers blocks) ≡ blocks
numbered-records [] [] enough = refl
numbered-records (n ∷ numbers) [] enough = refl
numbered-records [] (b ∷ blocks) enough = absurd (omega arith)
numbered-records (n ∷ numbers) (b ∷ blocks) enough = ap (λ (bs : List (List Record)). b ∷ bs) (numbered-records numbers blocks (omega arith))

numbered-nil : (numbers : List ℕ) → numbered numbers [] ≡ []
numbered-nil [] = refl
numbered-nil (n ∷ numbers) = refl

right-records : (size from to : ℕ) (numbers : List ℕ) (left right : List TableBlock)
    → length (chains_plan size from to left right).right ≤ length numbers
    → IsPermutation (records_in right ++ moving from to (chain_records left)) (records_in (right_chain (chains_plan size from to left right) numbers right))
right-records size from to numbers left right enough = by (moves_any from to left) refl
  where
    by : (t : Bool) → moves_any from to left ≡ t
        → IsPermutation (records_in right ++ moving from to (chain_records left)) (records_in (right_chain (chains_plan size from to left right) numbers right))
    by true some =
        let last = all_records (chain_records (last_block right)) in
        let plan = chains_plan size from to left right in
        let go = moving from to (chain_records left) in
        let old : old_last plan right ≡ last_block right =
        ap (λ (t : Bool). cond t [] (last_block right)) (ne_eqb 0 (length plan.left) (λ none. absurd (omega (arith, none, rests_some from to 0 (chain_records left) some)))) in
        let front = take (length right - length (old_last plan right)) right in
        let parts : records_in right ≡ records_in front ++ last =
        ap records_in (sym (front_last plan right)) ∙ flat_map-append (λ (b : TableBlock). b.records) front (old_last plan right)
        ∙ ap (λ (rs : List Record). records_in front ++ rs) (ap records_in old ∙ sym (records_in-is (last_block right))) in
        let new : records_in (numbered numbers plan.right) ≡ all_records plan.right =
        sym (records_in-is (numbered numbers plan.right)) ∙ ap all_records (numbered-records numbers plan.right enough) in
        let is : plan.right ≡ packed size (last ++ go) =
        ap (λ (b : Bool). cond b [] (packed size (last ++ go))) (is_empty-some go (some_moving from to (chain_records left) some)) in
        let kept : IsPermutation (records_in front ++ (last ++ go)) (records_in front ++ all_records (packed size (last ++ go))) =
        IsPermutation-append_right (records_in front) (last ++ go) (all_records (packed size (last ++ go))) (with_records_keep size [] (last ++ go)) in
        coe 1 0 (i. IsPermutation ((ap (λ (rs : List Record). rs ++ go) parts ∙ append_assoc (records_in front) last go) i)
        ((flat_map-append (λ (b : TableBlock). b.records) front (numbered numbers plan.right)
        ∙ ap (λ (rs : List Record). records_in front ++ rs) (new ∙ ap all_records is)) i)) kept
    by false none =
        let plan = chains_plan size from to left right in
        let is = plan_none size from to (chain_records left) (all_records (chain_records (last_block right))) none in
        let go : moving from to (chain_records left) ≡ [] = (none_moving from to 0 (chain_records left) none).0 in
        let now : right_chain plan numbers right ≡ right =
        ap (λ (p : MovePlan). right_chain p numbers right) is
        ∙ (λ i. take_all (length right - 0) right (omega arith) i ++ numbered-nil numbers i) ∙ append-nil right in
        coe 1 0 (i. IsPermutation ((ap (λ (rs : List Record). records_in right ++ rs) go ∙ append-nil (records_in right)) i) (records_in (now i)))
        (IsPermutation-refl (records_in right))

-- ---- no record is lost

pub step-records : (size from to : ℕ) (ns ms : List ℕ) (left right : List TableBlock)
    → length (chains_plan size from to left right).right ≤ length ms
    → IsPermutation (records_in left ++ records_in right)
    (records_in (left_chain from to ns left) ++ records_in (right_chain (chains_plan size from to left right) ms right))
step-records size from to ns ms left right enough =
    let go = moving from to (chain_records left) in
    let stay = staying from to left in
    let was = records_in right in
    let now = records_in (right_chain (chains_plan size from to left right) ms right) in
    let first : IsPermutation (records_in left) (stay ++ go) =
    IsPermutation-trans (records_in left) (go ++ stay) (stay ++ go)
    (subst (λ (rs : List Record). IsPermutation rs (go ++ stay)) (records_in-is left) (parted from to (chain_records left)))
    (IsPermutation-append_comm go stay) in
    let second : IsPermutation (go ++ was) now =
    IsPermutation-trans (go ++ was) (was ++ go) now (IsPermutation-append_comm go was) (right-records size from to ms left right enough) in
    let all : IsPermutation (records_in left ++ was) (stay ++ now) =
    IsPermutation-trans (records_in left ++ was) ((stay ++ go) ++ was) (stay ++ now)
    (IsPermutation-append_left was (records_in left) (stay ++ go) first)
    (subst (λ (rs : List Record). IsPermutation rs (stay ++ now)) (sym (append_assoc stay go was)) (IsPermutation-append_right stay (go ++ was) now second)) in
    subst (λ (rs : List Record). IsPermutation (records_in left ++ was) (rs ++ now)) (sym (left-records from to ns left)) all

-- ---- each lies where it belongs

stays-below : (lo from to : ℕ) (r : Record) → LiesIn lo to r → stays from to r ≡ true → LiesIn lo from r
stays-below lo from to r lies stay =
    elim (and_cases (nat_le from (slot_of r.0)) (nat_lt (slot_of r.0) to) (not-true (moves from to r) stay)) [
      | inl below ↦ record { above = lies.above; below = leb-false from (slot_of r.0) below }
      | inr above ↦ absurd (let past = ltb-false (slot_of r.0) to above in omega (arith, past, lies.below))
    ]

moves-between : (from to : ℕ) (r : Record) → moves from to r ≡ true → LiesIn from to r
moves-between from to r move =
    let parts = and_parts (nat_le from (slot_of r.0)) (nat_lt (slot_of r.0) to) move in
    record { above = leb-true from (slot_of r.0) parts.0; below = ltb-true (slot_of r.0) to parts.1 }

-- those that pass a test, of which each that passes has a property
All-passing : {X : Type 0} (P Q : X → Type 0) (p : X → Bool) → ((x : X) → P x → p x ≡ true → Q x) → (xs : List X) → All P xs → All Q (filter p xs)
All-passing P Q p then [] all = All-nil Q
All-passing P Q p then (x ∷ xs) all =
    let more = All-passing P Q p then xs (All-tail P x xs all) in
    let here = All-head P x xs all in
    cond_both (p x) (x ∷ filter p xs) (filter p xs) (All Q) (λ pass. All-cons Q x (filter p xs) (then x here pass) more) (λ fail. more)

pub left-lies : (lo from to : ℕ) (numbers : List ℕ) (chain : List TableBlock) → All (LiesIn lo to) (records_in chain)
    → All (LiesIn lo from) (records_in (left_chain from to numbers chain))
left-lies lo from to numbers chain own =
    subst (λ (rs : List Record). All (LiesIn lo from) rs) (sym (left-records from to numbers chain)) (over chain own)
  where
    over : (chain : List TableBlock) → All (LiesIn lo to) (records_in chain) → All (LiesIn lo from) (staying from to chain)
    over [] own = All-nil (LiesIn lo from)
    over (b ∷ chain) own =
        let parts = All-split (LiesIn lo to) b.records (records_in chain) own in
        All-append (LiesIn lo from) (filter (stays from to) b.records) (staying from to chain)
        (All-passing (LiesIn lo to) (LiesIn lo from) (stays from to) (stays-below lo from to) b.records parts.0) (over chain parts.1)

moving-lies : (from to : ℕ) (chain : List TableBlock) → All (LiesIn from to) (moving from to (chain_records chain))
moving-lies from to [] = All-nil (LiesIn from to)
moving-lies from to (b ∷ chain) =
    All-append (LiesIn from to) (filter (moves from to) b.records) (moving from to (chain_records chain))
    (All-passing (λ r. Unit {0}) (LiesIn from to) (moves from to) (λ r any move. moves-between from to r move) b.records (λ k d within. tt))
    (moving-lies from to chain)

pub right-lies : (size from to hi : ℕ) (numbers : List ℕ) (left right : List TableBlock) → from ≤ to → to ≤ hi
    → length (chains_plan size from to left right).right ≤ length numbers → All (LiesIn to hi) (records_in right)
    → All (LiesIn from hi) (records_in (right_chain (chains_plan size from to left right) numbers right))
right-lies size from to hi numbers left right low high enough own =
    All-permutation (LiesIn from hi) (records_in right ++ moving from to (chain_records left))
    (records_in (right_chain (chains_plan size from to left right) numbers right)) (right-records size from to numbers left right enough)
    (All-append (LiesIn from hi) (records_in right) (moving from to (chain_records left))
    (All-weaker (LiesIn to hi) (LiesIn from hi) (λ r lies. record { above = omega (arith, lies.above); below = lies.below }) (records_in right) own)
    (All-weaker (LiesIn from to) (LiesIn from hi) (λ r lies. record { above = lies.above; below = omega (arith, lies.below) })
    (moving from to (chain_records left)) (moving-lies from to left)))

-- ---- the right chain's blocks can be written

last-within : (size : ℕ) (chain : List TableBlock) → length chain ≤ 1 → All (IsGood size) chain → records_size (all_records (chain_records chain)) ≤ size
last-within size [] few good = omega arith
last-within size (b ∷ []) few good =
    let here : IsNewBlock size b.records = All-head (IsGood size) b [] good in
    omega (arith, ap records_size (append-nil b.records), here.within)
last-within size (b ∷ c ∷ chain) few good = absurd (omega arith)

pub numbered-good : (size : ℕ) (numbers : List ℕ) (blocks : List (List Record)) → All (IsNewBlock size) blocks → All (IsGood size) (numbered numbers blocks)
numbered-good size [] blocks new = All-nil (IsGood size)
numbered-good size (n ∷ numbers) [] new = All-nil (IsGood size)
numbered-good size (n ∷ numbers) (b ∷ blocks) new =
    All-cons (IsGood size) (record { block = n; records = b }) (numbered numbers blocks) (All-head (IsNewBlock size) b blocks new)
    (numbered-good size numbers blocks (All-tail (IsNewBlock size) b blocks new))

pub right-good : (size from to : ℕ) (numbers : List ℕ) (left right : List TableBlock) → All (IsGood size) left → All (IsGood size) right
    → All (IsGood size) (right_chain (chains_plan size from to left right) numbers right)
right-good size from to numbers left right good_left good_right =
    let plan = chains_plan size from to left right in
    let last = last_block right in
    let within : All (λ block. records_size block ≤ size) (chain_records left) =
    All-map (λ (block : List Record). records_size block ≤ size) (λ (b : TableBlock). b.records) left
    (All-weaker (IsGood size) (λ (b : TableBlock). records_size b.records ≤ size) (λ b good. good.within) left good_left) in
    All-append (IsGood size) (take (length right - length (old_last plan right)) right) (numbered numbers plan.right)
    (All-take (IsGood size) (length right - length (old_last plan right)) right good_right)
    (numbered-good size numbers plan.right
    (new_blocks size from to (chain_records left) (all_records (chain_records last)) within
    (last-within size last (omega (arith, length-drop (length right - 1) right)) (All-drop (IsGood size) (length right - 1) right good_right))))
