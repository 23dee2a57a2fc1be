-- The numbers of the blocks after a step of a move: those that were there, without the old ones and with the new.
use Rattle.std.proofs.Common.{◌≡◌, ℕ, zero, suc, ◌+◌, ◌-◌, ◌≤◌, Bool, true, false, cond, not, List, [], ◌∷◌, ◌++◌, length, map, take, drop, refl, sym, ap, subst, ◌∙◌, append_assoc, length-append, arith}
use Rattle.std.specs.Prelude.{◌==◌, All, filter, slice_index}
use Rattle.std.specs.List.{list_any}
use Rattle.std.proofs.lemmas.Bool.{eqb-true}
use Rattle.std.proofs.lemmas.List.{map-append, get_or_at}
use Rattle.std.proofs.lemmas.List.Elements.{All-head, All-tail}
use Rattle.table_block.specs.Records.{Record}
use Rattle.slot_split.specs.declared.plans.Rest.{Rest}
use Rattle.slot_split.specs.declared.plans.MovePlan.{MovePlan}
use Rattle.slot_split.specs.Plans.{moves, stays, rests, is_empty}
use Rattle.slot_split.specs.Tables.{TableBlock, chain_records, chain_numbers}
use Rattle.slot_split.specs.Turns.{old_last, numbered, left_chain, right_chain}
use Rattle.slot_split.specs.Well.{times, AreApart, AreNew}
use Rattle.slot_split.proofs.ChainLaws.{times-cons, times-append}
use Rattle.slot_split.proofs.StepLaws.{front_last}

-- ---- the left chain

-- the numbers of its blocks that hold a record which moves, and what is left in them, where it is any
abbrev pub gone : ℕ → ℕ → List TableBlock → List ℕ
gone from to chain = chain_numbers (filter (λ b. list_any (moves from to) b.records) chain)

abbrev pub kept_of : List Rest → List (List Record)
kept_of rests = filter (λ block. not (is_empty block)) (map (λ rest. rest.kept) rests)

old-numbers : (from to : ℕ) (before : List ℕ) (chain : List TableBlock)
    → map (λ rest. slice_index (before ++ chain_numbers chain) rest.at) (rests from to (length before) (chain_records chain)) ≡ gone from to chain
old-numbers from to before [] = refl
old-numbers from to before (b ∷ chain) =
    let this : slice_index (before ++ b.block ∷ chain_numbers chain) (length before) ≡ b.block =
    get_or_at before b.block (chain_numbers chain) 0 (length before) refl in
    let place : length (before ++ b.block ∷ []) ≡ length before + 1 = length-append before (b.block ∷ []) in
    let more : map (λ (rest : Rest). slice_index (before ++ b.block ∷ chain_numbers chain) rest.at) (rests from to (length before + 1) (chain_records chain))
    ≡ gone from to chain =
    coe 0 1 (i. map (λ (rest : Rest). slice_index (append_assoc before (b.block ∷ []) (chain_numbers chain) i) rest.at)
    (rests from to (place i) (chain_records chain)) ≡ gone from to chain) (old-numbers from to (before ++ b.block ∷ []) chain) in
    elim (list_any (moves from to) b.records) as (λ t.
    map (λ (rest : Rest). slice_index (before ++ b.block ∷ chain_numbers chain) rest.at)
    (cond t (record { at = length before; kept = filter (stays from to) b.records } ∷ rests from to (length before + 1) (chain_records chain))
    (rests from to (length before + 1) (chain_records chain)))
    ≡ chain_numbers (cond t (b ∷ filter (λ b. list_any (moves from to) b.records) chain) (filter (λ b. list_any (moves from to) b.records) chain))) [
      | true ↦ (λ i. this i ∷ more i)
      | false ↦ more
    ]

pub left-old : (from to : ℕ) (chain : List TableBlock)
    → map (λ rest. slice_index (chain_numbers chain) rest.at) (rests from to 0 (chain_records chain)) ≡ gone from to chain
left-old from to chain = old-numbers from to [] chain

pub left-numbers : (n from to at : ℕ) (numbers : List ℕ) (chain : List TableBlock)
    → length (kept_of (rests from to at (chain_records chain))) ≡ length numbers
    → times n (chain_numbers (left_chain from to numbers chain)) + times n (gone from to chain) ≡ times n (chain_numbers chain) + times n numbers
left-numbers n from to at [] [] same = omega arith
left-numbers n from to at (m ∷ numbers) [] same = absurd (omega arith)
left-numbers n from to at numbers (b ∷ chain) same =
    by (list_any (moves from to) b.records) (is_empty (filter (stays from to) b.records)) refl numbers
    (λ numbers same. left-numbers n from to (at + 1) numbers chain same) same
  where
    by : (t u : Bool) → is_empty (filter (stays from to) b.records) ≡ u → (numbers : List ℕ)
        → ((numbers : List ℕ) → length (kept_of (rests from to (at + 1) (chain_records chain))) ≡ length numbers
        → times n (chain_numbers (left_chain from to numbers chain)) + times n (gone from to chain) ≡ times n (chain_numbers chain) + times n numbers)
        → length (kept_of (cond t (record { at = at; kept = filter (stays from to) b.records } ∷ rests from to (at + 1) (chain_records chain))
        (rests from to (at + 1) (chain_records chain)))) ≡ length numbers
        → times n (chain_numbers (cond t (cond u (left_chain from to numbers chain)
        (record { block = slice_index numbers 0; records = filter (stays from to) b.records } ∷ left_chain from to (drop 1 numbers) chain))
        (b ∷ left_chain from to numbers chain)))
        + times n (chain_numbers (cond t (b ∷ filter (λ b. list_any (moves from to) b.records) chain) (filter (λ b. list_any (moves from to) b.records) chain)))
        ≡ times n (b.block ∷ chain_numbers chain) + times n numbers
    by true true nil numbers later same =
        let kept = filter (stays from to) b.records in
        let others = kept_of (rests from to (at + 1) (chain_records chain)) in
        let count = ap (λ (u : Bool). length (cond (not u) (kept ∷ others) others)) nil in
        let more = later numbers (sym count ∙ same) in
        omega (arith, more, times-cons n b.block (chain_numbers chain), times-cons n b.block (gone from to chain))
    by true false some [] later same =
        let kept = filter (stays from to) b.records in
        let others = kept_of (rests from to (at + 1) (chain_records chain)) in
        let count = ap (λ (u : Bool). length (cond (not u) (kept ∷ others) others)) some in
        absurd (omega (arith, count, same))
    by true false some (m ∷ numbers) later same =
        let kept = filter (stays from to) b.records in
        let others = kept_of (rests from to (at + 1) (chain_records chain)) in
        let count = ap (λ (u : Bool). length (cond (not u) (kept ∷ others) others)) some in
        let more = later numbers (omega (arith, count, same)) in
        omega (
          arith,
          more,
          times-cons n b.block (chain_numbers chain),
          times-cons n b.block (gone from to chain),
          times-cons n m numbers,
          times-cons n m (chain_numbers (left_chain from to numbers chain)),
        )
    by false u nil numbers later same =
        let more = later numbers same in
        omega (arith, more, times-cons n b.block (chain_numbers chain), times-cons n b.block (chain_numbers (left_chain from to numbers chain)))

-- ---- the right chain

pub numbered-numbers : (numbers : List ℕ) (blocks : List (List Record)) → length numbers ≡ length blocks → chain_numbers (numbered numbers blocks) ≡ numbers
numbered-numbers [] blocks same = refl
numbered-numbers (n ∷ numbers) [] same = absurd (omega arith)
numbered-numbers (n ∷ numbers) (b ∷ blocks) same = ap (λ (ns : List ℕ). n ∷ ns) (numbered-numbers numbers blocks (omega arith))

pub right-numbers : (n : ℕ) (plan : MovePlan) (numbers : List ℕ) (chain : List TableBlock) → length numbers ≡ length plan.right
    → times n (chain_numbers (right_chain plan numbers chain)) + times n (chain_numbers (old_last plan chain)) ≡ times n (chain_numbers chain) + times n numbers
right-numbers n plan numbers chain same =
    let old = old_last plan chain in
    let front = take (length chain - length old) chain in
    let number = λ (b : TableBlock). b.block in
    let was : times n (chain_numbers chain) ≡ times n (chain_numbers front) + times n (chain_numbers old) =
    ap (λ (bs : List TableBlock). times n (chain_numbers bs)) (sym (front_last plan chain)) ∙ ap (times n) (map-append number front old)
    ∙ times-append n (chain_numbers front) (chain_numbers old) in
    let now : times n (chain_numbers (right_chain plan numbers chain)) ≡ times n (chain_numbers front) + times n numbers =
    ap (times n) (map-append number front (numbered numbers plan.right))
    ∙ times-append n (chain_numbers front) (chain_numbers (numbered numbers plan.right))
    ∙ ap (λ (ns : List ℕ). times n (chain_numbers front) + times n ns) (numbered-numbers numbers plan.right same) in
    omega (arith, was, now)

-- ---- numbers that differ still do

there : (P : ℕ → Type 0) (n : ℕ) (numbers : List ℕ) → All P numbers → 1 ≤ times n numbers → P n
there P n [] all some = absurd (omega arith)
there P n (m ∷ numbers) all some =
    by (m == n) refl some (λ some. there P n numbers (All-tail P m numbers all) some)
  where
    by : (b : Bool) → (m == n) ≡ b → 1 ≤ length (cond b (m ∷ filter (λ k. k == n) numbers) (filter (λ k. k == n) numbers))
        → (1 ≤ times n numbers → P n) → P n
    by true same some later = subst P (eqb-true m n same) (All-head P m numbers all)
    by false apart some later = later some

pub still_apart : (numbers old was now : List ℕ) → AreNew numbers old was → AreApart was
    → ((n : ℕ) → times n now + times n old ≡ times n was + times n numbers) → AreApart now
still_apart numbers old was now new apart counts n =
    by (times n numbers) refl
  where
    by : (k : ℕ) → times n numbers ≡ k → times n now ≤ 1
    by zero none = omega (arith, counts n, apart n, none)
    by (suc k) some =
        let fresh : times n was ≤ times n old = there (λ n. times n was ≤ times n old) n numbers new.fresh (omega (arith, some)) in
        omega (arith, counts n, new.apart n, fresh)
