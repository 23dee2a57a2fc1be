-- Which blocks a table has after a balance: those that were there and aren't old, and the new ones.
use Rattle.std.proofs.Common.{◌≡◌, ℕ, suc, ◌+◌, ◌-◌, ◌≤◌, Bool, true, false, cond, not, List, [], ◌∷◌, ◌++◌, length, take, drop, Some, None, refl, sym, ap, subst, ◌∙◌, add-one, length-append, arith}
use Rattle.std.specs.Prelude.{◌==◌, All, filter, slice_index}
use Rattle.std.specs.declared.option.Option.{Option}
use Rattle.std.specs.List.{flat_map, list_any}
use Rattle.std.proofs.Math.Seq.{drop-append-add}
use Rattle.std.proofs.lemmas.Bool.{eq-eqb}
use Rattle.std.proofs.lemmas.List.{map-append, take_at, take-append-drop, length-take-le}
use Rattle.std.proofs.lemmas.List.Concat.{flat_map-append}
use Rattle.std.proofs.lemmas.List.Elements.{All-nil, All-cons, All-head, All-tail, All-append, All-take, All-weaker}
use Rattle.table_block.specs.Records.{Record}
use Rattle.slot_split.specs.declared.plans.MovePlan.{MovePlan}
use Rattle.slot_split.specs.declared.acts.Act.{Act}
use Rattle.slot_split.specs.declared.acts.Act.TheVariants.{Split, Pack, Merge}
use Rattle.slot_split.specs.Plans.{moves, stays, rests, is_empty}
use Rattle.slot_split.specs.Tables.{TableBlock, Bucket, Move, Table, chain_records, chain_numbers, bucket_records, table_chain}
use Rattle.slot_split.specs.Turns.{Turn, old_last, numbered, left_chain, step_turn, stepped, pack_turn, turn, turned, ended}
use Rattle.slot_split.specs.Well.{times, AreApart, IsTable}
use Rattle.slot_split.proofs.ChainLaws.{times-cons, times-append, times_around}
use Rattle.slot_split.proofs.TableLaws.{All-split}
use Rattle.slot_split.proofs.StepLaws.{chains_plan, front_last}
use Rattle.slot_split.proofs.NumberLaws.{gone, kept_of, left-old}
use Rattle.slot_split.proofs.BucketLaws.{table_of, two_at, two-chain}
use Rattle.slot_split.proofs.MoveLaws.{mid_of, step_left, step_right, step_of, turn_of, stepped-is, step_turn-is}
use Rattle.slot_split.proofs.TurnCases.{packed_bucket, turned-cases}

All-then : {X : Type 0} (P Q : X → Type 0) (xs : List X) → All P xs → All (λ x. P x → Q x) xs → All Q xs
All-then P Q xs all then = λ k d within. then k d within (all k d within)

-- ---- a block that isn't among some of a chain, whose numbers differ

abbrev of_numbers : ℕ → List TableBlock → ℕ
of_numbers n chain = times n (chain_numbers chain)

fewer : (p : TableBlock → Bool) (n : ℕ) (chain : List TableBlock) → of_numbers n (filter p chain) ≤ of_numbers n chain
fewer p n [] = omega arith
fewer p n (b ∷ chain) =
    let more = fewer p n chain in
    let here = times-cons n b.block (chain_numbers chain) in
    elim (p b) as (λ t. of_numbers n (cond t (b ∷ filter p chain) (filter p chain)) ≤ of_numbers n (b ∷ chain)) [
      | true ↦ omega (arith, more, here, times-cons n b.block (chain_numbers (filter p chain)))
      | false ↦ omega (arith, more, here)
    ]

this_number : (b : TableBlock) (ns : List ℕ) → times b.block (b.block ∷ ns) ≡ suc (times b.block ns)
this_number b ns = ap (λ (t : Bool). length (cond t (b.block ∷ filter (λ m. m == b.block) ns) (filter (λ m. m == b.block) ns))) (eq-eqb b.block b.block refl)

left_out : (p : TableBlock → Bool) (chain : List TableBlock)
    → All (λ b. p b ≡ false → of_numbers b.block (filter p chain) + 1 ≤ of_numbers b.block chain) chain
left_out p [] = All-nil (λ (b : TableBlock). p b ≡ false → of_numbers b.block (filter p []) + 1 ≤ of_numbers b.block [])
left_out p (c ∷ chain) =
    All-cons (λ (b : TableBlock). p b ≡ false → of_numbers b.block (filter p (c ∷ chain)) + 1 ≤ of_numbers b.block (c ∷ chain)) c chain
    (λ fails.
    omega (
      arith,
      ap (λ (t : Bool). of_numbers c.block (cond t (c ∷ filter p chain) (filter p chain))) fails,
      fewer p c.block chain,
      this_number c (chain_numbers chain),
    ))
    (All-weaker (λ (b : TableBlock). p b ≡ false → of_numbers b.block (filter p chain) + 1 ≤ of_numbers b.block chain)
    (λ (b : TableBlock). p b ≡ false → of_numbers b.block (filter p (c ∷ chain)) + 1 ≤ of_numbers b.block (c ∷ chain))
    (λ b later fails. one_more b (later fails)) chain (left_out p chain))
  where
    one_more : (b : TableBlock) → of_numbers b.block (filter p chain) + 1 ≤ of_numbers b.block chain
        → of_numbers b.block (filter p (c ∷ chain)) + 1 ≤ of_numbers b.block (c ∷ chain)
    one_more b more =
        let here = times-cons b.block c.block (chain_numbers chain) in
        elim (p c) as (λ t. of_numbers b.block (cond t (c ∷ filter p chain) (filter p chain)) + 1 ≤ of_numbers b.block (c ∷ chain)) [
          | true ↦ omega (arith, more, here, times-cons b.block c.block (chain_numbers (filter p chain)))
          | false ↦ omega (arith, more, here)
        ]

its_own : (chain : List TableBlock) → All (λ b. 1 ≤ of_numbers b.block chain) chain
its_own chain =
    All-weaker (λ (b : TableBlock). false ≡ false → of_numbers b.block (filter (λ b. false) chain) + 1 ≤ of_numbers b.block chain)
    (λ (b : TableBlock). 1 ≤ of_numbers b.block chain) (λ b out. omega (arith, out refl)) chain (left_out (λ b. false) chain)

-- ---- the left chain

left-all : (Q : TableBlock → Type 0) (from to at : ℕ) (numbers : List ℕ) (chain : List TableBlock)
    → length (kept_of (rests from to at (chain_records chain))) ≡ length numbers
    → All (λ b. list_any (moves from to) b.records ≡ false → Q b) chain
    → All Q (numbered numbers (kept_of (rests from to at (chain_records chain)))) → All Q (left_chain from to numbers chain)
left-all Q from to at numbers [] same stay new = All-nil Q
left-all Q from to at numbers (b ∷ chain) same stay new =
    by (list_any (moves from to) b.records) (is_empty (filter (stays from to) b.records)) refl refl numbers
    (λ numbers same new. left-all Q from to (at + 1) numbers chain same (All-tail (λ (b : TableBlock). list_any (moves from to) b.records ≡ false → Q b) b chain stay) new)
    same new (All-head (λ (b : TableBlock). list_any (moves from to) b.records ≡ false → Q b) b chain stay)
  where
    by : (t u : Bool) → list_any (moves from to) b.records ≡ t → is_empty (filter (stays from to) b.records) ≡ u → (numbers : List ℕ)
        → ((numbers : List ℕ) → length (kept_of (rests from to (at + 1) (chain_records chain))) ≡ length numbers
        → All Q (numbered numbers (kept_of (rests from to (at + 1) (chain_records chain)))) → All Q (left_chain from to numbers chain))
        → length (kept_of (cond t (record { at = at; kept = filter (stays from to) b.records } ∷ rests from to (at + 1) (chain_records chain))
        (rests from to (at + 1) (chain_records chain)))) ≡ length numbers
        → All Q (numbered numbers (kept_of (cond t (record { at = at; kept = filter (stays from to) b.records } ∷ rests from to (at + 1) (chain_records chain))
        (rests from to (at + 1) (chain_records chain)))))
        → (list_any (moves from to) b.records ≡ false → Q b)
        → All Q (cond t (cond u (left_chain from to numbers chain)
        (record { block = slice_index numbers 0; records = filter (stays from to) b.records } ∷ left_chain from to (drop 1 numbers) chain))
        (b ∷ left_chain from to numbers chain))
    by true true some nil numbers later same new here =
        let kept = filter (stays from to) b.records in
        let others = kept_of (rests from to (at + 1) (chain_records chain)) in
        let is : kept_of (record { at = at; kept = kept } ∷ rests from to (at + 1) (chain_records chain)) ≡ others =
        ap (λ (u : Bool). cond (not u) (kept ∷ others) others) nil in
        later numbers (sym (ap length is) ∙ same) (subst (λ bs. All Q (numbered numbers bs)) is new)
    by true false some left [] later same new here =
        let kept = filter (stays from to) b.records in
        let others = kept_of (rests from to (at + 1) (chain_records chain)) in
        let count = ap (λ (u : Bool). length (cond (not u) (kept ∷ others) others)) left in
        absurd (omega (arith, count, same))
    by true false some left (m ∷ numbers) later same new here =
        let kept = filter (stays from to) b.records in
        let others = kept_of (rests from to (at + 1) (chain_records chain)) in
        let is : kept_of (record { at = at; kept = kept } ∷ rests from to (at + 1) (chain_records chain)) ≡ kept ∷ others =
        ap (λ (u : Bool). cond (not u) (kept ∷ others) others) left in
        let all = subst (λ bs. All Q (numbered (m ∷ numbers) bs)) is new in
        let this : TableBlock = record { block = m; records = kept } in
        All-cons Q this (left_chain from to numbers chain) (All-head Q this (numbered numbers others) all)
        (later numbers (omega (arith, ap length is, same)) (All-tail Q this (numbered numbers others) all))
    by false u none nil numbers later same new here = All-cons Q b (left_chain from to numbers chain) (here none) (later numbers same new)

numbered-append : (ns ms : List ℕ) (bs cs : List (List Record)) → length ns ≡ length bs → numbered (ns ++ ms) (bs ++ cs) ≡ numbered ns bs ++ numbered ms cs
numbered-append [] ms [] cs same = refl
numbered-append [] ms (b ∷ bs) cs same = absurd (omega arith)
numbered-append (n ∷ ns) ms [] cs same = absurd (omega arith)
numbered-append (n ∷ ns) ms (b ∷ bs) cs same =
    ap (λ (all : List TableBlock). record { block = n; records = b } ∷ all) (numbered-append ns ms bs cs (omega arith))

-- ---- a step

-- what each block gives that isn't old, the others of the two chains give, and all around them
parted_all : (Q : TableBlock → Type 0) (from to : ℕ) (plan : MovePlan) (first left right last : List TableBlock)
    → AreApart (chain_numbers (first ++ ((left ++ right) ++ last)))
    → All (λ b. times b.block (gone from to left ++ chain_numbers (old_last plan right)) ≡ 0 → Q b) (first ++ ((left ++ right) ++ last))
    → All Q first × All (λ b. list_any (moves from to) b.records ≡ false → Q b) left
    × All Q (take (length right - length (old_last plan right)) right) × All Q last
parted_all Q from to plan first left right last apart all =
    let old = old_last plan right in
    let front = take (length right - length old) right in
    let p = λ (b : TableBlock). list_any (moves from to) b.records in
    let R = λ (b : TableBlock). times b.block (gone from to left ++ chain_numbers old) ≡ 0 → Q b in
    let whole = All-split R first ((left ++ right) ++ last) all in
    let both = All-split R (left ++ right) last whole.1 in
    let two = All-split R left right both.0 in
    let few : (n : ℕ) → of_numbers n first + (of_numbers n left + (of_numbers n front + of_numbers n old)) + of_numbers n last ≤ 1 =
    λ n.
    omega (
      arith,
      apart n,
      times_around n first (left ++ right) last,
      ap (times n) (map-append (λ (b : TableBlock). b.block) left right),
      times-append n (chain_numbers left) (chain_numbers right),
      ap (of_numbers n) (front_last plan right),
      ap (times n) (map-append (λ (b : TableBlock). b.block) front old),
      times-append n (chain_numbers front) (chain_numbers old),
    ) in
    let gone_few : (n : ℕ) → times n (gone from to left ++ chain_numbers old) ≤ of_numbers n left + of_numbers n old =
    λ n. omega (arith, times-append n (gone from to left) (chain_numbers old), fewer p n left) in (
      All-then (λ (b : TableBlock). 1 ≤ of_numbers b.block first) Q first (its_own first)
          (All-weaker R (λ (b : TableBlock). 1 ≤ of_numbers b.block first → Q b)
          (λ b then own. then (omega (arith, own, few b.block, gone_few b.block))) first whole.0),
      All-then (λ (b : TableBlock). p b ≡ false → of_numbers b.block (filter p left) + 1 ≤ of_numbers b.block left)
          (λ (b : TableBlock). p b ≡ false → Q b) left (left_out p left)
          (All-weaker R (λ (b : TableBlock). (p b ≡ false → of_numbers b.block (filter p left) + 1 ≤ of_numbers b.block left) → p b ≡ false → Q b)
          (λ b then out stay.
          then (omega (arith, out stay, few b.block, times-append b.block (gone from to left) (chain_numbers old)))) left two.0),
      All-then (λ (b : TableBlock). 1 ≤ of_numbers b.block front) Q front (its_own front)
          (All-weaker R (λ (b : TableBlock). 1 ≤ of_numbers b.block front → Q b)
          (λ b then own. then (omega (arith, own, few b.block, gone_few b.block))) front (All-take R (length right - length old) right two.1)),
      All-then (λ (b : TableBlock). 1 ≤ of_numbers b.block last) Q last (its_own last)
          (All-weaker R (λ (b : TableBlock). 1 ≤ of_numbers b.block last → Q b)
          (λ b then own. then (omega (arith, own, few b.block, gone_few b.block))) last both.1),
    )

ended_all : (Q : TableBlock → Type 0) (stop : Bool) (before : List Bucket) (left right : Bucket) (after : List Bucket) (act : Act) (at target : ℕ)
    → length before ≡ at → All Q (table_chain (table_of (before ++ left ∷ right ∷ after) None))
    → All Q (table_chain (ended stop (record { at = at; target = target; act = act }) (before ++ left ∷ right ∷ after)))
ended_all Q false before left right after act at target place all = all
ended_all Q true before left right after Split at target place all = all
ended_all Q true before left right after Pack at target place all = all
ended_all Q true before left right after Merge at target place all =
    let buckets = before ++ left ∷ right ∷ after in
    let first : take at buckets ≡ before = take_at before (left ∷ right ∷ after) at place in
    let last : drop (suc at) buckets ≡ right ∷ after =
    ap (λ (k : ℕ). drop (suc k) buckets) (sym place) ∙ ap (λ (k : ℕ). drop k buckets) (sym (add-one (length before)))
    ∙ drop-append-add before (left ∷ right ∷ after) 1 in
    let chains = flat_map (λ (b : Bucket). b.chain) in
    let parts = All-split Q (chains before) (left.chain ++ (right.chain ++ chains after))
    (subst (λ (bs : List TableBlock). All Q bs) (flat_map-append (λ (b : Bucket). b.chain) before (left ∷ right ∷ after)) all) in
    coe 1 0 (i. All Q (chains (first i ++ last i)))
    (subst (λ (bs : List TableBlock). All Q bs) (sym (flat_map-append (λ (b : Bucket). b.chain) before (right ∷ after)))
    (All-append Q (chains before) (right.chain ++ chains after) parts.0 (All-split Q left.chain (right.chain ++ chains after) parts.1).1))

step_all : (Q : TableBlock → Type 0) (size : ℕ) (move : Move) (before : List Bucket) (left right : Bucket) (after : List Bucket) (now : Option Move) (numbers : List ℕ)
    → length before ≡ move.at → IsTable size (table_of (before ++ left ∷ right ∷ after) now)
    → length numbers ≡ length (turn_of size move left right).new
    → All (λ b. times b.block (turn_of size move left right).old ≡ 0 → Q b) (table_chain (table_of (before ++ left ∷ right ∷ after) now))
    → All Q (numbered numbers (turn_of size move left right).new)
    → All Q (table_chain (step_of size move before left right after numbers))
step_all Q size move before left right after now numbers place table count stay new =
    let mid = mid_of left move in
    let plan = chains_plan size mid left.hi left.chain right.chain in
    let kept = kept_of plan.left in
    let k = length kept in
    let first = flat_map (λ (b : Bucket). b.chain) before in
    let last = flat_map (λ (b : Bucket). b.chain) after in
    let l = step_left size move left right numbers in
    let r = step_right size move left right numbers in
    let front = take (length right.chain - length (old_last plan right.chain)) right.chain in
    let was = two-chain before left right after now in
    let long = count ∙ length-append kept plan.right in
    let ns : length (take k numbers) ≡ k = length-take-le k numbers (omega (arith, long)) in
    let parts = parted_all Q mid left.hi plan first left.chain right.chain last (subst (λ (bs : List TableBlock). AreApart (chain_numbers bs)) was table.apart)
    (coe 0 1 (i. All (λ (b : TableBlock). times b.block (left-old mid left.hi left.chain i ++ chain_numbers (old_last plan right.chain)) ≡ 0 → Q b) (was i)) stay) in
    let news = All-split Q (numbered (take k numbers) kept) (numbered (drop k numbers) plan.right)
    (coe 0 1 (i. All Q ((ap (λ (ns : List ℕ). numbered ns (kept ++ plan.right)) (sym (take-append-drop k numbers))
    ∙ numbered-append (take k numbers) (drop k numbers) kept plan.right ns) i)) new) in
    ended_all Q (mid == move.target) before l r after move.act move.at move.target place
    (subst (λ (bs : List TableBlock). All Q bs) (sym (two-chain before l r after None))
    (All-append Q first ((l.chain ++ r.chain) ++ last) parts.0
    (All-append Q (l.chain ++ r.chain) last
    (All-append Q l.chain r.chain (left-all Q mid left.hi 0 (take k numbers) left.chain (sym ns) parts.1 news.0)
    (All-append Q front (numbered (drop k numbers) plan.right) parts.2 news.1)) parts.3)))

stepped_all : (Q : TableBlock → Type 0) (size : ℕ) (move : Move) (buckets : List Bucket) (numbers : List ℕ) → IsTable size (table_of buckets (Some move))
    → length numbers ≡ length (step_turn size (table_of buckets (Some move)) move).new
    → All (λ b. times b.block (step_turn size (table_of buckets (Some move)) move).old ≡ 0 → Q b) (table_chain (table_of buckets (Some move)))
    → All Q (numbered numbers (step_turn size (table_of buckets (Some move)) move).new)
    → All Q (table_chain (stepped size (table_of buckets (Some move)) move numbers))
stepped_all Q size move buckets numbers table count stay new =
    let two = two_at move.at buckets table.move.0 in
    subst (λ (bs : List Bucket). IsTable size (table_of bs (Some move)) → length numbers ≡ length (step_turn size (table_of bs (Some move)) move).new
    → All (λ (b : TableBlock). times b.block (step_turn size (table_of bs (Some move)) move).old ≡ 0 → Q b) (table_chain (table_of bs (Some move)))
    → All Q (numbered numbers (step_turn size (table_of bs (Some move)) move).new)
    → All Q (table_chain (stepped size (table_of bs (Some move)) move numbers))) (sym two.parts)
    (here two.before two.left two.right two.after two.place) table count stay new
  where
    here : (before : List Bucket) (left right : Bucket) (after : List Bucket) → length before ≡ move.at
        → IsTable size (table_of (before ++ left ∷ right ∷ after) (Some move))
        → length numbers ≡ length (step_turn size (table_of (before ++ left ∷ right ∷ after) (Some move)) move).new
        → All (λ b. times b.block (step_turn size (table_of (before ++ left ∷ right ∷ after) (Some move)) move).old ≡ 0 → Q b)
        (table_chain (table_of (before ++ left ∷ right ∷ after) (Some move)))
        → All Q (numbered numbers (step_turn size (table_of (before ++ left ∷ right ∷ after) (Some move)) move).new)
        → All Q (table_chain (stepped size (table_of (before ++ left ∷ right ∷ after) (Some move)) move numbers))
    here before left right after place table count stay new =
        let buckets = before ++ left ∷ right ∷ after in
        let turn = step_turn-is size move before left right after (Some move) place in
        subst (λ (t : Table). All Q (table_chain t)) (sym (stepped-is size move before left right after (Some move) numbers place))
        (step_all Q size move before left right after (Some move) numbers place table (count ∙ ap (λ (t : Turn). length t.new) turn)
        (subst (λ (t : Turn). All (λ (b : TableBlock). times b.block t.old ≡ 0 → Q b) (table_chain (table_of buckets (Some move)))) turn stay)
        (subst (λ (t : Turn). All Q (numbered numbers t.new)) turn new))

-- ---- a pack

packed_all : (Q : TableBlock → Type 0) (before : List Bucket) (bucket : Bucket) (after : List Bucket) (numbers : List ℕ)
    → AreApart (chain_numbers (table_chain (table_of (before ++ bucket ∷ after) None)))
    → All (λ b. times b.block (pack_turn bucket).old ≡ 0 → Q b) (table_chain (table_of (before ++ bucket ∷ after) None))
    → All Q (numbered numbers (pack_turn bucket).new)
    → All Q (table_chain (table_of (before ++ packed_bucket numbers bucket ∷ after) None))
packed_all Q before bucket after numbers apart stay new =
    let first = flat_map (λ (b : Bucket). b.chain) before in
    let last = flat_map (λ (b : Bucket). b.chain) after in
    let chain = bucket.chain in
    let now = numbered numbers (bucket_records bucket ∷ []) in
    let R = λ (b : TableBlock). of_numbers b.block chain ≡ 0 → Q b in
    let was : table_chain (table_of (before ++ bucket ∷ after) None) ≡ first ++ (chain ++ last) =
    flat_map-append (λ (b : Bucket). b.chain) before (bucket ∷ after) in
    let few : (n : ℕ) → of_numbers n first + (of_numbers n chain + of_numbers n last) ≤ 1 =
    λ n. omega (arith, apart n, ap (of_numbers n) was, times_around n first chain last) in
    let whole = All-split R first (chain ++ last) (subst (λ (bs : List TableBlock). All R bs) was stay) in
    let others = All-split R chain last whole.1 in
    subst (λ (bs : List TableBlock). All Q bs) (sym (flat_map-append (λ (b : Bucket). b.chain) before (packed_bucket numbers bucket ∷ after)))
    (All-append Q first (now ++ last)
    (All-then (λ (b : TableBlock). 1 ≤ of_numbers b.block first) Q first (its_own first)
    (All-weaker R (λ (b : TableBlock). 1 ≤ of_numbers b.block first → Q b) (λ b then own. then (omega (arith, own, few b.block))) first whole.0))
    (All-append Q now last new
    (All-then (λ (b : TableBlock). 1 ≤ of_numbers b.block last) Q last (its_own last)
    (All-weaker R (λ (b : TableBlock). 1 ≤ of_numbers b.block last → Q b) (λ b then own. then (omega (arith, own, few b.block))) last others.1))))

-- ---- a balance

-- what holds of each block that isn't old, and of each new one, holds of each block of the table afterwards
pub turned-blocks : (Q : TableBlock → Type 0) (size : ℕ) (table : Table) (t : Turn) (numbers : List ℕ) → IsTable size table → turn size table ≡ Some t
    → length numbers ≡ length t.new → All (λ b. times b.block t.old ≡ 0 → Q b) (table_chain table) → All Q (numbered numbers t.new)
    → All Q (table_chain (turned size table numbers))
turned-blocks Q size table t numbers is turns count stay new =
    turned-cases (λ (now : Table). All Q (table_chain now)) size table t numbers is turns
    (λ buckets move kept chain of.
    stepped_all Q size move buckets numbers kept.is (count ∙ ap (λ (t : Turn). length t.new) (sym of))
    (coe 0 1 (i. All (λ (b : TableBlock). times b.block (sym of i).old ≡ 0 → Q b) (chain i)) stay)
    (subst (λ (t : Turn). All Q (numbered numbers t.new)) (sym of) new))
    (λ before bucket after parts fits of.
    packed_all Q before bucket after numbers (subst (λ (was : Table). AreApart (chain_numbers (table_chain was))) parts is.apart)
    (coe 0 1 (i. All (λ (b : TableBlock). times b.block (sym of i).old ≡ 0 → Q b) (table_chain (parts i))) stay)
    (subst (λ (t : Turn). All Q (numbered numbers t.new)) (sym of) new))
