-- A step of a table's move, its end included, keeps the table well formed, with the same records.
use Rattle.std.proofs.Common.{◌≡◌, ℕ, suc, ◌<◌, ◌≤◌, Bool, true, false, List, [], ◌∷◌, ◌++◌, length, take, drop, Some, None, refl, sym, ap, subst, ◌∙◌, length-append, add-one, arith}
use Rattle.std.specs.Prelude.{◌==◌, All}
use Rattle.std.specs.declared.option.Option.{Option}
use Rattle.std.specs.List.{flat_map}
use Rattle.std.proofs.Math.Seq.{drop-append-add}
use Rattle.std.proofs.lemmas.Bool.{eqb-true}
use Rattle.std.proofs.lemmas.List.{take_at, take-append-drop, length-take-le, length-drop}
use Rattle.std.proofs.lemmas.List.Elements.{All-head}
use Rattle.std.proofs.lemmas.List.Sorted.{IsPermutation-refl}
use Rattle.table_block.specs.Records.{Record}
use Rattle.table_block.specs.Slots.{slots}
use Rattle.slot_split.specs.declared.acts.Act.{Act}
use Rattle.slot_split.specs.declared.acts.Act.TheVariants.{Split, Pack, Merge}
use Rattle.slot_split.specs.Plans.{IsNewBlock}
use Rattle.slot_split.specs.Tables.{TableBlock, Bucket, Move, Table, chain_numbers, records_in, table_chain, table_records}
use Rattle.slot_split.specs.Turns.{Turn, old_last, step_turn, ended, stepped}
use Rattle.slot_split.specs.Well.{LiesIn, HasOwn, AimsAt, IsMove, IsTable, AreNew}
use Rattle.slot_split.proofs.ChainLaws.{IsGood}
use Rattle.slot_split.proofs.TableLaws.{in_bucket, All-split}
use Rattle.slot_split.proofs.StepLaws.{chains_plan}
use Rattle.slot_split.proofs.NumberLaws.{kept_of, left-old}
use Rattle.slot_split.proofs.BucketLaws.{table_of, Keeps, keeps-trans, two_at, two-chain, neighbours, without_empty}
use Rattle.slot_split.proofs.MoveLaws.{mid_of, step_left, step_right, step_of, turn_of, left-is, stepped-is, step_turn-is, aim-within, IsStep, moved-records, moved-is}

-- blocks without a slot are none
no_slot-nil : (size lo : ℕ) (chain : List TableBlock) → All (IsGood size) chain → All (LiesIn lo lo) (records_in chain) → chain ≡ []
no_slot-nil size lo [] good own = refl
no_slot-nil size lo (b ∷ chain) good own =
    let here : IsNewBlock size b.records = All-head (IsGood size) b chain good in
    absurd (none b.records here.some own)
  where
    none : (rs : List Record) → 0 < length rs → All (LiesIn lo lo) (rs ++ records_in chain) → ⊥
    none [] some own = omega arith
    none (r ∷ rs) some own =
        let lies = All-head (LiesIn lo lo) r (rs ++ records_in chain) own in
        omega (arith, lies.above, lies.below)

aim-down : (act : Act) (lo hi mid target : ℕ) → target ≤ mid → AimsAt act lo hi target → AimsAt act lo mid target
aim-down Split lo hi mid target low aim = (aim.0, low)
aim-down Merge lo hi mid target low aim = aim
aim-down Pack lo hi mid target low aim = aim

-- what is given for a step of this move
pub record IsDue (size : ℕ) (move : Move) (before : List Bucket) (left right : Bucket) (after : List Bucket) (now : Option Move) (numbers : List ℕ) : Type 0 where
  pub table : IsTable size (table_of (before ++ left ∷ right ∷ after) now)
  pub place : length before ≡ move.at
  pub aim : AimsAt move.act left.lo left.hi move.target
  pub count : length numbers ≡ length (turn_of size move left right).new
  pub new : AreNew numbers (turn_of size move left right).old (chain_numbers (table_chain (table_of (before ++ left ∷ right ∷ after) now)))

due-step : (size : ℕ) (move : Move) (before : List Bucket) (left right : Bucket) (after : List Bucket) (now : Option Move) (numbers : List ℕ)
    → IsDue size move before left right after now numbers
    → IsStep size (mid_of left move) before left right after now
    (take (length (kept_of (chains_plan size (mid_of left move) left.hi left.chain right.chain).left)) numbers)
    (drop (length (kept_of (chains_plan size (mid_of left move) left.hi left.chain right.chain).left)) numbers)
due-step size move before left right after now numbers due =
    let mid = mid_of left move in
    let plan = chains_plan size mid left.hi left.chain right.chain in
    let k = length (kept_of plan.left) in
    let sides = neighbours 0 slots before left right after due.table.filed.covers in
    let within = aim-within move.act left.lo left.hi move.target sides.0 due.aim in
    let all = due.count ∙ length-append (kept_of plan.left) plan.right in
    record {
      table = due.table;
      low = omega (arith, within.0);
      high = omega (arith, within.1);
      kept = sym (length-take-le k numbers (omega (arith, all)));
      added = omega (arith, length-drop k numbers, all);
      new =
          coe 0 1 (i. AreNew (sym (take-append-drop k numbers) i) (left-old mid left.hi left.chain i ++ chain_numbers (old_last plan right.chain))
          (chain_numbers (table_chain (table_of (before ++ left ∷ right ∷ after) now)))) due.new;
    }

-- another move, or none, of the same buckets
pub with_move : (size : ℕ) (buckets : List Bucket) (was now : Option Move) → IsTable size (table_of buckets was) → IsMove buckets now
    → Keeps size (table_of buckets was) (table_of buckets now)
with_move size buckets was now table moves = record {
  is = record {
    filed = record { covers = table.filed.covers; own = table.filed.own; once = table.filed.once };
    blocks = table.blocks;
    apart = table.apart;
    move = moves;
  };
  records = IsPermutation-refl (table_records (table_of buckets was));
}

-- the boundary is at its target
end_keeps : (size : ℕ) (before : List Bucket) (left right : Bucket) (after : List Bucket) (act : Act) (at target : ℕ) (now : Option Move)
    → length before ≡ at → left.hi ≡ target → AimsAt act left.lo left.hi target
    → IsTable size (table_of (before ++ left ∷ right ∷ after) now)
    → Keeps size (table_of (before ++ left ∷ right ∷ after) now)
    (ended true (record { at = at; target = target; act = act }) (before ++ left ∷ right ∷ after))
end_keeps size before left right after Split at target now place reached aim table =
    with_move size (before ++ left ∷ right ∷ after) now None table tt
end_keeps size before left right after Merge at target now place reached aim table =
    let buckets = before ++ left ∷ right ∷ after in
    let same : left.lo ≡ left.hi = omega (arith, reached, aim) in
    let good = All-split (IsGood size) (left.chain ++ right.chain) (flat_map (λ (b : Bucket). b.chain) after)
    (All-split (IsGood size) (flat_map (λ (b : Bucket). b.chain) before) ((left.chain ++ right.chain) ++ flat_map (λ (b : Bucket). b.chain) after)
    (subst (λ (bs : List TableBlock). All (IsGood size) bs) (two-chain before left right after now) table.blocks)).1 in
    let own = All-head HasOwn left (right ∷ after) (All-split HasOwn before (left ∷ right ∷ after) table.filed.own).1 in
    let nil : left.chain ≡ [] =
    no_slot-nil size left.hi left.chain (All-split (IsGood size) left.chain right.chain good.0).0
    (subst (λ lo. All (LiesIn lo left.hi) (records_in left.chain)) same own) in
    let empty : left ≡ in_bucket left.hi left.hi [] = (λ i. in_bucket (same i) left.hi (nil i)) in
    let first : take at buckets ≡ before = take_at before (left ∷ right ∷ after) at place in
    let last : drop (suc at) buckets ≡ right ∷ after =
    ap (λ (k : ℕ). drop (suc k) buckets) (sym place) ∙ ap (λ (k : ℕ). drop k buckets) (sym (add-one (length before)))
    ∙ drop-append-add before (left ∷ right ∷ after) 1 in
    let kept : Keeps size (table_of buckets now) (table_of (before ++ right ∷ after) None) =
    coe 1 0 (i. Keeps size (table_of (before ++ empty i ∷ right ∷ after) now) (table_of (before ++ right ∷ after) None))
    (without_empty size left.hi before (right ∷ after) now
    (subst (λ (b : Bucket). IsTable size (table_of (before ++ b ∷ right ∷ after) now)) empty table)) in
    coe 1 0 (i. Keeps size (table_of buckets now) (table_of (first i ++ last i) None)) kept
end_keeps size before left right after Pack at target now place reached aim table = absurd aim

due-keeps : (size : ℕ) (move : Move) (before : List Bucket) (left right : Bucket) (after : List Bucket) (now : Option Move) (numbers : List ℕ)
    → IsDue size move before left right after now numbers
    → Keeps size (table_of (before ++ left ∷ right ∷ after) now) (step_of size move before left right after numbers)
due-keeps size move before left right after now numbers due = by (mid_of left move == move.target) refl
  where
    by : (b : Bool) → (mid_of left move == move.target) ≡ b
        → Keeps size (table_of (before ++ left ∷ right ∷ after) now)
        (ended b move (before ++ step_left size move left right numbers ∷ step_right size move left right numbers ∷ after))
    by false goes_on =
        let mid = mid_of left move in
        let count = length (kept_of (chains_plan size mid left.hi left.chain right.chain).left) in
        let l = step_left size move left right numbers in
        let r = step_right size move left right numbers in
        let buckets = before ++ l ∷ r ∷ after in
        let step = due-step size move before left right after now numbers due in
        let moves : IsMove buckets (Some move) = (
          omega (arith, due.place, length-append before (l ∷ r ∷ after)),
          subst (λ (b : Bucket). AimsAt move.act b.lo b.hi move.target) (sym (left-is before l r after move.at due.place))
              (aim-down move.act left.lo left.hi mid move.target (omega arith) due.aim),
        ) in
        record {
          is = moved-is size mid before left right after now (Some move) (take count numbers) (drop count numbers) step moves;
          records = moved-records size mid before left right after now (Some move) (take count numbers) (drop count numbers) step;
        }
    by true reached =
        let mid = mid_of left move in
        let count = length (kept_of (chains_plan size mid left.hi left.chain right.chain).left) in
        let l = step_left size move left right numbers in
        let r = step_right size move left right numbers in
        let buckets = before ++ l ∷ r ∷ after in
        let step = due-step size move before left right after now numbers due in
        let moved : Keeps size (table_of (before ++ left ∷ right ∷ after) now) (table_of buckets None) =
        record {
          is = moved-is size mid before left right after now None (take count numbers) (drop count numbers) step tt;
          records = moved-records size mid before left right after now None (take count numbers) (drop count numbers) step;
        } in
        keeps-trans size (table_of (before ++ left ∷ right ∷ after) now) (table_of buckets None) (ended true move buckets) moved
        (end_keeps size before l r after move.act move.at move.target None due.place (eqb-true mid move.target reached)
        (aim-down move.act left.lo left.hi mid move.target (omega arith) due.aim) moved.is)

-- the next step of the move that is under way
pub step_keeps : (size : ℕ) (move : Move) (buckets : List Bucket) (numbers : List ℕ) → IsTable size (table_of buckets (Some move))
    → length numbers ≡ length (step_turn size (table_of buckets (Some move)) move).new
    → AreNew numbers (step_turn size (table_of buckets (Some move)) move).old (chain_numbers (table_chain (table_of buckets (Some move))))
    → Keeps size (table_of buckets (Some move)) (stepped size (table_of buckets (Some move)) move numbers)
step_keeps size move buckets numbers table count new =
    let two = two_at move.at buckets table.move.0 in
    subst (λ (bs : List Bucket). IsTable size (table_of bs (Some move)) → length numbers ≡ length (step_turn size (table_of bs (Some move)) move).new
    → AreNew numbers (step_turn size (table_of bs (Some move)) move).old (chain_numbers (table_chain (table_of bs (Some move))))
    → Keeps size (table_of bs (Some move)) (stepped size (table_of bs (Some move)) move numbers)) (sym two.parts)
    (here two.before two.left two.right two.after two.place) table count new
  where
    here : (before : List Bucket) (left right : Bucket) (after : List Bucket) → length before ≡ move.at
        → IsTable size (table_of (before ++ left ∷ right ∷ after) (Some move))
        → length numbers ≡ length (step_turn size (table_of (before ++ left ∷ right ∷ after) (Some move)) move).new
        → AreNew numbers (step_turn size (table_of (before ++ left ∷ right ∷ after) (Some move)) move).old
        (chain_numbers (table_chain (table_of (before ++ left ∷ right ∷ after) (Some move))))
        → Keeps size (table_of (before ++ left ∷ right ∷ after) (Some move)) (stepped size (table_of (before ++ left ∷ right ∷ after) (Some move)) move numbers)
    here before left right after place table count new =
        let buckets = before ++ left ∷ right ∷ after in
        let turn = step_turn-is size move before left right after (Some move) place in
        subst (λ (t : Table). Keeps size (table_of buckets (Some move)) t) (sym (stepped-is size move before left right after (Some move) numbers place))
        (due-keeps size move before left right after (Some move) numbers
        (record {
          table = table;
          place = place;
          aim = subst (λ (b : Bucket). AimsAt move.act b.lo b.hi move.target) (left-is before left right after move.at place) table.move.1;
          count = count ∙ ap (λ (t : Turn). length t.new) turn;
          new = subst (λ (t : Turn). AreNew numbers t.old (chain_numbers (table_chain (table_of buckets (Some move))))) turn new;
        }))
