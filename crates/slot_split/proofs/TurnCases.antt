-- The cases of a balance: the next step of a move, which may begin just then, or a pack.
use Rattle.std.proofs.Common.{◌≡◌, ℕ, ◌+◌, ◌/◌, ◌≤◌, ◌↔◌, List, [], ◌∷◌, ◌++◌, length, take, drop, Some, None, refl, sym, ap, subst, ◌∙◌, append_assoc, length-append, arith}
use Rattle.std.specs.declared.option.Option.{Option}
use Rattle.std.proofs.lemmas.Option.{none-some, same_Some}
use Rattle.std.proofs.lemmas.List.{take_at, drop_at, get_or_at}
use Rattle.std.proofs.lemmas.List.Sorted.{IsPermutation-refl}
use Rattle.slot_split.specs.declared.acts.Act.{Act}
use Rattle.slot_split.specs.declared.acts.Act.TheVariants.{Split, Pack, Merge}
use Rattle.slot_split.specs.Tables.{Bucket, Move, Table, bucket_size, bucket_records, table_chain, table_records, first_ripe}
use Rattle.slot_split.specs.Turns.{Turn, no_bucket, bucket_at, begun_with, step_turn, stepped, numbered, pack_turn, with_packed, turn_ripe, turn_from, turn, turned_ripe, turned_from, turned}
use Rattle.slot_split.specs.Well.{IsMove, IsTable}
use Rattle.slot_split.proofs.TableLaws.{in_bucket}
use Rattle.slot_split.proofs.BucketLaws.{table_of, Keeps, with_empty, with_empty-chain}
use Rattle.slot_split.proofs.RipeLaws.{RipeAt, ripe_at, split-wide, pack-fits, merge-next}
use Rattle.slot_split.proofs.StepTableLaws.{with_move}

-- a bucket with all records in one block
abbrev pub packed_bucket : List ℕ → Bucket → Bucket
packed_bucket numbers bucket = in_bucket bucket.lo bucket.hi (numbered numbers (bucket_records bucket ∷ []))

-- what has to be shown of a step from a table that is the same but for the move, and of a pack
abbrev pub OfStep : ℕ → Table → Turn → List ℕ → (Table → Type 0) → Type 0
OfStep size table t numbers P =
    (buckets : List Bucket) (move : Move) → Keeps size table (table_of buckets (Some move))
    → table_chain table ≡ table_chain (table_of buckets (Some move))
    → step_turn size (table_of buckets (Some move)) move ≡ t → P (stepped size (table_of buckets (Some move)) move numbers)

abbrev pub OfPack : ℕ → Table → Turn → List ℕ → (Table → Type 0) → Type 0
OfPack size table t numbers P =
    (before : List Bucket) (bucket : Bucket) (after : List Bucket) → table ≡ table_of (before ++ bucket ∷ after) None
    → (2 ≤ length bucket.chain) × (bucket_size bucket ≤ size) → pack_turn bucket ≡ t
    → P (table_of (before ++ packed_bucket numbers bucket ∷ after) None)

-- ---- a split begins

split_begun : (before : List Bucket) (bucket : Bucket) (after : List Bucket) (at : ℕ) → length before ≡ at
    → begun_with (table_of (before ++ bucket ∷ after) None) (Some (at, Split))
    ≡ table_of (before ++ bucket ∷ in_bucket bucket.hi bucket.hi [] ∷ after) (Some (record { at = at; target = (bucket.lo + bucket.hi) / 2; act = Split }))
split_begun before bucket after at place =
    let buckets = before ++ bucket ∷ after in
    let whole : (before ++ bucket ∷ []) ++ after ≡ buckets = append_assoc before (bucket ∷ []) after in
    let long : length (before ++ bucket ∷ []) ≡ at + 1 = omega (arith, length-append before (bucket ∷ [])) in
    let here : bucket_at buckets at ≡ bucket = get_or_at before bucket after no_bucket at place in
    let first : take (at + 1) buckets ≡ before ++ bucket ∷ [] = ap (take (at + 1)) (sym whole) ∙ take_at (before ++ bucket ∷ []) after (at + 1) long in
    let last : drop (at + 1) buckets ≡ after = ap (drop (at + 1)) (sym whole) ∙ drop_at (before ++ bucket ∷ []) after (at + 1) long in
    (λ i. table_of (first i ++ in_bucket (here i).hi (here i).hi [] ∷ last i) (Some (record { at = at; target = ((here i).lo + (here i).hi) / 2; act = Split })))
    ∙ (λ i. table_of (append_assoc before (bucket ∷ []) (in_bucket bucket.hi bucket.hi [] ∷ after) i)
    (Some (record { at = at; target = (bucket.lo + bucket.hi) / 2; act = Split })))

split_keeps : (size : ℕ) (before : List Bucket) (bucket : Bucket) (after : List Bucket) (at : ℕ) → length before ≡ at → bucket.lo + 2 ≤ bucket.hi
    → IsTable size (table_of (before ++ bucket ∷ after) None)
    → Keeps size (table_of (before ++ bucket ∷ after) None) (begun_with (table_of (before ++ bucket ∷ after) None) (Some (at, Split)))
    × (table_chain (table_of (before ++ bucket ∷ after) None) ≡ table_chain (begun_with (table_of (before ++ bucket ∷ after) None) (Some (at, Split))))
split_keeps size before bucket after at place wide table =
    let was = table_of (before ++ bucket ∷ after) None in
    let empty = in_bucket bucket.hi bucket.hi [] in
    let move : Move = record { at = at; target = (bucket.lo + bucket.hi) / 2; act = Split } in
    let is = split_begun before bucket after at place in
    let moves : IsMove (before ++ bucket ∷ empty ∷ after) (Some move) = (
      omega (arith, length-append before (bucket ∷ empty ∷ after)),
      subst (λ (b : Bucket). (b.lo ≤ move.target) × (move.target ≤ b.hi)) (sym (get_or_at before bucket (empty ∷ after) no_bucket at place))
          (omega arith, omega arith),
    ) in (
      subst (λ (t : Table). Keeps size was t) (sym is) (with_empty size before bucket after None (Some move) table moves),
      with_empty-chain before bucket after None (Some move) ∙ ap table_chain (sym is),
    )

-- ---- a merge begins

merge_move : (size : ℕ) (buckets : List Bucket) (at : ℕ) → RipeAt size 0 at Merge buckets
    → IsMove buckets (Some (record { at = at; target = (bucket_at buckets at).lo; act = Merge }))
merge_move size buckets at ripe = (
  omega (arith, ripe.place, ap length ripe.parts, length-append ripe.before (ripe.bucket ∷ ripe.after), merge-next size ripe.bucket ripe.after ripe.act_is),
  refl,
)

-- ---- a pack

packed-is : (before : List Bucket) (bucket : Bucket) (after : List Bucket) (at : ℕ) (numbers : List ℕ) → length before ≡ at
    → with_packed (table_of (before ++ bucket ∷ after) None) at numbers ≡ table_of (before ++ packed_bucket numbers bucket ∷ after) None
packed-is before bucket after at numbers place =
    let buckets = before ++ bucket ∷ after in
    let here : bucket_at buckets at ≡ bucket = get_or_at before bucket after no_bucket at place in
    let first : take at buckets ≡ before = take_at before (bucket ∷ after) at place in
    let whole : (before ++ bucket ∷ []) ++ after ≡ buckets = append_assoc before (bucket ∷ []) after in
    let last : drop (at + 1) buckets ≡ after =
    ap (drop (at + 1)) (sym whole) ∙ drop_at (before ++ bucket ∷ []) after (at + 1) (omega (arith, length-append before (bucket ∷ []))) in
    (λ i. table_of (first i ++ packed_bucket numbers (here i) ∷ last i) None)

-- ---- a balance

-- where no move was under way, by what is ripe
ripe_cases : (P : Table → Type 0) (size : ℕ) (buckets : List Bucket) (ripe : Option (ℕ × Act)) (t : Turn) (numbers : List ℕ)
    → first_ripe size 0 buckets ≡ ripe → IsTable size (table_of buckets None)
    → turn_from size (begun_with (table_of buckets None) ripe) (begun_with (table_of buckets None) ripe).move ≡ Some t
    → OfStep size (table_of buckets None) t numbers P → OfPack size (table_of buckets None) t numbers P
    → P (turned_from size (begun_with (table_of buckets None) ripe) (begun_with (table_of buckets None) ripe).move numbers)
ripe_cases P size buckets None t numbers is table turns step pack =
    absurd (none-some t (sym (ap (turn_ripe (table_of buckets None)) is) ∙ turns))
ripe_cases P size buckets (Some (at, Pack)) t numbers is table turns step pack =
    let was = table_of buckets None in
    let it : RipeAt size 0 at Pack buckets = ripe_at size 0 at Pack buckets is in
    let place : length it.before ≡ at = omega (arith, it.place) in
    let here : bucket_at buckets at ≡ it.bucket =
    ap (λ (bs : List Bucket). bucket_at bs at) it.parts ∙ get_or_at it.before it.bucket it.after no_bucket at place in
    let packs : pack_turn it.bucket ≡ t =
    ap pack_turn (sym here) ∙ same_Some (pack_turn (bucket_at buckets at)) t (sym (ap (turn_ripe was) is) ∙ turns) in
    let now : turned_ripe was (first_ripe size 0 buckets) numbers ≡ table_of (it.before ++ packed_bucket numbers it.bucket ∷ it.after) None =
    ap (λ (o : Option (ℕ × Act)). turned_ripe was o numbers) is
    ∙ ap (λ (bs : List Bucket). with_packed (table_of bs None) at numbers) it.parts
    ∙ packed-is it.before it.bucket it.after at numbers place in
    subst P (sym now)
    (pack it.before it.bucket it.after (ap (λ (bs : List Bucket). table_of bs None) it.parts) (pack-fits size it.bucket it.after it.act_is) packs)
ripe_cases P size buckets (Some (at, Split)) t numbers is table turns step pack =
    let was = table_of buckets None in
    let now = begun_with was (Some (at, Split)) in
    let it : RipeAt size 0 at Split buckets = ripe_at size 0 at Split buckets is in
    let move : Move = record { at = at; target = ((bucket_at buckets at).lo + (bucket_at buckets at).hi) / 2; act = Split } in
    let begins : Keeps size was now × (table_chain was ≡ table_chain now) =
    subst (λ (bs : List Bucket). IsTable size (table_of bs None)
    → Keeps size (table_of bs None) (begun_with (table_of bs None) (Some (at, Split)))
    × (table_chain (table_of bs None) ≡ table_chain (begun_with (table_of bs None) (Some (at, Split))))) (sym it.parts)
    (λ table. split_keeps size it.before it.bucket it.after at (omega (arith, it.place)) (split-wide size it.bucket it.after it.act_is) table) table in
    step now.buckets move begins.0 begins.1 (same_Some (step_turn size now move) t turns)
ripe_cases P size buckets (Some (at, Merge)) t numbers is table turns step pack =
    let move : Move = record { at = at; target = (bucket_at buckets at).lo; act = Merge } in
    step buckets move (with_move size buckets None (Some move) table (merge_move size buckets at (ripe_at size 0 at Merge buckets is))) refl
    (same_Some (step_turn size (table_of buckets (Some move)) move) t turns)

turned_of : (P : Table → Type 0) (size : ℕ) (buckets : List Bucket) (move : Option Move) (t : Turn) (numbers : List ℕ)
    → IsTable size (table_of buckets move) → turn size (table_of buckets move) ≡ Some t
    → OfStep size (table_of buckets move) t numbers P → OfPack size (table_of buckets move) t numbers P
    → P (turned size (table_of buckets move) numbers)
turned_of P size buckets None t numbers table turns step pack =
    ripe_cases P size buckets (first_ripe size 0 buckets) t numbers refl table turns step pack
turned_of P size buckets (Some move) t numbers table turns step pack =
    let was = table_of buckets (Some move) in
    step buckets move (record { is = table; records = IsPermutation-refl (table_records was) }) refl (same_Some (step_turn size was move) t turns)

pub turned-cases : (P : Table → Type 0) (size : ℕ) (table : Table) (t : Turn) (numbers : List ℕ) → IsTable size table → turn size table ≡ Some t
    → OfStep size table t numbers P → OfPack size table t numbers P → P (turned size table numbers)
turned-cases P size table t numbers is turns step pack = turned_of P size table.buckets table.move t numbers is turns step pack

-- ---- nothing to do

none_of : (size : ℕ) (buckets : List Bucket) (move : Option Move)
    → (turn size (table_of buckets move) ≡ None) ↔ ((move ≡ None) × (first_ripe size 0 buckets ≡ None))
none_of size buckets (Some move) =
    ((λ none. absurd (none-some (step_turn size (table_of buckets (Some move)) move) (sym none))), (λ is. absurd (none-some move (sym is.0))))
none_of size buckets None = by (first_ripe size 0 buckets) refl
  where
    by : (ripe : Option (ℕ × Act)) → first_ripe size 0 buckets ≡ ripe
        → (turn_from size (begun_with (table_of buckets None) ripe) (begun_with (table_of buckets None) ripe).move ≡ None)
        ↔ ((◌≡◌ {A = Option Move} None None) × (ripe ≡ None))
    by None is = ((λ none. (refl, refl)), (λ both. ap (turn_ripe (table_of buckets None)) is))
    by (Some (at, Pack)) is = (
      (λ none. absurd (none-some (pack_turn (bucket_at buckets at)) (sym none ∙ ap (turn_ripe (table_of buckets None)) is))),
      (λ both. absurd (none-some (at, Pack) (sym both.1))),
    )
    by (Some (at, Split)) is =
        let now = begun_with (table_of buckets None) (Some (at, Split)) in
        let move : Move = record { at = at; target = ((bucket_at buckets at).lo + (bucket_at buckets at).hi) / 2; act = Split } in
        ((λ none. absurd (none-some (step_turn size now move) (sym none))), (λ both. absurd (none-some (at, Split) (sym both.1))))
    by (Some (at, Merge)) is =
        let now = begun_with (table_of buckets None) (Some (at, Merge)) in
        let move : Move = record { at = at; target = (bucket_at buckets at).lo; act = Merge } in
        ((λ none. absurd (none-some (step_turn size now move) (sym none))), (λ both. absurd (none-some (at, Merge) (sym both.1))))

pub turn-none : (size : ℕ) (table : Table) → (turn size table ≡ None) ↔ ((table.move ≡ None) × (first_ripe size 0 table.buckets ≡ None))
turn-none size table = none_of size table.buckets table.move
