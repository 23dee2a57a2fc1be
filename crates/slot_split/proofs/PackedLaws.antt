-- What is packed are the records, in blocks that can be written.
use Rattle.std.proofs.Common.{◌≡◌, ℕ, ◌+◌, ◌≤◌, Bool, true, false, cond, List, [], ◌∷◌, ◌++◌, length, refl, sym, ap, subst, ◌∙◌, append_assoc, append-nil, length-append, arith}
use Rattle.std.specs.Prelude.{All}
use Rattle.std.specs.List.Sorted.{IsPermutation}
use Rattle.std.proofs.lemmas.Bool.{leb-true, le-leb}
use Rattle.std.proofs.lemmas.List.Elements.{All-cons, All-head, All-tail}
use Rattle.std.proofs.lemmas.List.Sorted.{IsPermutation-refl, IsPermutation-trans, IsPermutation-append_left, IsPermutation-append_right, IsPermutation-to_front}
use Rattle.table_block.specs.Records.{Record, record_size, records_size}
use Rattle.slot_split.specs.Packing.{fits_in, with_record, with_records, packed}
use Rattle.slot_split.specs.Plans.{all_records, IsNewBlock}
use Rattle.slot_split.proofs.Parts.{records_size-append}

-- one record more
pub with_record_keeps : (size : ℕ) (blocks : List (List Record)) (r : Record)
    → IsPermutation (all_records blocks ++ r ∷ []) (all_records (with_record size blocks r))
with_record_keeps size [] r = IsPermutation-refl (r ∷ [])
with_record_keeps size (block ∷ blocks) r =
    let whole : (block ++ all_records blocks) ++ r ∷ [] ≡ block ++ (all_records blocks ++ r ∷ []) = append_assoc block (all_records blocks) (r ∷ []) in
    let here : IsPermutation (block ++ (all_records blocks ++ r ∷ [])) (block ++ (r ∷ all_records blocks)) =
    IsPermutation-append_right block (all_records blocks ++ r ∷ []) (r ∷ all_records blocks) (IsPermutation-to_front (all_records blocks) r) in
    let later : IsPermutation (block ++ (all_records blocks ++ r ∷ [])) (block ++ all_records (with_record size blocks r)) =
    IsPermutation-append_right block (all_records blocks ++ r ∷ []) (all_records (with_record size blocks r)) (with_record_keeps size blocks r) in
    subst (λ (rs : List Record). IsPermutation rs (all_records (with_record size (block ∷ blocks) r))) (sym whole)
    (elim (fits_in size (record_size r) block) as (λ b. IsPermutation (block ++ (all_records blocks ++ r ∷ []))
    (all_records (cond b ((block ++ r ∷ []) ∷ blocks) (block ∷ with_record size blocks r)))) [
      | true ↦ subst (λ (rs : List Record). IsPermutation (block ++ (all_records blocks ++ r ∷ [])) rs) (sym (append_assoc block (r ∷ []) (all_records blocks))) here
      | false ↦ later
    ])

-- all of them
pub with_records_keep : (size : ℕ) (blocks : List (List Record)) (rs : List Record)
    → IsPermutation (all_records blocks ++ rs) (all_records (with_records size blocks rs))
with_records_keep size blocks [] =
    subst (λ (rs : List Record). IsPermutation rs (all_records blocks)) (sym (append-nil (all_records blocks))) (IsPermutation-refl (all_records blocks))
with_records_keep size blocks (r ∷ rs) =
    let more = with_record size blocks r in
    IsPermutation-trans (all_records blocks ++ r ∷ rs) (all_records more ++ rs) (all_records (with_records size more rs))
    (subst (λ (xs : List Record). IsPermutation xs (all_records more ++ rs)) (append_assoc (all_records blocks) (r ∷ []) rs)
    (IsPermutation-append_left rs (all_records blocks ++ r ∷ []) (all_records more) (with_record_keeps size blocks r)))
    (with_records_keep size more rs)

-- blocks that can be written, with one record more
pub with_record_new : (size : ℕ) (blocks : List (List Record)) (r : Record) → record_size r ≤ size → All (IsNewBlock size) blocks
    → All (IsNewBlock size) (with_record size blocks r)
with_record_new size [] r fits all = All-cons (IsNewBlock size) (r ∷ []) [] (record { some = omega arith; within = omega arith }) all
with_record_new size (block ∷ blocks) r fits all =
    by (fits_in size (record_size r) block) refl (with_record_new size blocks r fits (All-tail (IsNewBlock size) block blocks all))
  where
    by : (b : Bool) → fits_in size (record_size r) block ≡ b → All (IsNewBlock size) (with_record size blocks r)
        → All (IsNewBlock size) (cond b ((block ++ r ∷ []) ∷ blocks) (block ∷ with_record size blocks r))
    by true room more =
        All-cons (IsNewBlock size) (block ++ r ∷ []) blocks
        (record {
          some = omega (arith, length-append block (r ∷ []));
          within = omega (arith, records_size-append block (r ∷ []), leb-true (records_size block + record_size r) size room);
        })
        (All-tail (IsNewBlock size) block blocks all)
    by false none more = All-cons (IsNewBlock size) block (with_record size blocks r) (All-head (IsNewBlock size) block blocks all) more

pub with_records_new : (size : ℕ) (blocks : List (List Record)) (rs : List Record) → All (λ r. record_size r ≤ size) rs → All (IsNewBlock size) blocks
    → All (IsNewBlock size) (with_records size blocks rs)
with_records_new size blocks [] fit all = all
with_records_new size blocks (r ∷ rs) fit all =
    with_records_new size (with_record size blocks r) rs (All-tail (λ r. record_size r ≤ size) r rs fit)
    (with_record_new size blocks r (All-head (λ r. record_size r ≤ size) r rs fit) all)

-- records that a block has room for go into it
in_one : (size : ℕ) (block rs : List Record) → records_size block + records_size rs ≤ size → with_records size (block ∷ []) rs ≡ (block ++ rs) ∷ []
in_one size block [] within = ap (λ (b : List Record). b ∷ []) (sym (append-nil block))
in_one size block (r ∷ rs) within =
    let room : fits_in size (record_size r) block ≡ true = le-leb (records_size block + record_size r) size (omega arith) in
    ap (λ (b : Bool). with_records size (cond b ((block ++ r ∷ []) ∷ []) (block ∷ with_record size [] r)) rs) room
    ∙ in_one size (block ++ r ∷ []) rs (omega (arith, records_size-append block (r ∷ [])))
    ∙ ap (λ (b : List Record). b ∷ []) (append_assoc block (r ∷ []) rs)

pub packed_one : (size : ℕ) (rs : List Record) → 1 ≤ length rs → records_size rs ≤ size → packed size rs ≡ rs ∷ []
packed_one size [] some within = absurd (omega arith)
packed_one size (r ∷ rs) some within = in_one size (r ∷ []) rs (omega arith)

-- some records are some blocks
pub with_records_some : (size : ℕ) (blocks : List (List Record)) (rs : List Record) → 1 ≤ length blocks → 1 ≤ length (with_records size blocks rs)
with_records_some size blocks [] some = some
with_records_some size blocks (r ∷ rs) some = with_records_some size (with_record size blocks r) rs (more blocks)
  where
    more : (bs : List (List Record)) → 1 ≤ length (with_record size bs r)
    more [] = omega arith
    more (b ∷ bs) =
        elim (fits_in size (record_size r) b) as (λ t. 1 ≤ length (cond t ((b ++ r ∷ []) ∷ bs) (b ∷ with_record size bs r))) [
          | true ↦ omega arith
          | false ↦ omega arith
        ]

pub packed_some : (size : ℕ) (rs : List Record) → 1 ≤ length rs → 1 ≤ length (packed size rs)
packed_some size [] some = absurd (omega arith)
packed_some size (r ∷ rs) some = with_records_some size ((r ∷ []) ∷ []) rs (omega arith)
