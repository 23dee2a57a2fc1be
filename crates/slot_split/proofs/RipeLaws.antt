-- The first ripe bucket: where it stands, and what its act says of it.
use Rattle.std.proofs.Common.{◌≡◌, ℕ, ◌+◌, ◌-◌, ◌≤◌, Bool, true, false, cond, List, [], ◌∷◌, ◌++◌, length, Some, None, refl, ap, ◌∙◌, arith}
use Rattle.std.specs.Prelude.{nat_le, nat_lt}
use Rattle.std.specs.declared.option.Option.{Option}
use Rattle.std.proofs.lemmas.Bool.{leb-true, and_parts}
use Rattle.std.proofs.lemmas.Option.{none-some, some_pair_parts}
use Rattle.slot_split.specs.declared.acts.Act.{Act}
use Rattle.slot_split.specs.declared.acts.Act.TheVariants.{Split, Pack, Merge}
use Rattle.slot_split.specs.Ripe.{can_split, can_pack, can_merge}
use Rattle.slot_split.specs.Tables.{Bucket, bucket_size, size_of_first, ripe_act, or_later, first_ripe}

pub record RipeAt (size first at : ℕ) (act : Act) (buckets : List Bucket) : Type 0 where
  pub before : List Bucket
  pub bucket : Bucket
  pub after : List Bucket
  pub place : first + length before ≡ at
  pub parts : buckets ≡ before ++ bucket ∷ after
  pub act_is : ripe_act size bucket after ≡ Some act

pub ripe_at : (size first at : ℕ) (act : Act) (buckets : List Bucket) → first_ripe size first buckets ≡ Some (at, act) → RipeAt size first at act buckets
ripe_at size first at act [] is = absurd (none-some (at, act) is)
ripe_at size first at act (b ∷ buckets) is =
    by (ripe_act size b buckets) refl is (λ later. ripe_at size (first + 1) at act buckets later)
  where
    by : (o : Option Act) → ripe_act size b buckets ≡ o → or_later first o (first_ripe size (first + 1) buckets) ≡ Some (at, act)
        → (first_ripe size (first + 1) buckets ≡ Some (at, act) → RipeAt size (first + 1) at act buckets) → RipeAt size first at act (b ∷ buckets)
    by (Some this) ripe is later =
        let same = some_pair_parts first at this act is in
        record { before = []; bucket = b; after = buckets; place = omega (arith, same.0); parts = refl; act_is = ripe ∙ ap Some same.1 }
    by None ripe is later =
        let it = later is in
        record {
          before = b ∷ it.before;
          bucket = it.bucket;
          after = it.after;
          place = omega (arith, it.place);
          parts = (λ i. b ∷ it.parts i);
          act_is = it.act_is;
        }

-- ---- what an act says

abbrev first_act : Bool → Bool → Bool → Option Act
first_act split pack merge = cond split (Some Split) (cond pack (Some Pack) (cond merge (Some Merge) None))

for_split : (split pack merge : Bool) → first_act split pack merge ≡ Some Split → split ≡ true
for_split true pack merge is = refl
for_split false true merge is = cc
for_split false false true is = cc
for_split false false false is = cc

for_pack : (split pack merge : Bool) → first_act split pack merge ≡ Some Pack → pack ≡ true
for_pack true pack merge is = cc
for_pack false true merge is = refl
for_pack false false true is = cc
for_pack false false false is = cc

for_merge : (split pack merge : Bool) → first_act split pack merge ≡ Some Merge → merge ≡ true
for_merge true pack merge is = cc
for_merge false true merge is = cc
for_merge false false true is = refl
for_merge false false false is = cc

-- a bucket to be split has slots to divide
pub split-wide : (size : ℕ) (bucket : Bucket) (after : List Bucket) → ripe_act size bucket after ≡ Some Split → bucket.lo + 2 ≤ bucket.hi
split-wide size bucket after is =
    let split = can_split size bucket.lo bucket.hi (bucket_size bucket) in
    let can : split ≡ true =
    for_split split (can_pack size (length bucket.chain) (bucket_size bucket)) (can_merge size (bucket_size bucket) (size_of_first after)) is in
    omega (arith, leb-true 2 (bucket.hi - bucket.lo) (and_parts (nat_lt size (bucket_size bucket)) (nat_le 2 (bucket.hi - bucket.lo)) can).1)

-- one to be packed has several blocks, and the bytes of one
pub pack-fits : (size : ℕ) (bucket : Bucket) (after : List Bucket) → ripe_act size bucket after ≡ Some Pack
    → (2 ≤ length bucket.chain) × (bucket_size bucket ≤ size)
pack-fits size bucket after is =
    let pack = can_pack size (length bucket.chain) (bucket_size bucket) in
    let can : pack ≡ true =
    for_pack (can_split size bucket.lo bucket.hi (bucket_size bucket)) pack (can_merge size (bucket_size bucket) (size_of_first after)) is in
    let parts = and_parts (nat_le 2 (length bucket.chain)) (nat_le (bucket_size bucket) size) can in
    (leb-true 2 (length bucket.chain) parts.0, leb-true (bucket_size bucket) size parts.1)

-- one to be merged isn't the last
pub merge-next : (size : ℕ) (bucket : Bucket) (after : List Bucket) → ripe_act size bucket after ≡ Some Merge → 1 ≤ length after
merge-next size bucket [] is =
    let can : false ≡ true =
    for_merge (can_split size bucket.lo bucket.hi (bucket_size bucket)) (can_pack size (length bucket.chain) (bucket_size bucket)) false is in
    cc
merge-next size bucket (b ∷ after) is = omega arith
