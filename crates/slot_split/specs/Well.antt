-- When a table is well formed.
use Rattle.std.specs.Prelude.{◌≡◌, ℕ, ◌+◌, ◌==◌, ◌<◌, ◌≤◌, List, [], ◌∷◌, length, filter, All, Some, None}
use Rattle.std.specs.declared.option.Option.{Option}
use Rattle.table_block.specs.Records.{Record}
use Rattle.table_block.specs.Slots.{slots, slot_of}
use Rattle.slot_split.specs.declared.acts.Act.{Act}
use Rattle.slot_split.specs.declared.acts.Act.TheVariants.{Split, Pack, Merge}
use Rattle.slot_split.specs.Plans.{IsNewBlock}
use Rattle.slot_split.specs.Tables.{Bucket, Move, Table, chain_numbers, bucket_records, table_chain, table_records}
use Rattle.slot_split.specs.Turns.{bucket_at}
use Rattle.slot_split.specs.Puts.{has_key}

-- buckets of the slots from `from` up to but not including `to`, in their order and without a gap
abbrev pub Covers : ℕ → ℕ → List Bucket → Type 0
Covers from to [] = from ≡ to
Covers from to (bucket ∷ buckets) = (bucket.lo ≡ from) × (bucket.lo ≤ bucket.hi) × Covers bucket.hi to buckets

-- the key of a record has one of these slots
pub record LiesIn (lo hi : ℕ) (r : Record) : Type 0 where
  pub above : lo ≤ slot_of r.0
  pub below : slot_of r.0 < hi

-- a bucket's records lie in it
abbrev pub HasOwn : Bucket → Type 0
HasOwn bucket = All (LiesIn bucket.lo bucket.hi) (bucket_records bucket)

-- each key stands once
abbrev pub IsOnce : List Record → Type 0
IsOnce records = (key : List ℕ) → length (filter (has_key key) records) ≤ 1

-- how often a number stands among these
abbrev pub times : ℕ → List ℕ → ℕ
times n numbers = length (filter (λ m. m == n) numbers)

abbrev pub AreApart : List ℕ → Type 0
AreApart numbers = (n : ℕ) → times n numbers ≤ 1

-- buckets of all slots, each with its own records, and each key once: with no word on blocks
pub record IsFiled (table : Table) : Type 0 where
  pub covers : Covers 0 slots table.buckets
  pub own : All HasOwn table.buckets
  pub once : IsOnce (table_records table)

-- where a move's boundary may go: no lower than its left bucket begins, and a merge's just there
abbrev pub AimsAt : Act → ℕ → ℕ → ℕ → Type 0
AimsAt Split lo hi target = (lo ≤ target) × (target ≤ hi)
AimsAt Merge lo hi target = target ≡ lo
AimsAt Pack lo hi target = ⊥

-- a move, where one is under way, is of two buckets of the table
abbrev pub IsMove : List Bucket → Option Move → Type 0
IsMove buckets None = Unit {0}
IsMove buckets (Some move) =
    (move.at + 1 < length buckets)
    × AimsAt move.act (bucket_at buckets move.at).lo (bucket_at buckets move.at).hi move.target

-- a table of blocks of at most `size` bytes, each with a record, under numbers that differ
pub record IsTable (size : ℕ) (table : Table) : Type 0 where
  pub filed : IsFiled table
  pub blocks : All (λ b. IsNewBlock size b.records) (table_chain table)
  pub apart : AreApart (chain_numbers (table_chain table))
  pub move : IsMove table.buckets table.move

-- numbers of new blocks, in place of old ones of these numbers: they differ, and one that the table has is an old one's
pub record AreNew (numbers old all : List ℕ) : Type 0 where
  pub apart : AreApart numbers
  pub fresh : All (λ n. times n all ≤ times n old) numbers
