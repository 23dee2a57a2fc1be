-- When a bucket is ripe, and for what.
use Rattle.std.specs.Prelude.{ℕ, ◌+◌, ◌-◌, ◌/◌, Bool, false, ◌&&◌, nat_lt, nat_le, if◌then◌else◌, Some, None}
use Rattle.std.specs.declared.option.Option.{Option}
use Rattle.slot_split.specs.declared.acts.Act.{Act}
use Rattle.slot_split.specs.declared.acts.Act.TheVariants.{Split, Pack, Merge}

-- it has more than a block's bytes, and slots to divide
abbrev pub can_split : ℕ → ℕ → ℕ → ℕ → Bool
can_split size lo hi bytes = nat_lt size bytes && nat_le 2 (hi - lo)

-- it has several blocks, and the bytes of one at most
abbrev pub can_pack : ℕ → ℕ → ℕ → Bool
can_pack size blocks bytes = nat_le 2 blocks && nat_le bytes size

-- there is a next bucket, the two have half of a block's bytes at most, and one of them has a record
abbrev pub can_merge : ℕ → ℕ → Option ℕ → Bool
can_merge size bytes None = false
can_merge size bytes (Some next) = nat_le (bytes + next) (size / 2) && nat_lt 0 (bytes + next)

-- The first of the three that can be done, with a bucket of the slots from `lo` up to but not including `hi`, so many
-- blocks and so many bytes, and with the bytes of the next bucket, where there is one.
abbrev pub act_of : ℕ → ℕ → ℕ → ℕ → ℕ → Option ℕ → Option Act
act_of size lo hi blocks bytes next =
    if can_split size lo hi bytes then Some Split
    else (if can_pack size blocks bytes then Some Pack else (if can_merge size bytes next then Some Merge else None))
