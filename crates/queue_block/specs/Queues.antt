-- A queue as its blocks, front to back, and how they change as items come and go. Their numbers are those of a home.
use Rattle.std.specs.Prelude.{ℕ, ◌+◌, nat_le, nat_lt, if◌then◌else◌, Bool, List, [], ◌∷◌, ◌++◌, length, drop, None}
use Rattle.std.specs.Option.{option_map_or}
use Rattle.std.specs.List.{flat_map, last_or}
use Rattle.queue_block.specs.Items.{item_size, items_bytes}

-- a block: its number, the items that were put in it, and how many of them were read
pub record QueueBlock : Type 0 where
  pub block : ℕ
  pub items : List (List ℕ)
  pub read : ℕ

-- the queue's items: those that weren't read
abbrev pub unread : List QueueBlock → List (List ℕ)
unread blocks = flat_map (λ b. drop b.read b.items) blocks

-- whether an item fits in a block behind all that were put in it, read ones too
abbrev pub has_room : ℕ → List ℕ → QueueBlock → Bool
has_room size item b = nat_le (length (items_bytes b.items) + item_size item) size

abbrev pub with_item : QueueBlock → List ℕ → QueueBlock
with_item b item = record { block = b.block; items = b.items ++ item ∷ []; read = b.read }

abbrev pub one_item : ℕ → List ℕ → QueueBlock
one_item block item = record { block = block; items = item ∷ []; read = 0 }

-- the block that an item is put in: the last one where it fits there, and else a new one under this number
abbrev pub pushed_into : ℕ → ℕ → List QueueBlock → List ℕ → ℕ
pushed_into size new blocks item =
    option_map_or (λ b. if has_room size item b then b.block else new) (last_or None blocks) new

-- the blocks after the item was put there
abbrev pub pushed : ℕ → ℕ → List QueueBlock → List ℕ → List QueueBlock
pushed size new [] item = one_item new item ∷ []
pushed size new (b ∷ []) item =
    if has_room size item b then with_item b item ∷ [] else b ∷ one_item new item ∷ []
pushed size new (b ∷ c ∷ blocks) item = b ∷ pushed size new (c ∷ blocks) item

-- whether one more item of a block is read, and then others are left
abbrev pub is_read_on : QueueBlock → Bool
is_read_on b = nat_lt (b.read + 1) (length b.items)

-- the blocks after the first item was taken out: a block all of whose items are read goes
abbrev pub popped : List QueueBlock → List QueueBlock
popped [] = []
popped (b ∷ blocks) =
    if is_read_on b then record { block = b.block; items = b.items; read = b.read + 1 } ∷ blocks else blocks

-- the block that goes then, if one does
abbrev pub popped_out : List QueueBlock → List ℕ
popped_out [] = []
popped_out (b ∷ blocks) = if is_read_on b then [] else b.block ∷ []
