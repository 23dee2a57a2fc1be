-- A queue's block: its items, one after the other, each behind the count of its bytes.
use Rattle.std.specs.Prelude.{◌≡◌, ℕ, ◌+◌, ◌<◌, ◌^◌, List, [], ◌∷◌, ◌++◌, length, drop, Ok, Err, Some, None}
use Rattle.std.specs.declared.option.Option.{Option}
use Rattle.std.specs.declared.result.Result.{Result}
use Rattle.std.specs.Int.{w32, to_be_bytes}
use Rattle.far_words.specs.declared.stamp.Unfit.{Unfit}

-- how many bytes stand before an item
abbrev pub head : ℕ
head = 4

-- the count of its bytes, most significant byte first, and so many bytes
unfoldable pub item_bytes : List ℕ → List ℕ
item_bytes item = to_be_bytes w32 (length item) ++ item

abbrev pub item_size : List ℕ → ℕ
item_size item = head + length item

-- items one after the other, with nothing after the last
abbrev pub items_bytes : List (List ℕ) → List ℕ
items_bytes [] = []
items_bytes (item ∷ items) = item_bytes item ++ items_bytes items

-- its count fits its four bytes
abbrev pub Fits : List ℕ → Type 0
Fits item = length item < 2 ^ 32

-- an item begins at this place
pub record BeginsAt (bytes : List ℕ) (at : ℕ) (item : List ℕ) : Type 0 where
  pub rest : List ℕ
  pub fits : Fits item
  pub parts : drop at bytes ≡ item_bytes item ++ rest

-- or no whole one does
abbrev pub NoItemAt : List ℕ → ℕ → Type 0
NoItemAt bytes at = (item : List ℕ) → BeginsAt bytes at item → ⊥

-- what is read at a place: nothing exactly at the end, else the item that begins there, or there is none that is whole
abbrev pub ReadsAt : {X : Type 0} → (X → List ℕ) → List ℕ → ℕ → Result (Option X) Unfit → Type 0
ReadsAt item_of bytes at (Ok None) = at ≡ length bytes
ReadsAt item_of bytes at (Ok (Some x)) = BeginsAt bytes at (item_of x)
ReadsAt item_of bytes at (Err unfit) = (at < length bytes) × (unfit.place ≡ at) × NoItemAt bytes at

-- this item is what is read
abbrev pub IsItem : {X : Type 0} → (X → List ℕ) → List ℕ → Result (Option X) Unfit → Type 0
IsItem item_of item (Ok None) = ⊥
IsItem item_of item (Ok (Some x)) = item_of x ≡ item
IsItem item_of item (Err unfit) = ⊥
