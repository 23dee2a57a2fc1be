-- Records packed first fit: each goes to the first block with room for it, else to a further block.
use Rattle.std.specs.Prelude.{ℕ, ◌+◌, Bool, nat_le, if◌then◌else◌, List, [], ◌∷◌, ◌++◌, fold}
use Rattle.table_block.specs.Records.{Record, record_size, records_size}

-- a block of at most `size` bytes has room for so many more
abbrev pub fits_in : ℕ → ℕ → List Record → Bool
fits_in size more block = nat_le (records_size block + more) size

abbrev pub with_record : ℕ → List (List Record) → Record → List (List Record)
with_record size [] r = (r ∷ []) ∷ []
with_record size (block ∷ blocks) r =
    if fits_in size (record_size r) block then (block ++ r ∷ []) ∷ blocks else block ∷ with_record size blocks r

-- the records in order, into these blocks
abbrev pub with_records : ℕ → List (List Record) → List Record → List (List Record)
with_records size blocks records = fold (with_record size) blocks records

abbrev pub packed : ℕ → List Record → List (List Record)
packed size records = with_records size [] records
