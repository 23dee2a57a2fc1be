-- Why a block's records were not read.
use Rattle.std.specs.Prelude.{ℕ, List}
use Rattle.table_block.specs.Records.{IsUnfit}
use Rattle.slot_split.specs.declared.records.RecordsEnd.{RecordsEnd}
use Rattle.slot_split.specs.declared.records.RecordsEnd.TheVariants.{Unfit, NoMemory}

-- the first record that isn't whole is told, and want of memory is free
abbrev pub BlamesRecords : List ℕ → RecordsEnd → Type 0
BlamesRecords bytes (Unfit unfit) = IsUnfit bytes unfit.place
BlamesRecords bytes NoMemory = Unit {0}
