-- A table, with a place for each number, is seen as a finite map from numbers.
pub use Rattle.id_set.specs.Tables.{entries_from, entries_of, without}
