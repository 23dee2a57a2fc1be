-- What contracts see of a slice with a block.
use Rattle.std.specs.Prelude.{ℕ, ◌+◌, List, ◌++◌, length, take, drop}

-- a slice with a block: which one it is, how many bytes it has room for, its number, and the block's bytes
pub record UsedView : Type 0 where
  pub id : ℕ
  pub size : ℕ
  pub number : ℕ
  pub bytes : List ℕ

-- the bytes after a piece was written over them from a place on, past their end where it reaches so far
abbrev pub written_at : List ℕ → ℕ → List ℕ → List ℕ
written_at bytes at piece = take at bytes ++ piece ++ drop (at + length piece) bytes
