-- What contracts see of the sources and sinks in memory.
use Rattle.std.specs.Prelude.{◌≡◌, ℕ, List, ◌++◌}

pub record MemSourceView : Type 0 where
  -- the bytes that are left
  pub left : List ℕ
  -- the most bytes that one call gives
  pub piece : ℕ
  -- the numbers of the calls that fail
  pub fails : List ℕ
  -- how many calls were made, and how many failed
  pub calls : ℕ
  pub faults : ℕ

pub record SureSourceView : Type 0 where
  -- the bytes that are left
  pub left : List ℕ
  -- the most bytes that one call gives
  pub piece : ℕ

pub record MemSinkView : Type 0 where
  -- the bytes that it took
  pub bytes : List ℕ
  -- the numbers of the calls that fail
  pub fails : List ℕ
  -- how many calls were made, and how many failed
  pub calls : ℕ
  pub faults : ℕ

-- it keeps these bytes after those that it kept
abbrev pub MemSinkTook : MemSinkView → MemSinkView → List ℕ → Type 0
MemSinkTook before now bytes = now.bytes ≡ before.bytes ++ bytes

pub record SureSinkView : Type 0 where
  -- the bytes that it took
  pub bytes : List ℕ
  -- for how many bytes more it has room
  pub room : ℕ
  -- how many calls failed
  pub faults : ℕ

-- it keeps these bytes after those that it kept
abbrev pub SureSinkTook : SureSinkView → SureSinkView → List ℕ → Type 0
SureSinkTook before now bytes = now.bytes ≡ before.bytes ++ bytes
