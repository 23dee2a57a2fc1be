-- What a sink stands for that keeps counts of what it took, and a digest.
use Rattle.std.specs.Prelude.{◌≡◌, ℕ, List, ◌++◌, take}
use Rattle.far_io.specs.Lines.{last_part}
use Rattle.sha2.specs.declared.Sha256.{Sha256}
use Rattle.sha2.specs.Hashers.{Holds256}
use Rattle.sha2.specs.Sha256.{sha256}
use Rattle.far_drill.specs.declared.output.Tally.{Tally}
use Rattle.far_drill.specs.declared.sink.Summary.{Summary}
use Rattle.far_drill.specs.Output.{told, refusals_in, quanta_in}

-- what contracts see of such a sink
pub record DrillSinkView : Type 0 where
  pub tally : Tally
  pub hasher : Sha256

-- so much of a line is kept that its first word can be told
abbrev pub kept_of : List ℕ → List ℕ
kept_of line = take 16 line

-- the counts are those of these bytes, and so is what is kept of the line that has no line end yet
pub record Counts (tally : Tally) (bytes : List ℕ) : Type 0 where
  pub refused : tally.refused ≡ told (refusals_in bytes)
  pub quanta : tally.quanta ≡ told (quanta_in bytes)
  pub kept : tally.kept ≡ kept_of (last_part bytes)

-- The sink has the counts of these bytes, what it keeps of their unfinished line, and their digest's state.
pub record StandsFor (sink : DrillSinkView) (bytes : List ℕ) : Type 0 where
  pub counts : Counts sink.tally bytes
  pub digest : Holds256 sink.hasher bytes

-- Where it stood for some bytes before, it stands for them with these after them now.
abbrev pub DrillTook : DrillSinkView → DrillSinkView → List ℕ → Type 0
DrillTook before now bytes = (old : List ℕ) → StandsFor before old → StandsFor now (old ++ bytes)

-- what a summary tells of these bytes
abbrev pub summary_of : List ℕ → Summary
summary_of bytes = record { refused = told (refusals_in bytes); quanta = told (quanta_in bytes); digest = sha256 bytes }
