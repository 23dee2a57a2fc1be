-- What a buffer in front of a sink took.
use Rattle.std.specs.Prelude.{◌≡◌, ℕ, List}
use Rattle.far_io.specs.declared.write_buf.WriteBuf.{WriteBuf}
use Rattle.far_io.specs.Sends.{Sends}

-- The buffer stayed in front of the same sink. What it held before, and then these bytes, went to that sink but for what
-- it holds now.
pub record BufTook {O : Type 0} (took : O → O → List ℕ → Type 0) (before now : WriteBuf O) (bytes : List ℕ) : Type 0 where
  pub same_sink : now.sink.ghost_name ≡ before.sink.ghost_name
  pub sends : Sends took before.sink.now now.sink.now before.room.now now.room.now bytes
