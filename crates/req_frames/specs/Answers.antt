-- What decoding answers.
use Rattle.std.specs.Prelude.{◌≡◌, ℕ, ◌+◌, List, ◌++◌, Ok, Err}
use Rattle.std.specs.declared.result.Result.{Result}
use Rattle.frame_fields.specs.declared.ends.ReadEnd.{ReadEnd}
use Rattle.frame_fields.specs.declared.ends.ReadEnd.TheVariants as reads
use Rattle.req_frames.specs.declared.decode.FrameEnd.{FrameEnd}
use Rattle.req_frames.specs.declared.decode.FrameEnd.TheVariants.{BadFrame, NoMemory}

-- each value has one frame, and no frame begins another
abbrev pub HasOneReading : {X : Type 0} → (X → List ℕ) → (X → Type 0) → Type 0
HasOneReading {X} frame_of within =
    (one other : X) (more rest : List ℕ) → within one → within other → frame_of one ++ more ≡ frame_of other ++ rest
    → (one ≡ other) × (more ≡ rest)

-- a bad place is told, and want of memory is free
abbrev pub IsEnd : (ℕ → Type 0) → FrameEnd → Type 0
IsEnd bad (BadFrame place) = bad place
IsEnd bad NoMemory = Unit {0}

-- the frame is that of this value, or it is that of none and its bad place is told, or memory ran out
abbrev pub IsDecoded : {X : Type 0} → (X → List ℕ) → (X → Type 0) → (List ℕ → ℕ → Type 0) → List ℕ → Result X FrameEnd
    → Type 0
IsDecoded frame_of within bad frame (Ok x) = (frame ≡ frame_of x) × within x
IsDecoded frame_of within bad frame (Err end) = IsEnd (bad frame) end

-- it is this value, but for memory
abbrev pub IsOneOf : {X : Type 0} → X → Result X FrameEnd → Type 0
IsOneOf x (Ok y) = y ≡ x
IsOneOf x (Err end) = IsEnd (λ place. ⊥) end

-- this bad place is told, but for memory
abbrev pub IsBadAt : {X : Type 0} → ℕ → Result X FrameEnd → Type 0
IsBadAt place (Ok x) = ⊥
IsBadAt place (Err end) = IsEnd (λ told. told ≡ place) end

-- the end of a frame of this length whose body ends so
abbrev pub IsEndOf : ℕ → ReadEnd → FrameEnd → Type 0
IsEndOf length (reads.Bad left) (BadFrame place) = place + left ≡ length
IsEndOf length (reads.Bad left) NoMemory = ⊥
IsEndOf length reads.NoMemory (BadFrame place) = ⊥
IsEndOf length reads.NoMemory NoMemory = Unit {0}
