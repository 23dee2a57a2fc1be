-- What reading answers.
use Rattle.std.specs.Prelude.{◌≡◌, ℕ, List, ◌++◌, Ok, Err, Some, None}
use Rattle.std.specs.declared.option.Option.{Option}
use Rattle.std.specs.declared.result.Result.{Result}
use Rattle.frame_fields.specs.declared.ends.ReadEnd.{ReadEnd}
use Rattle.frame_fields.specs.declared.ends.ReadEnd.TheVariants.{Bad, NoMemory}
use Rattle.frame_fields.specs.Fields.{Field, Shape, IsValue, NoValue, spelling, spelled}
use Rattle.frame_fields.specs.FrameLayouts.{Layout, Fits, IsBroken, IsBad}

-- a bad place is told, and want of memory is free
abbrev pub Blames : (ℕ → Type 0) → ReadEnd → Type 0
Blames is_place (Bad left) = is_place left
Blames is_place NoMemory = Unit {0}

module _ {X : Type 0} (fields : X → List Field) (rest : X → List ℕ) where
  -- fields of this layout stood at the front, or the place of the first broken one is told
  abbrev pub Reads : Layout → List ℕ → Result X ReadEnd → Type 0
  Reads layout bytes (Ok x) = (bytes ≡ spelled (fields x) ++ rest x) × Fits layout (fields x)
  Reads layout bytes (Err end) = Blames (IsBroken layout bytes) end

-- fields of this layout were all bytes, or the bad place is told
abbrev pub ReadsAll : {X : Type 0} → (X → List Field) → Layout → List ℕ → Result X ReadEnd → Type 0
ReadsAll fields layout bytes (Ok x) = (bytes ≡ spelled (fields x)) × Fits layout (fields x)
ReadsAll fields layout bytes (Err end) = Blames (IsBad layout bytes) end

-- the same behind a kind: it is the kind of what was read
abbrev pub ReadsKind : {X K : Type 0} → (X → K) → (X → List Field) → K → Layout → List ℕ → Result X ReadEnd → Type 0
ReadsKind kind_of fields_after kind layout bytes (Ok x) =
    (kind_of x ≡ kind) × (bytes ≡ spelled (fields_after x)) × Fits layout (fields_after x)
ReadsKind kind_of fields_after kind layout bytes (Err end) = Blames (IsBad layout bytes) end

-- a value of this shape stood at the front, or none does
abbrev pub Finds : {X : Type 0} → (X → Field) → (X → List ℕ) → Shape → List ℕ → Option X → Type 0
Finds field rest shape bytes (Some x) = (bytes ≡ spelling (field x) ++ rest x) × IsValue shape (field x)
Finds field rest shape bytes None = NoValue shape bytes
