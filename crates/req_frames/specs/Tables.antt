-- Tables by kinds.
use Rattle.std.specs.Prelude.{ℕ, List, [], ◌∷◌}
use Rattle.frame_fields.specs.FrameLayouts.{Layout, Table}

-- a row for each of these kinds: its byte, and what follows it
abbrev pub table_of : {K : Type 0} → (K → ℕ) → (K → Layout) → List K → Table
table_of byte_of layout_of [] = []
table_of byte_of layout_of (kind ∷ kinds) = (byte_of kind, layout_of kind) ∷ table_of byte_of layout_of kinds
