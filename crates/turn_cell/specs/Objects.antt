-- What an object promises by its history.
use Rattle.std.specs.Prelude.{List, [], ◌∷◌, ◌++◌}

-- what the object stood for before a call, it stands for afterwards with the entry of that call
abbrev pub StandsOn : {O E : Type 0} → (O → List E → Type 0) → O → E → O → Type 0
StandsOn {O} {E} stands before entry after = (h : List E) → stands before h → stands after (h ++ entry ∷ [])
