-- What a list passes over.
use Rattle.std.specs.Prelude.{◌≡◌, ℕ, true, false, List, None}
use Rattle.lease_tree.specs.Under.{is_after}
use Rattle.lease_tree.specs.Trees.{part_after}

-- after a name, up to a text, nothing is listed
abbrev pub IsPassed : List ℕ → List ℕ → List ℕ → Type 0
IsPassed base name text = (later : List ℕ) → is_after name later ≡ true → is_after text later ≡ false → part_after base later ≡ None

-- and the text doesn't stand before the name
pub record IsSkipped (base name text : List ℕ) : Type 0 where
  pub onward : is_after text name ≡ false
  pub passed : IsPassed base name text
