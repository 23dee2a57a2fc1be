-- Words that spell a list of items.
use Rattle.std.specs.Prelude.{◌≡◌, ℕ, List, length, map, All}

-- the words are those of these items, so many, each within its limits
pub record Spells {X : Type 0} (word : X → List ℕ) (Within : X → Type 0) (count : ℕ) (words : List (List ℕ))
    (items : List X) : Type 0 where
  pub spelled : words ≡ map word items
  pub many : length items ≡ count
  pub within : All Within items
