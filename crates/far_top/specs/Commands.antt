-- What the words after the program's name ask for.
use Rattle.std.specs.Prelude.{◌≡◌, ℕ, List, [], ◌∷◌, ◌++◌, codes, decimal}
use Rattle.karma_rule.specs.declared.shape.Shape.{Shape}
use Rattle.karma_rule.specs.Limits.{IsPlan, IsStore}
use Rattle.far_top.specs.declared.command.Command.{Command}
use Rattle.far_top.specs.declared.command.Command.TheVariants.{Plan, Audit, Replay}

-- the numbers of a plan, as they are written
abbrev pub shape_words : Shape → List (List ℕ)
shape_words shape = decimal shape.users ∷ decimal shape.share.fair ∷ decimal shape.share.floor ∷ decimal shape.credits ∷ []

-- these words are the numbers of a plan, each within its limits
pub record IsShapeWords (words : List (List ℕ)) (shape : Shape) : Type 0 where
  pub spelled : words ≡ shape_words shape
  pub within : IsPlan shape
  pub unsliced : shape.slice ≡ 0

-- These words are the numbers of a store, the size of a slice last, each within its limits. There is one user.
pub record IsStoreWords (words : List (List ℕ)) (shape : Shape) : Type 0 where
  pub spelled : words ≡ shape_words shape ++ decimal shape.slice ∷ []
  pub within : IsStore shape
  pub one_user : shape.users ≡ 1

-- these words ask for this
abbrev pub IsWords : List (List ℕ) → Command → Type 0
IsWords words (Plan shape) = (others : List (List ℕ)) × (words ≡ codes "plan" ∷ others) × IsShapeWords others shape
IsWords words (Audit shape) = (others : List (List ℕ)) × (words ≡ codes "audit" ∷ others) × IsShapeWords others shape
IsWords words (Replay shape) = (others : List (List ℕ)) × (words ≡ codes "replay" ∷ others) × IsStoreWords others shape

-- these words ask for nothing
abbrev pub IsNoWords : List (List ℕ) → Type 0
IsNoWords words = (command : Command) → IsWords words command → ⊥

-- its numbers are within the limits
abbrev pub IsWithinLimits : Command → Type 0
IsWithinLimits (Plan shape) = IsPlan shape
IsWithinLimits (Audit shape) = IsPlan shape
IsWithinLimits (Replay shape) = IsStore shape × (shape.users ≡ 1)

-- how many stores it wants: a replay one for each user
abbrev pub shelves_of : Command → ℕ
shelves_of (Plan shape) = 0
shelves_of (Audit shape) = 0
shelves_of (Replay shape) = shape.users

-- what these words ask for wants so many stores, and words that ask for nothing want none
pub record IsShelfCount (words : List (List ℕ)) (count : ℕ) : Type 0 where
  pub good : (command : Command) → IsWords words command → count ≡ shelves_of command
  pub bad : IsNoWords words → count ≡ 0
