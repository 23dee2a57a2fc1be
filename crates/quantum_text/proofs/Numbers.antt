-- Numbers that are read word by word.
use Rattle.std.proofs.Common.{◌≡◌, ℕ, ◌^◌, ◌<◌, ◌≤◌, List, ◌∷◌, get_or, arith}
use Rattle.std.specs.Fmt.{decimal}
use Rattle.std.proofs.lemmas.Fmt.{decimal_injective}
use Rattle.quantum_text.specs.Block.{AreDecimals}
use Rattle.quantum_text.proofs.Items.{Due, due_item}

abbrev pub IsMost : ℕ → ℕ → Type 0
IsMost limit number = number ≤ limit

-- the number that was read is the one that is due
pub due_number : (limit count i : ℕ) (words rest others : List (List ℕ)) (number : ℕ) → limit < 2 ^ 64 → Due decimal (IsMost limit) count i words rest → i < count → rest ≡ decimal number ∷ others → number ≤ limit
    → (numbers : List ℕ) → AreDecimals limit count words numbers → number ≡ get_or numbers i 0
due_number limit count i words rest others number fits due more next within numbers are =
    due_item decimal (IsMost limit) 0 count i words rest others number (λ x y low most. decimal_injective x y (omega arith) (omega arith)) due more next within numbers are
