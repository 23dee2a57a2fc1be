-- The grammar of decimals: `0`, or a digit `1` to `9` followed by digits, with a value below 2 ^ 64.
use Rattle.std.specs.Prelude.{◌≢◌, ℕ, ◌+◌, ◌*◌, ◌-◌, ◌^◌, ◌<◌, ◌≤◌, List, [], ◌∷◌, decimal}

-- `0` to `9`
abbrev pub IsDigit : ℕ → Type 0
IsDigit byte = (48 ≤ byte) × (byte ≤ 57)

abbrev pub AreDigits : List ℕ → Type 0
AreDigits [] = Unit {0}
AreDigits (byte ∷ bytes) = IsDigit byte × AreDigits bytes

-- digits, of which the first is 0 only where it is the only one
abbrev pub IsNumeral : List ℕ → Type 0
IsNumeral [] = ⊥
IsNumeral (byte ∷ []) = IsDigit byte
IsNumeral (first ∷ second ∷ bytes) = (49 ≤ first) × (first ≤ 57) × AreDigits (second ∷ bytes)

-- the value of digits that stand after those of a number
abbrev pub value_after : ℕ → List ℕ → ℕ
value_after number [] = number
value_after number (byte ∷ bytes) = value_after (number * 10 + (byte - 48)) bytes

abbrev pub value_of : List ℕ → ℕ
value_of bytes = value_after 0 bytes

-- the text is within the grammar
pub record IsDecimal (text : List ℕ) : Type 0 where
  pub numeral : IsNumeral text
  pub fits : value_of text < 2 ^ 64

-- the text is what std writes for no number of 64 bits
abbrev pub IsNoDecimal : List ℕ → Type 0
IsNoDecimal text = (value : ℕ) → value < 2 ^ 64 → text ≢ decimal value
