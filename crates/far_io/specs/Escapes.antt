-- Escaped texts: for each list of bytes one spelling, in bytes from 33 to 126.
use Rattle.std.specs.Prelude.{◌≡◌, ◌≢◌, ℕ, ◌+◌, ◌/◌, ◌%◌, ◌<◌, ◌==◌, nat_le, nat_lt, Bool, ◌&&◌, not, cond, List, [], ◌∷◌, All, Some}
use Rattle.std.specs.Result.{IfOk}
use Rattle.std.specs.declared.option.Option.{Option}
use Rattle.std.specs.declared.result.Result.{Result}
use Rattle.std.specs.List.{flat_map}

-- 33 to 126 without `%`, which is 37: these bytes stand for themselves
abbrev pub is_plain : ℕ → Bool
is_plain byte = nat_le 33 byte && nat_le byte 126 && not (byte == 37)

-- `0` to `9` and then `A` to `F`
abbrev pub hex_digit : ℕ → ℕ
hex_digit digit = cond (nat_lt digit 10) (48 + digit) (55 + digit)

-- any other byte is `%` and two digits
abbrev pub escaped_byte : ℕ → List ℕ
escaped_byte byte = cond (is_plain byte) (byte ∷ []) (37 ∷ hex_digit (byte / 16) ∷ hex_digit (byte % 16) ∷ [])

-- the empty list is `%` alone
unfoldable pub escaped : List ℕ → List ℕ
escaped [] = 37 ∷ []
escaped (byte ∷ bytes) = flat_map escaped_byte (byte ∷ bytes)

abbrev pub AreBytes : List ℕ → Type 0
AreBytes bytes = All (λ byte. byte < 256) bytes

-- no list of bytes has this spelling
abbrev pub IsNoEscape : List ℕ → Type 0
IsNoEscape text = (bytes : List ℕ) → AreBytes bytes → text ≢ escaped bytes

-- one spelling: where the text is that of a list of bytes, this list is what it stands for
abbrev pub IsReadBack : {E : Type 0} → List ℕ → Result (Option (List ℕ)) E → Type 0
IsReadBack text result = (bytes : List ℕ) → AreBytes bytes → text ≡ escaped bytes → IfOk result (λ found. found ≡ Some bytes)
