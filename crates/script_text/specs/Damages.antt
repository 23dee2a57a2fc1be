-- How a parked block's stamp is told, and what was found in its place: parts with a colon between each two.
use Rattle.std.specs.Prelude.{ℕ, ◌+◌, ◌/◌, ◌%◌, ◌^◌, ◌<◌, nat_lt, cond, List, [], ◌∷◌, codes}
use Rattle.std.specs.Fmt.{decimal}
use Rattle.std.specs.List.{flat_map, join_with_byte}
use Rattle.far_words.specs.declared.stamp.Stamp.{Stamp}
use Rattle.far_words.specs.declared.stamp.ImageFault.{ImageFault}
use Rattle.far_words.specs.declared.stamp.ImageFault.TheVariants.{Short, Magic, Version, Length, Digest}
use Rattle.far_words.specs.declared.stamp.Found.{Found}
use Rattle.far_words.specs.declared.stamp.Found.TheVariants.{Absent, Broken, Longer, Other, Unfit}

unfoldable pub with_colons : List (List ℕ) → List ℕ
with_colons parts = join_with_byte 58 parts

-- `0` to `9` and then `a` to `f`
abbrev pub low_digit : ℕ → ℕ
low_digit digit = cond (nat_lt digit 10) (48 + digit) (87 + digit)

-- two digits for each byte
abbrev pub digest_text : List ℕ → List ℕ
digest_text digest = flat_map (λ byte. low_digit (byte / 16) ∷ low_digit (byte % 16) ∷ []) digest

abbrev pub stamp_parts : Stamp → List (List ℕ)
stamp_parts stamp = decimal stamp.user ∷ decimal stamp.block ∷ decimal stamp.length ∷ digest_text stamp.digest ∷ []

abbrev pub fault_parts : ImageFault → List (List ℕ)
fault_parts (Short have) = codes "short" ∷ decimal have ∷ []
fault_parts Magic = codes "magic" ∷ []
fault_parts (Version found) = codes "version" ∷ decimal found ∷ []
fault_parts (Length said have) = codes "length" ∷ decimal said ∷ decimal have ∷ []
fault_parts (Digest kept found) = codes "digest" ∷ digest_text kept ∷ digest_text found ∷ []

abbrev pub found_parts : Found → List (List ℕ)
found_parts Absent = codes "absent" ∷ []
found_parts (Broken fault) = codes "broken" ∷ fault_parts fault
found_parts (Longer len) = codes "longer" ∷ decimal len ∷ []
found_parts (Other stamp) = codes "other" ∷ stamp_parts stamp
found_parts (Unfit place) = codes "unfit" ∷ decimal place ∷ []

abbrev pub stamp_text : Stamp → List ℕ
stamp_text stamp = with_colons (stamp_parts stamp)

abbrev pub found_text : Found → List ℕ
found_text found = with_colons (found_parts found)

-- the line of a block that isn't as it was parked
abbrev pub damage_words : Stamp → Found → List (List ℕ)
damage_words kept found = codes "damaged" ∷ stamp_text kept ∷ found_text found ∷ []

-- each number is within the limit of its field
pub record StampFits (stamp : Stamp) : Type 0 where
  pub user : stamp.user < 2 ^ 32
  pub block : stamp.block < 2 ^ 64
  pub length : stamp.length < 2 ^ 32

abbrev pub FaultFits : ImageFault → Type 0
FaultFits (Short have) = have < 2 ^ 32
FaultFits (Version found) = found < 2 ^ 8
FaultFits (Length said have) = (said < 2 ^ 32) × (have < 2 ^ 32)
FaultFits fault = Unit {0}

abbrev pub FoundFits : Found → Type 0
FoundFits (Broken fault) = FaultFits fault
FoundFits (Longer len) = len < 2 ^ 64
FoundFits (Other stamp) = StampFits stamp
FoundFits (Unfit place) = place < 2 ^ 32
FoundFits found = Unit {0}
