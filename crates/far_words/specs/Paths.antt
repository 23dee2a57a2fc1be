-- The grammar of names, and their order.
use Rattle.std.specs.Prelude.{◌≡◌, ℕ, ◌+◌, ◌==◌, ◌≤◌, nat_le, Bool, ◌&&◌, ◌||◌, IsTrue, List, [], ◌∷◌, length, take, Some, None}
use Rattle.std.specs.declared.option.Option.{Option}
use Rattle.std.specs.declared.cmp.Ordering.{Ordering}
use Rattle.std.specs.Ordering.{nat_cmp}
use Rattle.std.specs.Cmp.Lexicographic.{slice_cmp}
use Rattle.std.specs.List.{list_all, slice_split, join_with_byte}

abbrev pub is_between : ℕ → ℕ → ℕ → Bool
is_between low high byte = nat_le low byte && nat_le byte high

-- a letter a to z or A to Z, a digit, `_`, `-` or `.`
abbrev pub is_name_byte : ℕ → Bool
is_name_byte byte = is_between 97 122 byte || is_between 65 90 byte || is_between 48 57 byte || byte == 95 || byte == 45 || byte == 46

-- a part has 1 to 32 of these bytes
unfoldable pub is_part : List ℕ → Bool
is_part text = is_between 1 32 (length text) && list_all is_name_byte text

abbrev pub slash : ℕ
slash = 47

-- what stands between the slashes
abbrev pub parts_of : List ℕ → List (List ℕ)
parts_of text = slice_split (λ byte. byte == slash) text

-- a path has at most 8 parts
unfoldable pub is_path : List ℕ → Bool
is_path text = nat_le (length (parts_of text)) 8 && list_all is_part (parts_of text)

-- the same, seen from the parts: 1 to 8 parts that are joined by slashes
pub record IsJoined (text : List ℕ) (parts : List (List ℕ)) : Type 0 where
  pub joined : text ≡ join_with_byte slash parts
  pub some_part : 1 ≤ length parts
  pub at_most_8 : length parts ≤ 8
  pub each : IsTrue (list_all is_part parts)

-- the path of all parts but the last. A path of one part has no parent
abbrev pub joined_parent : List (List ℕ) → Option (List ℕ)
joined_parent [] = None
joined_parent (part ∷ []) = None
joined_parent (part ∷ next ∷ parts) = Some (join_with_byte slash (take (length parts + 1) (part ∷ next ∷ parts)))

abbrev pub parent_of : List ℕ → Option (List ℕ)
parent_of text = joined_parent (parts_of text)

-- names are in the order of their bytes
abbrev pub bytes_cmp : List ℕ → List ℕ → Ordering
bytes_cmp = slice_cmp nat_cmp
