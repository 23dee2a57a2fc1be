-- Which names stand under a name, and what stands before and after a text in the order of bytes.
use Rattle.std.specs.Prelude.{ℕ, Bool, true, ◌||◌, nat_eq, List, [], ◌∷◌, ◌++◌}
use Rattle.std.specs.declared.option.Option.{Option}
use Rattle.std.specs.Option.{option_map_or}
use Rattle.std.specs.Ordering.{is_eq, is_lt}
use Rattle.std.specs.List.{starts_with}
use Rattle.far_words.specs.Paths.{bytes_cmp, slash}

abbrev pub is_same : List ℕ → List ℕ → Bool
is_same path name = is_eq (bytes_cmp path name)

-- a name is under another where it begins with that one and a slash
abbrev pub stem : List ℕ → List ℕ
stem path = path ++ slash ∷ []

abbrev pub is_under : List ℕ → List ℕ → Bool
is_under path name = starts_with nat_eq name (stem path)

-- a name itself, and those that it is under
abbrev pub is_along : List ℕ → List ℕ → Bool
is_along path name = is_same path name || is_under name path

-- in the order of bytes
abbrev pub is_after : List ℕ → List ℕ → Bool
is_after text name = is_lt (bytes_cmp text name)

abbrev pub is_before : List ℕ → List ℕ → Bool
is_before text name = is_lt (bytes_cmp name text)

abbrev pub is_past : Option (List ℕ) → List ℕ → Bool
is_past after name = option_map_or (λ text. is_after text name) after true
