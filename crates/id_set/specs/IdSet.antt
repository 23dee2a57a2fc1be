-- A set of numbers below a bound, as a list: place `id` says whether `id` is a member.
use Rattle.std.specs.Prelude.{ℕ, ◌-◌, Bool, true, false, List, ◌++◌, Option, length, replicate, slice_index_or, slice_set, position, count_by}

-- every number below the bound, or none
abbrev pub filled : ℕ → Bool → List Bool
filled bound member = replicate bound member

-- no number below the bound
abbrev pub empty : ℕ → List Bool
empty bound = filled bound false

-- every number below the bound
abbrev pub full : ℕ → List Bool
full bound = filled bound true

-- whether a number is a member
abbrev pub contains : List Bool → ℕ → Bool
contains members id = slice_index_or members id false

abbrev pub insert : List Bool → ℕ → List Bool
insert members id = slice_set members id true

abbrev pub remove : List Bool → ℕ → List Bool
remove members id = slice_set members id false

-- a number is a member or not
abbrev pub with : List Bool → ℕ → Bool → List Bool
with members id member = slice_set members id member

-- under a greater bound. The numbers from the old one on are members or not
abbrev pub grown : List Bool → ℕ → Bool → List Bool
grown members bound member = members ++ replicate (bound - length members) member

-- the lowest member
abbrev pub first : List Bool → Option ℕ
first members = position (λ member. member) members

-- how many members there are
abbrev pub count : List Bool → ℕ
count members = count_by (λ member. member) members
