-- A set while its members are copied into one with a greater bound.
use Rattle.std.proofs.Common.{◌≡◌, ℕ, zero, suc, ◌<◌, Bool, false, List, [], ◌∷◌, ◌++◌, length, take, get_or, set, replicate, refl, ap, arith}

-- the numbers below `id` are copied, and from there on come so many that are members or not
abbrev pub copied : List Bool → ℕ → ℕ → Bool → List Bool
copied members id more member = take id members ++ replicate more member

-- one more number is copied
pub copied-next : (members : List Bool) (id more : ℕ) (member : Bool) → id < length members
    → set (copied members id (suc more) member) id (get_or members id false) ≡ copied members (suc id) more member
copied-next [] id more member inside = absurd (omega arith)
copied-next (m ∷ members) zero more member inside = refl
copied-next (m ∷ members) (suc id) more member inside = ap (λ ms. m ∷ ms) (copied-next members id more member (omega arith))
