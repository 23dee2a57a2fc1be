-- Names with leases and bodies.
use Rattle.std.specs.Prelude.{◌≡◌, ℕ, Bool, List, [], ◌∷◌, map}
use Rattle.std.specs.List.Sorted.{IsStrictlySortedBy}
use Rattle.std.specs.Map.{keys_of}
use Rattle.far_words.specs.Paths.{bytes_cmp}
use Rattle.lease_tree.specs.declared.lease.Lease.{Lease}
use Rattle.lease_tree.specs.Leases.{Ends}

-- the moment of a name's lease, whether its end has nothing left to do, and what the name stands for
pub record Leased (B : Type 0) : Type 0 where
  pub end : ℕ
  pub settled : Bool
  pub body : B

-- a finite map is the list of its entries in the order of their keys
abbrev pub Names : Type 0 → Type 0
Names B = List (List ℕ × Leased B)

abbrev pub leased : {B : Type 0} → Lease → B → Leased B
leased lease body = record { end = lease.end; settled = lease.settled; body = body }

-- a body for each lease, name by name
abbrev pub joined : {B : Type 0} → List (List ℕ × B) → Ends → Names B
joined [] ends = []
joined (b ∷ bodies) [] = []
joined (b ∷ bodies) (e ∷ ends) = (b.0, leased e.1 b.1) ∷ joined bodies ends

abbrev pub lease_of : {B : Type 0} → Leased B → Lease
lease_of name = record { end = name.end; settled = name.settled }

abbrev pub ends_of : {B : Type 0} → Names B → Ends
ends_of names = map (λ e. (e.0, lease_of e.1)) names

abbrev pub bodies_of : {B : Type 0} → Names B → List (List ℕ × B)
bodies_of names = map (λ e. (e.0, e.1.body)) names

-- bodies and leases are of the same names, which are in order
pub record AreOfSame {B : Type 0} (bodies : List (List ℕ × B)) (ends : Ends) : Type 0 where
  pub same : keys_of bodies ≡ keys_of ends
  pub ordered : IsStrictlySortedBy bytes_cmp (keys_of bodies)
