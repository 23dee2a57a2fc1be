-- Karma's rule of one quantum: how many slices each user is given, and what it pays or earns in credits.
use Rattle.std.specs.Prelude.{ℕ, zero, suc, ◌+◌, ◌-◌, min, Bool, not, ◌&&◌, nat_lt, if◌then◌else◌, List, [], ◌∷◌, map, Option, Some, None}
use Rattle.std.specs.List.{position, list_all, sum_by}
use Rattle.karma_rule.specs.declared.row.Row.{Row}

-- ---- users in the midst of a quantum
-- a user: `left` counts the slices that it donates and nobody has borrowed yet
pub record User : Type 0 where
  pub row : Row
  pub left : ℕ

-- the users, and how many shared slices nobody has borrowed yet
pub record Quantum : Type 0 where
  pub users : List User
  pub shared : ℕ

-- what a user's fair share is above its floor
abbrev pub surplus : Row → ℕ
surplus row = row.fair - row.floor

-- a number of a user that is present, and 0 for one that is away
abbrev pub if_present : (Row → ℕ) → Row → ℕ
if_present number row = if row.present then number row else 0

-- A user that is present gains as many credits as its fair share is above the floor. It is given what it demands up to the floor, and donates what it leaves of the floor. One that is away is given nothing and has no credits. It donates nothing, so that it neither borrows nor lends.
abbrev pub opened : Row → User
opened row = record {
  row = record row { credits = if_present (λ row. row.credits + surplus row) row; given = if_present (λ row. min row.demand row.floor) row };
  left = if_present (λ row. row.floor - row.demand) row;
}

-- What the fair shares of those who are present are above their floors is shared.
abbrev pub opening : List Row → Quantum
opening rows = record { users = map opened rows; shared = sum_by (if_present surplus) rows }

-- ---- who borrows, and who lends
-- A borrower has unmet demand and at least one credit.
abbrev pub can_borrow : User → Bool
can_borrow user = nat_lt user.row.given user.row.demand && nat_lt 0 user.row.credits

-- A donor has a donated slice left.
abbrev pub can_lend : User → Bool
can_lend user = nat_lt 0 user.left

abbrev pub is_richer : User → User → Bool
is_richer user other = nat_lt other.row.credits user.row.credits

abbrev pub is_poorer : User → User → Bool
is_poorer user other = nat_lt user.row.credits other.row.credits

-- the place of the first that passes and to which no other that passes is preferred
abbrev pub first_best : {X : Type 0} → (X → Bool) → (X → X → Bool) → List X → Option ℕ
first_best passes preferred xs = position (λ x. passes x && list_all (λ y. not (passes y && preferred y x)) xs) xs

-- the borrower with the most credits, lowest number first
abbrev pub next_borrower : List User → Option ℕ
next_borrower users = first_best can_borrow is_richer users

-- the donor with the fewest credits, lowest number first
abbrev pub next_donor : List User → Option ℕ
next_donor users = first_best can_lend is_poorer users

-- ---- one loan
-- The borrower gets one slice and pays one credit.
abbrev pub borrow : User → User
borrow user = record user { row = record user.row { credits = user.row.credits - 1; given = user.row.given + 1 } }

-- The donor gives one of its donated slices and earns one credit.
abbrev pub lend : User → User
lend user = record user { row = record user.row { credits = user.row.credits + 1 }; left = user.left - 1 }

-- the list with its item at a place changed
abbrev pub change_at : {X : Type 0} → (X → X) → List X → ℕ → List X
change_at change [] place = []
change_at change (x ∷ xs) zero = change x ∷ xs
change_at change (x ∷ xs) (suc place) = x ∷ change_at change xs place

-- A donated slice is lent while one is left, and then a shared one. Without a borrower or a slice nothing changes.
abbrev pub loan : Option ℕ → Option ℕ → List User → ℕ → Quantum
loan None donor users shared = record { users = users; shared = shared }
loan (Some borrower) (Some donor) users shared = record { users = change_at lend (change_at borrow users borrower) donor; shared = shared }
loan (Some borrower) None users zero = record { users = users; shared = zero }
loan (Some borrower) None users (suc shared) = record { users = change_at borrow users borrower; shared = shared }

abbrev pub next : Quantum → Quantum
next quantum = loan (next_borrower quantum.users) (next_donor quantum.users) quantum.users quantum.shared

-- ---- the whole quantum
abbrev pub after_loans : ℕ → Quantum → Quantum
after_loans zero quantum = quantum
after_loans (suc loans) quantum = after_loans loans (next quantum)

-- how many slices can be lent at most
abbrev pub lendable : Quantum → ℕ
lendable quantum = sum_by (λ user. user.left) quantum.users + quantum.shared

-- Each loan takes a slice, so after as many loans as there are slices to lend none is possible.
unfoldable pub closing : Quantum → Quantum
closing quantum = after_loans (lendable quantum) quantum

abbrev pub row_of : User → Row
row_of user = user.row

-- the rows after the quantum
abbrev pub karma : List Row → List Row
karma rows = map row_of (closing (opening rows)).users
