-- What the history of a till says, by its entries alone.
use Rattle.std.specs.Prelude.{◌≡◌, ℕ, ◌+◌, ◌^◌, ◌≤◌, Bool, true, false, List, [], ◌∷◌, Some, None}
use Rattle.turn_till.specs.declared.till.TillAsk.{TillAsk}
use Rattle.turn_till.specs.declared.till.TillAsk.TheVariants.{Pay, Count, Empty}
use Rattle.turn_till.specs.declared.till.TillTell.{TillTell}
use Rattle.turn_till.specs.declared.till.TillTell.TheVariants.{Paid, Counted, Emptied}
use Rattle.turn_till.specs.declared.till.TillEntry.{TillEntry}

abbrev pub entry_of : TillAsk → TillTell → TillEntry
entry_of ask tell = record { ask = ask; tell = tell }

abbrev pub till_ask : TillEntry → TillAsk
till_ask e = e.ask

-- the one move
abbrev pub takes_out : TillAsk → Bool
takes_out (Pay n) = false
takes_out Count = false
takes_out Empty = true

-- what is in the till after a call
abbrev pub cash_with : ℕ → TillAsk → TillTell → ℕ
cash_with cash (Pay n) (Paid (Some m)) = cash + n
cash_with cash Empty t = 0
cash_with cash _ _ = cash

-- the answer is right where this is in the till
abbrev pub IsRight : ℕ → TillAsk → TillTell → Type 0
IsRight cash (Pay n) (Paid None) = 2 ^ 64 ≤ cash + n
IsRight cash (Pay n) (Paid (Some m)) = m ≡ cash + n
IsRight cash Count (Counted m) = m ≡ cash
IsRight cash Empty (Emptied m) = m ≡ cash
IsRight cash _ _ = ⊥

-- an answer of the ask's kind
abbrev pub Answers : TillAsk → TillTell → Type 0
Answers (Pay n) (Paid o) = Unit {0}
Answers Count (Counted m) = Unit {0}
Answers Empty (Emptied m) = Unit {0}
Answers _ _ = ⊥

abbrev pub cash_after : ℕ → List TillEntry → ℕ
cash_after cash [] = cash
cash_after cash (e ∷ h) = cash_after (cash_with cash e.ask e.tell) h

-- each answer of the history is right at its place
abbrev pub IsLegal : ℕ → List TillEntry → Type 0
IsLegal cash [] = Unit {0}
IsLegal cash (e ∷ h) = IsRight cash e.ask e.tell × IsLegal (cash_with cash e.ask e.tell) h
