-- What is asked on a day, call by call.
use Rattle.std.proofs.Common.{◌≡◌, ℕ, ◌+◌, ◌-◌, ◌/◌, ◌≤◌, List, [], ◌∷◌, ◌++◌, length, subst, arith, append_assoc, length-append}
use Rattle.std.proofs.lemmas.List.{length-replicate, replicate-append-replicate}
use Rattle.turn_cell.specs.Passes.{PassView, MakesAsks}
use Rattle.turn_cell.proofs.Callers.{asks_more}
use Rattle.turn_till.specs.declared.till.TillAsk.{TillAsk}
use Rattle.turn_till.specs.declared.till.TillAsk.TheVariants.{Pay, Empty}
use Rattle.turn_till.specs.declared.till.TillEntry.{TillEntry}
use Rattle.turn_till.specs.declared.till.TillKey.{TillKey}
use Rattle.turn_till.specs.Rules.{till_ask}
use Rattle.turn_till.specs.Days.{payments, owner_asks}

abbrev TillPass : Type 0
TillPass = PassView TillEntry TillKey

-- one payment more
pub pays_more : (p q r : TillPass) (n : ℕ) → MakesAsks till_ask p (payments n) q → MakesAsks till_ask q (Pay 1 ∷ []) r → MakesAsks till_ask p (payments (n + 1)) r
pays_more p q r n first last =
    subst (λ (asks : List TillAsk). MakesAsks till_ask p asks r) (replicate-append-replicate n 1 (Pay 1)) (asks_more till_ask p q r (payments n) (Pay 1 ∷ []) first last)

-- the owner's calls are payments, one that empties the till, and payments
pub owner_asked : (p q r s : TillPass) (n : ℕ) → MakesAsks till_ask p (payments ((n - 1) / 2)) q → MakesAsks till_ask q (Empty ∷ []) r → MakesAsks till_ask r (payments (n / 2)) s → MakesAsks till_ask p (owner_asks n) s
owner_asked p q r s n first middle last =
    let before : List TillAsk = payments ((n - 1) / 2) in
    let after : List TillAsk = payments (n / 2) in
    subst (λ (asks : List TillAsk). MakesAsks till_ask p asks s) (append_assoc before (Empty ∷ []) after)
    (asks_more till_ask p r s (before ++ Empty ∷ []) after (asks_more till_ask p q r before (Empty ∷ []) first middle) last)

pub payments_count : (n : ℕ) → length (payments n) ≡ n
payments_count n = length-replicate n (Pay 1)

pub owner_count : (n : ℕ) → 1 ≤ n → length (owner_asks n) ≡ n
owner_count n some =
    let before = payments_count ((n - 1) / 2) in
    let after = payments_count (n / 2) in
    let both = length-append (payments ((n - 1) / 2)) (Empty ∷ payments (n / 2)) in
    omega (arith, some, before, after, both)
