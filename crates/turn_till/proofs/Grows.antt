-- A history that grows by one entry.
use Rattle.std.proofs.Common.{◌≡◌, ℕ, ◌+◌, ◌≤◌, ◌^◌, List, [], ◌∷◌, ◌++◌, IfSome, IfNone, refl, ap, sym, ◌∙◌, subst, Some, None}
use Rattle.std.specs.declared.option.Option.{Option}
use Rattle.turn_till.specs.declared.till.Till.{Till}
use Rattle.turn_till.specs.declared.till.TillAsk.{TillAsk}
use Rattle.turn_till.specs.declared.till.TillAsk.TheVariants.{Pay}
use Rattle.turn_till.specs.declared.till.TillTell.{TillTell}
use Rattle.turn_till.specs.declared.till.TillTell.TheVariants.{Paid}
use Rattle.turn_till.specs.declared.till.TillEntry.{TillEntry}
use Rattle.turn_till.specs.Rules.{entry_of, cash_with, cash_after, IsRight, IsLegal}
use Rattle.turn_till.specs.Standing.{StandsFor}

after_one : (cash : ℕ) (h : List TillEntry) (e : TillEntry) → cash_after cash (h ++ e ∷ []) ≡ cash_with (cash_after cash h) e.ask e.tell
after_one cash [] e = refl
after_one cash (x ∷ h) e = after_one (cash_with cash x.ask x.tell) h e

legal_one : (cash : ℕ) (h : List TillEntry) (e : TillEntry) → IsLegal cash h → IsRight (cash_after cash h) e.ask e.tell → IsLegal cash (h ++ e ∷ [])
legal_one cash [] e l r = (r, tt)
legal_one cash (x ∷ h) e l r = (l.0, legal_one (cash_with cash x.ask x.tell) h e l.1 r)

pub stands_more : (t u : Till) (ask : TillAsk) (tell : TillTell) (h : List TillEntry) → StandsFor t h → u.float ≡ t.float → u.cash ≡ cash_with t.cash ask tell → IsRight t.cash ask tell → StandsFor u (h ++ entry_of ask tell ∷ [])
stands_more t u ask tell h s float cash right =
    let e : TillEntry = entry_of ask tell in
    let now : u.cash ≡ cash_after t.float (h ++ e ∷ []) = cash ∙ (ap (λ (n : ℕ). cash_with n ask tell) s.cash ∙ sym (after_one t.float h e)) in
    record {
      cash = subst (λ (f : ℕ). u.cash ≡ cash_after f (h ++ e ∷ [])) (sym float) now;
      legal = subst (λ (f : ℕ). IsLegal f (h ++ e ∷ [])) (sym float) (legal_one t.float h e s.legal (subst (λ (n : ℕ). IsRight n ask tell) s.cash right));
    }

-- what a payment leaves and answers
pub paid : (cash now n : ℕ) (o : Option ℕ) → IfSome o (λ m. (now ≡ cash + n) × (m ≡ now)) → IfNone o ((now ≡ cash) × (2 ^ 64 ≤ cash + n)) → (now ≡ cash_with cash (Pay n) (Paid o)) × IsRight cash (Pay n) (Paid o)
paid cash now n None more full = full
paid cash now n (Some m) more full = (more.0, more.1 ∙ more.0)
