-- Lines that an audit takes.
use Rattle.std.proofs.Common.{◌≡◌, ◌≢◌, ℕ, ◌+◌, ◌<◌, ◌≤◌, ◌^◌, Bool, true, false, List, [], Option, Some, None, Ok, IfSome, IfNone, refl, sym, ◌∙◌, ap, subst}
use Rattle.std.specs.List.{All}
use Rattle.std.specs.Str.{bytes_eq}
use Rattle.std.proofs.lemmas.Bool.{cond-true}
use Rattle.karma_rule.specs.declared.row.Share.{Share}
use Rattle.quantum_text.specs.declared.line_kind.LineKind.{LineKind}
use Rattle.quantum_text.specs.declared.line_kind.LineKind.TheVariants.{Quantum, Demand, Slices, Credits}
use Rattle.far_io.proofs.Adds.{adds_nothing}
use Rattle.run_end.specs.Why.{end_of}
use Rattle.run_end.specs.declared.why.Why.{Why}
use Rattle.line_run.specs.Chunks.{chunk_of}
use Rattle.line_run.specs.LineRules.{IsOwnEnd, ComesOfLine}
use Rattle.plan_run.specs.declared.audit.Audit.{Audit}
use Rattle.plan_run.specs.Ending.{Ending}
use Rattle.plan_run.specs.SharesLine.{roster_of_line}
use Rattle.plan_run.specs.AuditText.{AuditState, audit_state, audit_one, judged, due_numbers, due_roster, may_be_shares, wanted, next_kind, with_seats, after_demands}
use Rattle.plan_run.specs.Auditing.{auditing, audit_rules, audit_last, IsLeft, IsFit}
use Rattle.plan_run.proofs.Choices.{some_in}
use Rattle.plan_run.proofs.SharesLines.{roster_some}
use Rattle.plan_run.proofs.AuditLines.{one_good, one_roster, compared_one, shares_need_demand}
use Rattle.plan_run.proofs.AuditBooks.{inside_next, inside_told, its_slices}

-- a line for which nothing is written, and after which this is the state
takes_to : (old next : Audit) (line : List ℕ) (state : AuditState) → auditing next ≡ state → ((others : AuditState → Ending) → audit_one (auditing old) line others ≡ others state)
    → (IsFit (auditing old) → IsFit state) → audit_rules.takes old (chunk_of line []) next
takes_to old next line state is brings fits = (λ others. brings others ∙ ap others (sym is), λ fit. subst IsFit (sym is) (fits fit))

judged_demand : (kind : LineKind) (state : AuditState) (line numbers : List ℕ) (others : AuditState → Ending) → kind ≡ Demand
    → judged kind state line numbers others ≡ others (audit_state (after_demands state.book numbers) Slices false (state.lines + 1))
judged_demand Quantum state line numbers others is = absurd (cc)
judged_demand Demand state line numbers others is = refl
judged_demand Slices state line numbers others is = absurd (cc)
judged_demand Credits state line numbers others is = absurd (cc)

next_is_demand : (kind : LineKind) → next_kind kind ≡ Demand → kind ≡ Quantum
next_is_demand Quantum is = refl
next_is_demand Demand is = absurd (cc)
next_is_demand Slices is = absurd (cc)
next_is_demand Credits is = absurd (cc)

pub not_told : (kind : LineKind) (shares_read : Bool) → (shares_read ≡ true → kind ≡ Demand) → (kind ≡ Demand → ⊥) → shares_read ≡ false
not_told kind true told other = absurd (other (told refl))
not_told kind false told other = refl

module _ (old next : Audit) (line : List ℕ) where
  -- a roster
  pub takes_roster : (roster : List (Option Share)) → due_roster old.book old.kind old.shares_read line ≡ Some roster → auditing next ≡ audit_state (with_seats old.book roster) Demand true (old.number + 1) → audit_rules.takes old (chunk_of line []) next
  takes_roster roster due is =
      let may = some_in (may_be_shares old.kind old.shares_read) (roster_of_line old.book.shape old.book.roster line) roster due in
      takes_to old next line (audit_state (with_seats old.book roster) Demand true (old.number + 1)) is
      (λ others. one_roster old.book old.kind old.shares_read line old.number roster due others)
      (λ fit. record {
        inside = inside_told old.book old.shares_read roster fit.inside (roster_some old.book.shape old.book.roster line roster may.1).roster_is;
        given = fit.given;
        shares = λ told. refl;
        left = λ same. fit.left (shares_need_demand old.kind old.shares_read may.0).0;
      })

  -- the demands of a quantum
  pub takes_demands : (numbers : List ℕ) → old.kind ≡ Demand → due_roster old.book old.kind old.shares_read line ≡ None → due_numbers old.book old.kind line ≡ Some numbers → All (λ demand. demand ≤ 2 ^ 42) numbers
      → auditing next ≡ audit_state (after_demands old.book numbers) Slices false (old.number + 1) → audit_rules.takes old (chunk_of line []) next
  takes_demands numbers is_demand no_roster due low is =
      takes_to old next line (audit_state (after_demands old.book numbers) Slices false (old.number + 1)) is
      (λ others. one_good old.book old.kind old.shares_read line old.number numbers no_roster due others ∙ judged_demand old.kind (auditing old) line numbers others is_demand)
      (λ fit.
      let more : old.book.quanta < 2 ^ 28 = fit.left is_demand in
      record {
        inside = inside_next old.book numbers old.shares_read fit.inside low more;
        given = its_slices old.book numbers old.shares_read fit.inside low more;
        shares = λ told. absurd (cc);
        left = λ same. absurd (cc);
      })

  -- a line that is the one that is wanted
  pub takes_wanted : (numbers : List ℕ) → old.kind ≢ Demand → due_roster old.book old.kind old.shares_read line ≡ None → due_numbers old.book old.kind line ≡ Some numbers → (old.kind ≡ Quantum → old.book.quanta < 2 ^ 28)
      → bytes_eq numbers (wanted old.kind old.book) ≡ true → auditing next ≡ audit_state old.book (next_kind old.kind) false (old.number + 1) → audit_rules.takes old (chunk_of line []) next
  takes_wanted numbers other no_roster due left same is =
      takes_to old next line (audit_state old.book (next_kind old.kind) false (old.number + 1)) is
      (λ others. one_good old.book old.kind old.shares_read line old.number numbers no_roster due others ∙ compared_one old.kind other (auditing old) line numbers others ∙ cond-true _ _ _ same)
      (λ fit. record { inside = subst (IsLeft old.book) (not_told old.kind old.shares_read fit.shares other) fit.inside; shares = λ told. absurd (cc); given = fit.given; left = λ is_next. left (next_is_demand old.kind is_next) })

-- ---- what a call took
-- a line of numbers that was taken, or at which the run ends
pub comes_of : {O : Type 0} (took : O → O → List ℕ → Type 0) (sink : O) (old middle new : Audit) (line : List ℕ) (result : Option Why) → middle ≡ old → IfNone result (audit_rules.takes middle (chunk_of line []) new)
    → IfSome result (λ why. IsOwnEnd (end_of why).status × audit_rules.stops middle line new (end_of why) (audit_last new line why)) → ComesOfLine audit_rules took (audit_last new line) sink sink old new line (Ok result)
comes_of took sink old middle new line None same takes stops = record { text = []; takes = subst (λ (audit : Audit). audit_rules.takes audit (chunk_of line []) new) same takes; adds = adds_nothing took sink }
comes_of took sink old middle new line (Some why) same takes stops = record { own = stops.0; stops = subst (λ (audit : Audit). audit_rules.stops audit line new (end_of why) (audit_last new line why)) same stops.1; unsent = refl }
