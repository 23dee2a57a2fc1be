use Rattle.std.proofs.Common.{◌≡◌, ◌≢◌, ◌+◌, ◌<◌, ◌≤◌, ◌^◌, false, List, length, map, Some, sym, ◌∙◌, ap, subst, arith}
use Rattle.std.specs.List.{All}
use Rattle.karma_rule.specs.declared.row.Row.{Row}
use Rattle.demand_book.specs.Book.{BookView}
use Rattle.demand_book.specs.Roster.{seat_of}
use Rattle.quantum_text.specs.declared.line_kind.LineKind.{LineKind}
use Rattle.quantum_text.specs.declared.line_kind.LineKind.TheVariants.{Demand, Slices}
use Rattle.quantum_text.specs.LineKind.{numbers_of, limit_of}
use Rattle.plan_run.specs.declared.audit.Audit.{Audit}
use Rattle.plan_run.specs.AuditText.{audit_state, after_demands, due_numbers, next_kind, IsAt, IsMade}
use Rattle.plan_run.specs.Auditing.{IsAuditing, auditing}
use Rattle.plan_run.proofs.AuditLines.{due_good, made_next, at_next, at_slices, at_bound}
use Rattle.plan_run.proofs.AuditSteps.{takes_demands, takes_wanted, not_told}
use Rattle.plan_run.proofs.audit.Audit.take_numbers.Goals as goal

pub returns-in-Demand : goal.returns-in-Demand
returns-in-Demand c =
    let old = c.args.self.now in
    let read = c.read_due.new.read in
    let numbers = numbers_of Demand read in
    let made = after_demands old.book numbers in
    let due = due_good _ _ (numbers_of old.kind read) c.read_due.ensures.numbers c.if-not-read_due.false in
    let due_demand = subst (λ (k : LineKind). due_numbers old.book old.kind c.args.line.now ≡ Some (numbers_of k read)) c.in-Demand.is due in
    let low = subst (λ (k : LineKind). All (λ n. n ≤ limit_of k) (numbers_of k read)) c.in-Demand.is c.if-not-read_due.ensures.within in
    let book : c.take_demands.new.book ≡ made = c.take_demands.ensures.book in
    let users : old.book.shape.users ≡ c.take_demands.new.book.shape.users = ap (λ (b : BookView). b.shape.users) (sym book) in
    let number : c.go_on.new.self.number ≡ old.number + 1 = ap (λ (audit : Audit). audit.number) c.go_on.ensures in
    let quanta : c.take_demands.new.book.quanta ≡ old.book.quanta + 1 = ap (λ (b : BookView). b.quanta) book in
    let at : IsAt Demand old.shares_read old.number old.book.quanta = subst (λ (k : LineKind). IsAt k old.shares_read old.number old.book.quanta) c.in-Demand.is c.requires.auditing.at in
    let bound : old.number < 2 ^ 31 = at_bound Demand old.shares_read old.number old.book.quanta (omega (arith, at.1)) at in
    record {
      takes = takes_demands old c.go_on.new.self c.args.line.now numbers c.in-Demand.is c.requires.no_shares due_demand low
          (ap auditing c.go_on.ensures ∙ ap (λ (b : BookView). audit_state b (next_kind old.kind) false (old.number + 1)) book
          ∙ ap (λ (k : LineKind). audit_state made (next_kind k) false (old.number + 1)) c.in-Demand.is);
      stops = tt;
      auditing = subst IsAuditing (sym c.go_on.ensures) (record {
        read = c.read_due.ensures.rows ∙ c.requires.auditing.read ∙ users;
        wanted = c.take_demands.ensures.fits;
        made = subst (λ (k : LineKind). IsMade (next_kind k) c.take_demands.new.wanted.rows c.take_demands.new.book.rows) (sym c.in-Demand.is) c.take_demands.ensures.wanted;
        at = subst (λ (k : LineKind). IsAt (next_kind k) false (old.number + 1) c.take_demands.new.book.quanta) (sym c.in-Demand.is)
            (subst (λ q. IsAt Slices false (old.number + 1) q) (sym quanta) (at_slices old.shares_read old.number old.book.quanta at));
        shares = λ told. absurd (cc);
        seats = λ told. c.take_demands.ensures.seats;
        bound = omega arith;
      });
      ends = omega arith;
    }

pub returns-else-not-is_wanted : goal.returns-else-not-is_wanted
returns-else-not-is_wanted c =
    let old = c.args.self.now in
    let numbers = numbers_of old.kind c.read_due.new.read in
    let due = due_good _ _ numbers c.read_due.ensures.numbers c.if-not-read_due.false in
    let other : old.kind ≢ Demand = c.in_default.not-Demand in
    let number : c.go_on-in_default.new.self.number ≡ old.number + 1 = ap (λ (audit : Audit). audit.number) c.go_on-in_default.ensures in
    let bound : old.number < 2 ^ 31 = at_bound old.kind old.shares_read old.number old.book.quanta c.is_wanted.ensures.quanta c.requires.auditing.at in
    let none : old.shares_read ≡ false = not_told old.kind old.shares_read c.requires.auditing.shares other in
    record {
      takes = takes_wanted old c.go_on-in_default.new.self c.args.line.now numbers other c.requires.no_shares due c.if-not-read_due.ensures.left (sym c.is_wanted.ensures.same ∙ c.if-not-is_wanted.false) (ap auditing c.go_on-in_default.ensures);
      stops = tt;
      auditing = subst IsAuditing (sym c.go_on-in_default.ensures) (record {
        read = c.read_due.ensures.rows ∙ c.requires.auditing.read;
        wanted = ap (λ (rows : List Row). length rows) c.is_wanted.ensures.rows ∙ c.requires.auditing.wanted;
        made = subst (λ (rows : List Row). IsMade (next_kind old.kind) rows old.book.rows) (sym c.is_wanted.ensures.rows) (made_next old.kind old.wanted.rows old.book.rows other c.requires.auditing.made);
        at = at_next old.kind old.shares_read old.number old.book.quanta other c.if-not-read_due.ensures.left c.requires.auditing.at;
        shares = λ told. absurd (cc);
        seats = λ told. ap (λ (rows : List Row). map seat_of rows) c.is_wanted.ensures.rows ∙ c.requires.auditing.seats none;
        bound = omega arith;
      });
      ends = omega arith;
    }
