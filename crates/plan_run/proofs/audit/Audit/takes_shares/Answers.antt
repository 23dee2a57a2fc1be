use Rattle.std.proofs.Common.{◌≡◌, ◌+◌, ◌<◌, ◌^◌, true, false, List, length, map, Option, Some, sym, ◌∙◌, ap, subst, arith}
use Rattle.std.proofs.lemmas.List.{length-map}
use Rattle.karma_rule.specs.declared.row.Row.{Row}
use Rattle.karma_rule.specs.declared.row.Share.{Share}
use Rattle.karma_rule.specs.declared.shape.Shape.{Shape}
use Rattle.demand_book.specs.Book.{BookView}
use Rattle.demand_book.specs.Roster.{seat_of}
use Rattle.quantum_text.specs.declared.line_kind.LineKind.{LineKind}
use Rattle.quantum_text.specs.declared.line_kind.LineKind.TheVariants.{Demand}
use Rattle.quantum_text.specs.Shares.{roster_of, IsSharesLine, IsNoSharesLine}
use Rattle.plan_run.specs.declared.audit.Audit.{Audit}
use Rattle.plan_run.specs.AuditText.{audit_state, with_seats, due_roster, may_be_shares, IsAt, IsMade}
use Rattle.plan_run.proofs.AuditLines.{shares_need_demand, shares_here, at_demand, at_bound}
use Rattle.plan_run.proofs.AuditSteps.{takes_roster}
use Rattle.plan_run.proofs.SharesLines.{line_of_roster, line_of_none}
use Rattle.plan_run.proofs.audit.Audit.takes_shares.Goals as goal

pub returns-then-not-parse_shares_line-clause-none : goal.returns-then-not-parse_shares_line-clause-none
returns-then-not-parse_shares_line-clause-none c =
    let old = c.args.self.now in
    let may : may_be_shares old.kind old.shares_read ≡ true = sym c.shares_may_stand.ensures ∙ c.if-not-shares_may_stand.false in
    let before : roster_of old.wanted ≡ old.book.roster = c.requires.auditing.seats (shares_need_demand old.kind old.shares_read may).1 in
    let users : length old.book.roster ≡ old.book.shape.users = ap (λ (roster : List (Option Share)). length roster) (sym before) ∙ length-map old.wanted.rows seat_of ∙ c.requires.auditing.wanted in
    let bad : IsNoSharesLine old.book.shape (roster_of old.wanted) c.args.line.now = subst (λ (shape : Shape). IsNoSharesLine shape (roster_of old.wanted) c.args.line.now) c.shape.ensures c.if-not-parse_shares_line.ensures.bad in
    shares_here old.book old.kind old.shares_read c.args.line.now may
    ∙ line_of_none old.book.shape old.book.roster c.args.line.now c.requires.fits users (subst (λ (roster : List (Option Share)). IsNoSharesLine old.book.shape roster c.args.line.now) before bad)

pub returns : goal.returns
returns c =
    let old = c.args.self.now in
    let told = c.parse_shares_line.new.report in
    let roster = roster_of told in
    let next : Audit = record { book = c.take_roster.new.self; kind = old.kind; shares_read = true; number = old.number + 1; read = old.read; wanted = told } in
    let may : may_be_shares old.kind old.shares_read ≡ true = sym c.shares_may_stand.ensures ∙ c.if-not-shares_may_stand.false in
    let here = shares_need_demand old.kind old.shares_read may in
    let before : roster_of old.wanted ≡ old.book.roster = c.requires.auditing.seats here.1 in
    let users : length old.book.roster ≡ old.book.shape.users = ap (λ (seats : List (Option Share)). length seats) (sym before) ∙ length-map old.wanted.rows seat_of ∙ c.requires.auditing.wanted in
    let good : IsSharesLine old.book.shape (roster_of old.wanted) c.args.line.now roster = subst (λ (shape : Shape). IsSharesLine shape (roster_of old.wanted) c.args.line.now roster) c.shape.ensures c.if-not-parse_shares_line.ensures.good in
    let is_line : IsSharesLine old.book.shape old.book.roster c.args.line.now roster = subst (λ (seats : List (Option Share)). IsSharesLine old.book.shape seats c.args.line.now roster) before good in
    let due : due_roster old.book old.kind old.shares_read c.args.line.now ≡ Some roster =
    shares_here old.book old.kind old.shares_read c.args.line.now may ∙ line_of_roster old.book.shape old.book.roster c.args.line.now roster c.requires.fits users is_line in
    let book : c.take_roster.new.self ≡ with_seats old.book roster = c.take_roster.ensures ∙ ap (λ (rows : List Row). with_seats old.book (map seat_of rows)) c.items.ensures in
    let at : IsAt Demand false old.number old.book.quanta = subst (λ on. IsAt Demand on old.number old.book.quanta) here.1 (subst (λ (kind : LineKind). IsAt kind old.shares_read old.number old.book.quanta) here.0 c.requires.auditing.at) in
    let bound : old.number < 2 ^ 31 = at_bound Demand false old.number old.book.quanta (omega (arith, at.1)) at in
    let same_users : old.book.shape.users ≡ c.take_roster.new.self.shape.users = ap (λ (b : BookView). b.shape.users) (sym book) in
    record {
      takes = takes_roster old next c.args.line.now roster due
          (ap (λ (b : BookView). audit_state b old.kind true (old.number + 1)) book ∙ ap (λ (kind : LineKind). audit_state (with_seats old.book roster) kind true (old.number + 1)) here.0);
      none = tt;
      kept = tt;
      auditing = record {
        read = c.requires.auditing.read ∙ same_users;
        wanted = c.if-not-parse_shares_line.ensures.others.users ∙ c.requires.auditing.wanted ∙ same_users;
        made = subst (λ (kind : LineKind). IsMade kind told.rows c.take_roster.new.self.rows) (sym here.0) tt;
        at = subst (λ (kind : LineKind). IsAt kind true (old.number + 1) c.take_roster.new.self.quanta) (sym here.0)
            (subst (λ (b : BookView). IsAt Demand true (old.number + 1) b.quanta) (sym book) (at_demand old.number old.book.quanta at));
        shares = λ is. here.0;
        seats = λ is. absurd (cc);
        bound = omega arith;
      };
      ends = omega arith;
    }
