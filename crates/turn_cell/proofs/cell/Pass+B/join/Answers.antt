use Rattle.std.proofs.Common.{rules, ◌≡◌, ap, sym, ◌∙◌, min, ◌||◌}
use Rattle.turn_cell.specs.Passes.{pass_view, joined_pass}
use Rattle.turn_cell.proofs.JoinSteps.{joins, settles}
use Rattle.turn_cell.proofs.Joining.{joined_seat, is_ready, sees_on, apart_on}
use Rattle.turn_cell.proofs.cell.Pass+B.join.Goals as goal

pub join_seat-requires : goal.join_seat-requires
join_seat-requires g c = (
  search rules,
  search rules,
  c.other.invariant.ready.holds_none,
  search rules,
  joins _ _ _ _ _ _ _ _ _ _ _ _ _ c.self.invariant.ready.alive c.self.invariant.ready.idle c.other.invariant.ready.idle,
)

pub load-requires : goal.load-requires
load-requires g c =
    let e = c.join_seat.ensures.2 in
    (search rules, search rules, settles _ _ _ _ _ _ _ _ _ _ _ _ _ _ (ap (λ m. m.0.stage) e))

pub invariant_of-result : goal.invariant_of-result
invariant_of-result g c =
    let v = c.self.inside.seat.me.0 in
    let w = c.other.inside.seat.me.0 in
    let left = min v.left w.left in
    let j = joined_seat _ _ _ g.B.Object.moving left c.self.inside.seat.me w c.join_seat.new.seat.me c.load.new.seat.me c.self.invariant.ready c.join_seat.ensures.2 c.load.ensures.2 in
    record {
      ready = is_ready _ _ _ g.B.Object.moving left c.self.inside.seat.me w c.load.new.seat.me c.self.invariant.ready j.0;
      keyed = ap (λ m. m.0.key) j.0 ∙ c.self.invariant.keyed;
      numbered = c.self.invariant.numbered ∙ sym (ap (λ m. m.0.number) j.0);
      calls = c.min.ensures ∙ ((λ i. min (c.self.invariant.calls i) (c.other.invariant.calls i)) ∙ sym (ap (λ m. m.0.left) j.0));
      right = (λ i. c.self.invariant.right i || c.other.invariant.right i) ∙ sym (ap (λ m. m.0.may_move) j.0);
    }

pub returns-clause-joined : goal.returns-clause-joined
returns-clause-joined g c =
    let v = c.self.inside.seat.me.0 in
    let w = c.other.inside.seat.me.0 in
    let j = joined_seat _ _ _ g.B.Object.moving (min v.left w.left) c.self.inside.seat.me w c.join_seat.new.seat.me c.load.new.seat.me c.self.invariant.ready c.join_seat.ensures.2 c.load.ensures.2 in
    let table : c.load.new.seat.table_id ≡ c.self.inside.seat.table_id = c.load.ensures.0 ∙ c.join_seat.ensures.0 in
    (λ i. pass_view (table i) c.self.inside.key (j.0 i).0) ∙ (λ i. joined_pass (c.self.view_is i) (c.other.view_is i))

pub returns-clause-mine : goal.returns-clause-mine
returns-clause-mine g c =
    let v = c.self.inside.seat.me.0 in
    let w = c.other.inside.seat.me.0 in
    let j = joined_seat _ _ _ g.B.Object.moving (min v.left w.left) c.self.inside.seat.me w c.join_seat.new.seat.me c.load.new.seat.me c.self.invariant.ready c.join_seat.ensures.2 c.load.ensures.2 in
    sees_on _ _ g.B.Object.moving _ _ _ _ c.self.view_is (ap (λ m. m.0.seen) (sym j.0)) j.1

pub returns-clause-theirs : goal.returns-clause-theirs
returns-clause-theirs g c =
    let v = c.self.inside.seat.me.0 in
    let w = c.other.inside.seat.me.0 in
    let j = joined_seat _ _ _ g.B.Object.moving (min v.left w.left) c.self.inside.seat.me w c.join_seat.new.seat.me c.load.new.seat.me c.self.invariant.ready c.join_seat.ensures.2 c.load.ensures.2 in
    sees_on _ _ g.B.Object.moving _ _ _ _ c.other.view_is (ap (λ m. m.0.seen) (sym j.0)) j.2

pub returns-clause-apart : goal.returns-clause-apart
returns-clause-apart g c =
    let v = c.self.inside.seat.me.0 in
    let w = c.other.inside.seat.me.0 in
    let j = joined_seat _ _ _ g.B.Object.moving (min v.left w.left) c.self.inside.seat.me w c.join_seat.new.seat.me c.load.new.seat.me c.self.invariant.ready c.join_seat.ensures.2 c.load.ensures.2 in
    (apart_on _ _ g.B.Object.moving c.self.inside.seat.me.0 c.other.inside.seat.me.0 c.args.self c.args.other (ap (λ q. q.names) c.self.view_is) (ap (λ q. q.may_move) c.self.view_is) (ap (λ q. q.names) c.other.view_is) (ap (λ q. q.may_move) c.other.view_is) j.3).0

pub returns-clause-right : goal.returns-clause-right
returns-clause-right g c =
    let v = c.self.inside.seat.me.0 in
    let w = c.other.inside.seat.me.0 in
    let j = joined_seat _ _ _ g.B.Object.moving (min v.left w.left) c.self.inside.seat.me w c.join_seat.new.seat.me c.load.new.seat.me c.self.invariant.ready c.join_seat.ensures.2 c.load.ensures.2 in
    (apart_on _ _ g.B.Object.moving c.self.inside.seat.me.0 c.other.inside.seat.me.0 c.args.self c.args.other (ap (λ q. q.names) c.self.view_is) (ap (λ q. q.may_move) c.self.view_is) (ap (λ q. q.names) c.other.view_is) (ap (λ q. q.may_move) c.other.view_is) j.3).1
