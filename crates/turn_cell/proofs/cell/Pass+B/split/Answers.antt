use Rattle.std.proofs.Common.{rules, ◌≡◌, ◌<◌, ◌^◌, inl, inr, ⊎_elim, ap, sym, ◌∙◌, subst}
use Rattle.turn_cell.specs.History.{In}
use Rattle.turn_cell.specs.Turns.{number_in}
use Rattle.turn_cell.proofs.PassSteps.{counts, numbers, splits}
use Rattle.turn_cell.proofs.cell.Pass+B.split.Goals as goal

pub load-made-requires : goal.load-made-requires
load-made-requires g c = (search rules, search rules, counts _ _ _ _ _ _ _ _ _ _ _ _ c.self.invariant.ready.idle)

pub fetch_add-number-requires : goal.fetch_add-number-requires
fetch_add-number-requires g c =
    let looked = c.load-made.ensures.2 in
    let low : c.load-made.result < 2 ^ 30 = search rules in (
      search rules,
      search rules,
      numbers _ _ _ _ _ _ _ _ _ _ _ _ (subst (λ v. In v.number v.names) (sym looked.0) c.self.invariant.ready.alive) (ap (λ v. v.stage) looked.0 ∙ c.self.invariant.ready.idle) (ap (λ v. v.spare) looked.0 ∙ looked.3 low _ c.self.invariant.ready.alive),
    )

pub split_seat-seat-requires : goal.split_seat-seat-requires
split_seat-seat-requires g c =
    let low : c.fetch_add-number.result < 2 ^ 30 = search rules in
    let drawn = (c.fetch_add-number.ensures.2.2 low).0 in (
      search rules,
      search rules,
      splits _ _ _ _ _ _ _ _ _ _ _ c.fetch_add-number.result (ap (λ v. v.stage) drawn),
    )

pub returns-clause-fresh : goal.returns-clause-fresh
returns-clause-fresh g c n x =
    let low : c.fetch_add-number.result < 2 ^ 30 = search rules in
    let drawn = c.fetch_add-number.ensures.2.2 low in
    let looked = c.load-made.ensures.2.0 in
    let view = c.self.view_is in
    let names : c.load-made.new.seat.me.0.names ≡ c.args.self.now.names = ap (λ v. v.names) looked ∙ ap (λ q. q.names) view in
    let made : c.load-made.new.seat.me.0.made ≡ c.args.self.now.made = ap (λ v. v.made) looked ∙ ap (λ q. q.made) view in
    let number : c.split_seat-seat.result.me.0.number ≡ c.fetch_add-number.result = ap (λ m. m.0.number) c.split_seat-seat.ensures.4 ∙ ap (λ v. number_in v.stage) drawn.0 in
    subst (λ k. n < k) (sym number) (drawn.2 n (⊎_elim (λ i. inl (subst (In n) (sym names) i)) (λ i. inr (subst (In n) (sym made) i)) x))
