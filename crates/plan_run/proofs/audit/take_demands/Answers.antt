use Rattle.std.proofs.Common.{◌≡◌, ◌<◌, ◌≤◌, ◌^◌, List, length, map, get_or, OnOk, sym, ◌∙◌, ap, subst, arith}
use Rattle.std.proofs.lemmas.List.{get_or-map, length-map}
use Rattle.std.proofs.lemmas.List.Elements.{All-get_or}
use Rattle.karma_rule.specs.declared.row.Row.{Row}
use Rattle.karma_rule.specs.Karma.{change_at}
use Rattle.demand_book.specs.Book.{BookView, reported, demanding, blank_row}
use Rattle.plan_run.proofs.AuditLines.{demands_more}
use Rattle.plan_run.proofs.audit.take_demands.Goals as goal

pub loop-user-preserved : goal.loop-user-preserved
loop-user-preserved c =
    let rows = c.args.read.now.rows in
    let demands = map (λ (row : Row). row.demand) rows in
    let k = c.loop-user.user in
    let book = c.loop-user.book in
    let user : k < book.shape.users = omega (arith, ap (λ shape. shape.users) c.loop-user.invariant.shape, c.users-user-end.ensures.users) in
    let here : k < length rows = omega (arith, ap (λ shape. shape.users) c.loop-user.invariant.shape, c.requires.rows) in
    let here_too : k < length demands = rw length-map here in
    let demand = (get_or c.items.result.now k blank_row).demand in
    let is_demand : demand ≡ get_or demands k 0 = ap (λ (rs : List Row). (get_or rs k blank_row).demand) c.items.ensures ∙ sym (get_or-map (λ (row : Row). row.demand) rows k blank_row 0 here) in
    let within : demand ≤ 2 ^ 42 = subst (λ n. n ≤ 2 ^ 42) (sym is_demand) (All-get_or (λ n. n ≤ 2 ^ 42) demands k 0 here_too c.requires.demands) in
    let stands : c.report-counted.new.self ≡ reported book k demand =
    subst (λ result. OnOk result (c.report-counted.new.self ≡ reported book k demand)) (c.report-counted.ensures.taken user within) c.report-counted.ensures.stands in
    record {
      rows = ap (λ (b : BookView). b.rows) stands ∙ ap (λ n. change_at (demanding n) book.rows k) is_demand ∙ ap (λ rs. change_at (demanding (get_or demands k 0)) rs k) c.loop-user.invariant.rows
          ∙ demands_more demands c.args.book.now.rows k here_too;
      shape = ap (λ (b : BookView). b.shape) stands ∙ c.loop-user.invariant.shape;
      quanta = ap (λ (b : BookView). b.quanta) stands ∙ c.loop-user.invariant.quanta;
      roster = ap (λ (b : BookView). b.roster) stands ∙ c.loop-user.invariant.roster;
    }
