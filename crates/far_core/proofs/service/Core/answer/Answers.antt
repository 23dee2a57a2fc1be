use Rattle.std.proofs.Common.{◌≡◌, ◌<◌, ◌≤◌, ◌++◌, ◌∷◌, [], refl, sym, subst, ap, ◌∙◌, arith}
use Rattle.std.proofs.lemmas.Bool.{le-ltb}
use Rattle.far_asks.specs.declared.request.Outcome.{Outcome}
use Rattle.far_history.specs.Entries.{Ask}
use Rattle.far_core.specs.declared.service.CoreEvent.{CoreEvent}
use Rattle.far_core.specs.declared.service.CoreEvent.TheVariants.{Ask as Asking, Grant as Granting}
use Rattle.far_core.specs.Runs.{Own, grant_from}
use Rattle.far_core.specs.Cores.{CoreView, core_entry, StandsForRun}
use Rattle.far_core.proofs.Stands.{state_in, absent_grows, ask_grows, draw_grows, grant_grows, not_own}
use Rattle.far_core.proofs.service.Core.answer.Goals as goal

pub returns-then-user-self-clause-stands : goal.returns-then-user-self-clause-stands
returns-then-user-self-clause-stands g c shelves run stands =
    let told = g.K.Shelf.told in
    let faults = g.K.Shelf.faults in
    let core = c.args.self.now in
    let event : CoreEvent = Asking c.in-Ask.user c.in-Ask.request in
    let none : core.shape.users ≤ c.in-Ask.user = omega (arith, c.if-user-self.true, ap (λ (v : CoreView _). v.shape.users) c.self.view_is) in
    subst (λ (e : CoreEvent). StandsForRun told faults shelves core (run ++ core_entry faults e c.absent_user.result core core ∷ [])) (sym c.in-Ask.is)
    (subst (λ (outcome : Outcome). StandsForRun told faults shelves core (run ++ core_entry faults event outcome core core ∷ [])) (sym c.absent_user.ensures)
    (absent_grows told faults shelves core event c.in-Ask.user (Own c.in-Ask.user (Ask 0 c.in-Ask.request)) run c.requires refl none (le-ltb c.in-Ask.user core.shape.users none) stands))

pub returns-then-user-self-2-clause-stands : goal.returns-then-user-self-2-clause-stands
returns-then-user-self-2-clause-stands g c shelves run stands =
    let told = g.K.Shelf.told in
    let faults = g.K.Shelf.faults in
    let core = c.args.self.now in
    let event : CoreEvent = Granting c.in-Grant.user in
    let none : core.shape.users ≤ c.in-Grant.user = omega (arith, c.if-user-self-2.true, ap (λ (v : CoreView _). v.shape.users) c.self-in-Grant.view_is) in
    subst (λ (e : CoreEvent). StandsForRun told faults shelves core (run ++ core_entry faults e c.absent_user-then-user-self-2.result core core ∷ [])) (sym c.in-Grant.is)
    (subst (λ (outcome : Outcome). StandsForRun told faults shelves core (run ++ core_entry faults event outcome core core ∷ [])) (sym c.absent_user-then-user-self-2.ensures)
    (absent_grows told faults shelves core event c.in-Grant.user (grant_from core.shape c.in-Grant.user (state_in core run).hand) run c.requires refl none (not_own core c.in-Grant.user none) stands))

pub returns-else-user-self-clause-stands : goal.returns-else-user-self-clause-stands
returns-else-user-self-clause-stands g c shelves run stands =
    let told = g.K.Shelf.told in
    let faults = g.K.Shelf.faults in
    let core = c.args.self.now in
    let view = ap (λ (v : CoreView _). v.shape.users) c.self.view_is in
    let one : core.shape.users ≡ 1 = sym view ∙ c.self.invariant.one_user in
    let there : c.in-Ask.user < core.shape.users = omega (arith, c.if-user-self.false, view) in
    subst (λ (event : CoreEvent). StandsForRun told faults shelves c.ask.new.self (run ++ core_entry faults event c.ask.result core c.ask.new.self ∷ [])) (sym c.in-Ask.is)
    (ask_grows told faults shelves core c.ask.new.self c.in-Ask.user c.in-Ask.request c.ask.result run one there c.ask.ensures.serves c.ask.ensures.rest stands)

pub returns-in-Draw-clause-stands : goal.returns-in-Draw-clause-stands
returns-in-Draw-clause-stands g c shelves run stands =
    let told = g.K.Shelf.told in
    let faults = g.K.Shelf.faults in
    subst (λ (event : CoreEvent). StandsForRun told faults shelves c.draw.new.self (run ++ core_entry faults event c.draw.result c.args.self.now c.draw.new.self ∷ [])) (sym c.in-Draw.is)
    (draw_grows told faults shelves c.args.self.now c.draw.new.self c.draw.result run c.requires c.draw.ensures.drawn stands)

pub returns-else-user-self-2-clause-stands : goal.returns-else-user-self-2-clause-stands
returns-else-user-self-2-clause-stands g c shelves run stands =
    let told = g.K.Shelf.told in
    let faults = g.K.Shelf.faults in
    let core = c.args.self.now in
    let view = ap (λ (v : CoreView _). v.shape.users) c.self-in-Grant.view_is in
    let one : core.shape.users ≡ 1 = sym view ∙ c.self-in-Grant.invariant.one_user in
    let there : c.in-Grant.user < core.shape.users = omega (arith, c.if-user-self-2.false, view) in
    subst (λ (event : CoreEvent). StandsForRun told faults shelves c.grant.new.self (run ++ core_entry faults event c.grant.result core c.grant.new.self ∷ [])) (sym c.in-Grant.is)
    (grant_grows told faults shelves core c.grant.new.self c.in-Grant.user c.grant.result run c.requires one there c.grant.ensures.empty c.grant.ensures.kept c.grant.ensures.given stands)
