use Rattle.std.proofs.Common.{◌<◌, ◌++◌, ◌∷◌, [], subst}
use Rattle.shelf_link.specs.Told.{is_sure}
use Rattle.far_core.specs.Runs.{IsLegalFor}
use Rattle.far_core.specs.Cores.{CoreView, core_entry, StandsForRun}
use Rattle.far_core.proofs.Stands.{legal_after}
use Rattle.far_core.proofs.service.Core.step.Goals as goal

pub returns-clause-each_user : goal.returns-clause-each_user
returns-clause-each_user g c shelves run stands user there =
    let told = g.K.Shelf.told in
    let faults = g.K.Shelf.faults in
    let now = c.answer.new.self in
    let P : CoreView _ → Type 0 = λ core. StandsForRun told faults shelves core run → user < core.shape.users
    → IsLegalFor (is_sure (told now.tenant.home.shelf)) core.shape (run ++ core_entry faults c.args.event c.answer.result core now ∷ []) user in
    subst P c.self.view_is
    (λ inside within.
    let grows = c.answer.ensures.stands shelves run (record { is_run = inside.is_run; pool = inside.pool; hand = inside.hand; tenants = inside.tenants }) in
    legal_after told faults shelves now _ c.answer.ensures.shape c.self.invariant.one_user run _ grows user within)
    stands there
