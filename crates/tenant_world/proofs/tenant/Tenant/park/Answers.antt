use Rattle.std.proofs.Common.{BTreeMap, refl, ap, sym}
use Rattle.far_words.specs.declared.path.Path.{Path}
use Rattle.tenant_world.specs.declared.names.Named.{Named}
use Rattle.tenant_world.specs.Well.{tenant_view}
use Rattle.tenant_world.proofs.Kept.{sound_found}
use Rattle.tenant_world.proofs.Steps.{still_in, keeps_home}
use Rattle.tenant_world.proofs.Asking.{park_nowhere}
use Rattle.tenant_world.proofs.Inside.{one_name, well_later}
use Rattle.tenant_world.proofs.Parking.{park_serves, park_stands}
use Rattle.tenant_world.proofs.tenant.Tenant.park.Goals as goal

pub returns-in_default : goal.returns-in_default
returns-in_default g c =
    let i = c.self.inside in
    rw (← c.self.view_is)
    (park_nowhere g.K.Shelf.told g.K.Shelf.faults _ _ (still_in i c.self.view_is c.requires) (keeps_home _ _ _ _ refl refl) c.args.path.now
    (record { moment = refl; names = ap (λ (names : BTreeMap Path Named). names.entries) c.get_mut.follows.holds-at-none; user = refl; size = refl; strays = refl; purse = refl; blocks = refl; told_is = refl })
    (sym c.in_default.ensures.value))

pub park_content-requires-clause-sound : goal.park_content-requires-clause-sound
park_content-requires-clause-sound g c =
    let i = c.self.inside in
    sound_found i.names.entries i.home.seats c.args.path.now c.in-Some.named.now c.self.invariant.kept (sym c.in-Some.ensures.value)

pub invariant_of-self-2 : goal.invariant_of-self-2
invariant_of-self-2 g c =
    let i = c.self.inside in
    let named : Named = c.in-Some.named.now in
    let w : Named = record { lease = named.lease; content = c.park_content.new.content } in
    let still = still_in i c.self.view_is c.requires in
    let one = one_name g.K.Shelf.told g.K.Shelf.faults i c.self.invariant still c.args.path.now named (sym c.in-Some.ensures.value) c.get_mut.ensures.ordered w.content (c.get_mut.follows.lender w) (c.get_mut.follows.holds w).0 c.park_content.new.home c.park_content.new.moves c.park_content.ensures.store in
    well_later g.K.Shelf.told g.K.Shelf.faults i c.self.invariant still c.args.path.now named (sym c.in-Some.ensures.value) c.get_mut.ensures.ordered w.content (c.get_mut.follows.lender w) (c.get_mut.follows.holds w).0 c.park_content.new.home c.park_content.new.moves c.park_content.ensures.store
    (park_stands g.K.Shelf.told g.K.Shelf.faults (tenant_view i) _ c.args.path.now named w one c.park_content.result (c.park_content.ensures.parked c.args.path.now))

pub returns : goal.returns
returns g c =
    let i = c.self.inside in
    let named : Named = c.in-Some.named.now in
    let w : Named = record { lease = named.lease; content = c.park_content.new.content } in
    let still = still_in i c.self.view_is c.requires in
    let one = one_name g.K.Shelf.told g.K.Shelf.faults i c.self.invariant still c.args.path.now named (sym c.in-Some.ensures.value) c.get_mut.ensures.ordered w.content (c.get_mut.follows.lender w) (c.get_mut.follows.holds w).0 c.park_content.new.home c.park_content.new.moves c.park_content.ensures.store in
    rw (← c.self.view_is)
    (park_serves g.K.Shelf.told g.K.Shelf.faults (tenant_view i) _ c.args.path.now named w one c.park_content.result (c.park_content.ensures.parked c.args.path.now))
