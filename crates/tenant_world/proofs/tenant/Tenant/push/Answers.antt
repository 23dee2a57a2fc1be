use Rattle.std.proofs.Common.{◌-◌, ℕ, BTreeMap, refl, ap, sym, subst, arith}
use Rattle.far_words.specs.declared.path.Path.{Path}
use Rattle.far_asks.specs.declared.request.Request.TheVariants.{Push}
use Rattle.far_asks.specs.declared.request.Reply.TheVariants.{TooLong}
use Rattle.tenant_world.specs.declared.names.Named.{Named}
use Rattle.tenant_world.specs.Serves.{Serves}
use Rattle.tenant_world.specs.Well.{tenant_view}
use Rattle.tenant_world.proofs.Kept.{sound_found}
use Rattle.tenant_world.proofs.Steps.{still_in, keeps_home, unmoved_itself}
use Rattle.tenant_world.proofs.Inside.{one_name, well_later}
use Rattle.tenant_world.proofs.QueuePushes.{push_long, push_nowhere, push_serves, push_stands}
use Rattle.tenant_world.proofs.tenant.Tenant.push.Goals as goal

pub returns-then-item-most : goal.returns-then-item-most
returns-then-item-most g c =
    let i = c.self.inside in
    let size = c.size.ensures.value in
    rw (← c.self.view_is)
    (subst (λ (n : ℕ). Serves g.K.Shelf.told g.K.Shelf.faults (tenant_view i) (Push c.args.path.now c.args.item.now) (TooLong (n - 4)) (tenant_view i)) (sym size)
    (push_long g.K.Shelf.told g.K.Shelf.faults (tenant_view i) (tenant_view i) (still_in i c.self.view_is c.requires) (keeps_home _ _ _ _ refl refl) (unmoved_itself _ _) c.args.path.now c.args.item.now (omega (arith, size))))

pub returns-in_default : goal.returns-in_default
returns-in_default g c =
    let i = c.self.inside in
    rw (← c.self.view_is)
    (push_nowhere g.K.Shelf.told g.K.Shelf.faults _ _ (still_in i c.self.view_is c.requires) (keeps_home _ _ _ _ refl refl)
    (record { moment = refl; names = ap (λ (names : BTreeMap Path Named). names.entries) c.get_mut.follows.holds-at-none; user = refl; size = refl; strays = refl; purse = refl; blocks = refl; told_is = refl })
    c.args.path.now c.args.item.now (omega (arith, c.size.ensures.value)) (sym c.in_default.ensures.value))

pub push_content-requires-clause-sound : goal.push_content-requires-clause-sound
push_content-requires-clause-sound g c =
    let i = c.self.inside in
    sound_found i.names.entries i.home.seats c.args.path.now c.in-Some.named.now c.self.invariant.kept (sym c.in-Some.ensures.value)

pub invariant_of-self-2 : goal.invariant_of-self-2
invariant_of-self-2 g c =
    let i = c.self.inside in
    let named : Named = c.in-Some.named.now in
    let w : Named = record { lease = named.lease; content = c.push_content.new.content } in
    let still = still_in i c.self.view_is c.requires in
    let one = one_name g.K.Shelf.told g.K.Shelf.faults i c.self.invariant still c.args.path.now named (sym c.in-Some.ensures.value) c.get_mut.ensures.ordered w.content (c.get_mut.follows.lender w) (c.get_mut.follows.holds w).0 c.push_content.new.home c.push_content.new.moves c.push_content.ensures.store in
    well_later g.K.Shelf.told g.K.Shelf.faults i c.self.invariant still c.args.path.now named (sym c.in-Some.ensures.value) c.get_mut.ensures.ordered w.content (c.get_mut.follows.lender w) (c.get_mut.follows.holds w).0 c.push_content.new.home c.push_content.new.moves c.push_content.ensures.store
    (push_stands g.K.Shelf.told g.K.Shelf.faults (tenant_view i) _ c.args.path.now c.args.item.now named w one (sound_found i.names.entries i.home.seats c.args.path.now named c.self.invariant.kept (sym c.in-Some.ensures.value)) (omega (arith, c.size.ensures.value)) c.push_content.result c.push_content.ensures.pushed)

pub returns : goal.returns
returns g c =
    let i = c.self.inside in
    let named : Named = c.in-Some.named.now in
    let w : Named = record { lease = named.lease; content = c.push_content.new.content } in
    let still = still_in i c.self.view_is c.requires in
    let one = one_name g.K.Shelf.told g.K.Shelf.faults i c.self.invariant still c.args.path.now named (sym c.in-Some.ensures.value) c.get_mut.ensures.ordered w.content (c.get_mut.follows.lender w) (c.get_mut.follows.holds w).0 c.push_content.new.home c.push_content.new.moves c.push_content.ensures.store in
    rw (← c.self.view_is)
    (push_serves g.K.Shelf.told g.K.Shelf.faults (tenant_view i) _ c.args.path.now c.args.item.now named w one (sound_found i.names.entries i.home.seats c.args.path.now named c.self.invariant.kept (sym c.in-Some.ensures.value)) (omega (arith, c.size.ensures.value)) c.push_content.result c.push_content.ensures.pushed)
