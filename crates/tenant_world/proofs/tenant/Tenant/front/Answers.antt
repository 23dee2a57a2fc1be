use Rattle.std.proofs.Common.{◌≡◌, ◌≤◌, ℕ, List, BTreeMap, refl, ap, sym, subst, ◌∙◌}
use Rattle.std.specs.Map.{keys_of, set_value}
use Rattle.std.specs.List.Sorted.{IsStrictlySortedBy}
use Rattle.std.specs.Ordering.{nat_cmp}
use Rattle.std.specs.BTreeMap.{is_at}
use Rattle.std.proofs.lemmas.Map.Steps.{set_value_same}
use Rattle.block_seats.specs.Seatings.{SeatingView, granted_of}
use Rattle.far_words.specs.Paths.{bytes_cmp}
use Rattle.far_words.specs.declared.path.Path.{Path}
use Rattle.tenant_world.specs.declared.names.Named.{Named}
use Rattle.tenant_world.specs.declared.names.Content.{Content}
use Rattle.tenant_world.specs.Well.{AreKept, tenant_view}
use Rattle.tenant_world.proofs.Kept.{sound_found}
use Rattle.tenant_world.proofs.Steps.{still_in, keeps_home}
use Rattle.tenant_world.proofs.FileReads.{keeps_shelf, unmoved_shelf, seats_shelf}
use Rattle.tenant_world.proofs.QueueFronts.{front_serves, front_nowhere}
use Rattle.tenant_world.proofs.tenant.Tenant.front.Goals as goal

pub returns-in_default : goal.returns-in_default
returns-in_default g c =
    let i = c.self.inside in
    rw (← c.self.view_is)
    (front_nowhere g.K.Shelf.told g.K.Shelf.faults _ _ (still_in i c.self.view_is c.requires) (keeps_home _ _ _ _ refl refl)
    (record { moment = refl; names = ap (λ (names : BTreeMap Path Named). names.entries) c.get_mut.follows.holds-at-none; user = refl; size = refl; strays = refl; purse = refl; blocks = refl; told_is = refl })
    c.args.path.now (sym c.in_default.ensures.value))

pub front_content-requires : goal.front_content-requires
front_content-requires g c =
    let i = c.self.inside in
    sound_found i.names.entries i.home.seats c.args.path.now c.in-Some.named.now c.self.invariant.kept (sym c.in-Some.ensures.value)

pub invariant_of-self-2 : goal.invariant_of-self-2
invariant_of-self-2 g c =
    let i = c.self.inside in
    let es : List (List ℕ × Named) = i.names.entries in
    let named : Named = c.in-Some.named.now in
    let w : Named = record { lease = named.lease; content = c.front_content.new.content } in
    let names = (c.get_mut.follows.holds w).0 ∙ ap (λ (x : Content). set_value (is_at (bytes_cmp c.args.path.now)) es (record { lease = named.lease; content = x })) c.front_content.ensures.content ∙ set_value_same (is_at (bytes_cmp c.args.path.now)) es named (sym c.in-Some.ensures.value) in
    let seats = seats_shelf i.home c.front_content.new.home c.front_content.ensures.home in
    record {
      within = subst (λ (v : SeatingView). granted_of v ≤ v.slices) (sym seats) c.self.invariant.within;
      ordered = subst (λ (v : SeatingView). IsStrictlySortedBy nat_cmp (keys_of v.purse)) (sym seats) c.self.invariant.ordered;
      most = subst (λ (v : SeatingView). v.moves.most ≡ v.slices) (sym seats) c.self.invariant.most;
      room = subst (λ (v : SeatingView). i.moves.room ≡ v.slices) (sym seats) c.self.invariant.room;
      order = c.self.invariant.order;
      kept = subst (λ (ns : List (List ℕ × Named)). AreKept ns c.front_content.new.home.seats) (sym names) (subst (λ (v : SeatingView). AreKept es v) (sym seats) c.self.invariant.kept);
    }

pub returns : goal.returns
returns g c =
    let i = c.self.inside in
    let es : List (List ℕ × Named) = i.names.entries in
    let named : Named = c.in-Some.named.now in
    let w : Named = record { lease = named.lease; content = c.front_content.new.content } in
    let names = (c.get_mut.follows.holds w).0 ∙ ap (λ (x : Content). set_value (is_at (bytes_cmp c.args.path.now)) es (record { lease = named.lease; content = x })) c.front_content.ensures.content ∙ set_value_same (is_at (bytes_cmp c.args.path.now)) es named (sym c.in-Some.ensures.value) in
    rw (← c.self.view_is)
    (front_serves g.K.Shelf.told g.K.Shelf.faults (tenant_view i) _ (still_in i c.self.view_is c.requires)
    (keeps_shelf g.K.Shelf.told g.K.Shelf.faults (tenant_view i) _ c.front_content.ensures.home refl refl c.front_content.ensures.store)
    (unmoved_shelf g.K.Shelf.told g.K.Shelf.faults (tenant_view i) _ c.front_content.ensures.home refl names c.front_content.ensures.told)
    c.args.path.now refl named (sym c.in-Some.ensures.value) c.self.invariant.kept.few_bytes c.front_content.result c.front_content.ensures.front)
