use Rattle.std.proofs.Common.{◌≡◌, ℕ, true, false, is_some, List, refl, sym, subst, Some, None}
use Rattle.std.specs.declared.option.Option.{Option}
use Rattle.std.specs.Map.{lookup}
use Rattle.std.specs.BTreeMap.{is_at}
use Rattle.far_words.specs.Paths.{bytes_cmp}
use Rattle.tenant_world.specs.declared.names.Named.{Named}
use Rattle.tenant_world.specs.Well.{AreKept}
use Rattle.tenant_world.proofs.Kept.{kept_made}
use Rattle.tenant_world.proofs.Steps.{still_in, keeps_home, unmoved_itself}
use Rattle.tenant_world.proofs.Asking.{make_again, make_unserved, make_starved, make_done}
use Rattle.tenant_world.proofs.tenant.Tenant.make_top.Goals as goal

some_of : (o : Option Named) → true ≡ is_some o → (n : Named) × (o ≡ Some n)
some_of (Some n) e = (n, refl)
some_of None e = cc

none_of : (o : Option Named) → false ≡ is_some o → o ≡ None
none_of (Some n) e = cc
none_of None e = refl

pub returns-then-contains_key : goal.returns-then-contains_key
returns-then-contains_key g c =
    let i = c.self.inside in
    let there = some_of (lookup (is_at (bytes_cmp c.args.path)) i.names.entries) c.if-contains_key.ensures in
    rw (← c.self.view_is)
    (make_again g.K.Shelf.told g.K.Shelf.faults _ _ (still_in i c.self.view_is c.requires.still) (keeps_home _ _ _ _ refl refl) c.args.path (unmoved_itself _ _) there.0 c.args.kind c.args.span there.1 c.requires.top)

pub returns-in_default : goal.returns-in_default
returns-in_default g c =
    let i = c.self.inside in
    let none = none_of (lookup (is_at (bytes_cmp c.args.path)) i.names.entries) c.if-contains_key.ensures in
    rw (← c.self.view_is)
    (make_unserved g.K.Shelf.told g.K.Shelf.faults _ _ (still_in i c.self.view_is c.requires.still) (keeps_home _ _ _ _ refl refl) c.args.path (unmoved_itself _ _) c.args.kind c.args.span none c.requires.top c.in_default.ensures.served)

pub invariant_of-self : goal.invariant_of-self
invariant_of-self g c =
    let i = c.self.inside in
    let named : Named = record { lease = c.saturating_add-lease.result; content = c.in-Some.content } in
    let none = none_of (lookup (is_at (bytes_cmp c.args.path)) i.names.entries) c.if-contains_key.ensures in
    record {
      within = c.self.invariant.within;
      ordered = c.self.invariant.ordered;
      most = c.self.invariant.most;
      room = c.self.invariant.room;
      order = c.self.invariant.order;
      kept = subst (λ (es : List (List ℕ × Named)). AreKept es i.home.seats) (sym c.in-Ok.ensures.entries) (kept_made i.names.entries i.home.seats c.args.path named c.self.invariant.kept none c.in-Some.ensures.blocks (c.in-Some.ensures.sound i.home.seats));
    }

pub returns-in-Ok : goal.returns-in-Ok
returns-in-Ok g c =
    let i = c.self.inside in
    let named : Named = record { lease = c.saturating_add-lease.result; content = c.in-Some.content } in
    let none = none_of (lookup (is_at (bytes_cmp c.args.path)) i.names.entries) c.if-contains_key.ensures in
    rw (← c.self.view_is)
    (make_done g.K.Shelf.told g.K.Shelf.faults _ _ (still_in i c.self.view_is c.requires.still) (keeps_home _ _ _ _ refl refl) c.args.path c.args.kind c.args.span named
    (record { moment = refl; names = c.in-Ok.ensures.entries; home = refl }) c.requires.top c.in-Some.ensures.served none c.saturating_add-lease.ensures (sym c.in-Some.ensures.shows) c.in-Some.ensures.kept)

pub returns : goal.returns
returns g c =
    let i = c.self.inside in
    let none = none_of (lookup (is_at (bytes_cmp c.args.path)) i.names.entries) c.if-contains_key.ensures in
    rw (← c.self.view_is)
    (make_starved g.K.Shelf.told g.K.Shelf.faults _ _ (still_in i c.self.view_is c.requires.still) (keeps_home _ _ _ _ refl refl) c.args.path
    (record { moment = refl; names = c.in-Err.ensures.err; user = refl; size = refl; strays = refl; purse = refl; blocks = refl; told_is = refl }) c.args.kind c.args.span none c.requires.top c.in-Some.ensures.served)
