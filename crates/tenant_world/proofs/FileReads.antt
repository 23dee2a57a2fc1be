-- A read of a name's file.
use Rattle.std.proofs.Common.{◌≡◌, ℕ, ◌≤◌, List, take, drop, refl, ap, sym, subst, ◌∙◌, arith, Some, None}
use Rattle.std.specs.Map.{lookup}
use Rattle.std.specs.BTreeMap.{is_at}
use Rattle.far_io.specs.Faults.{Faults}
use Rattle.shelf_link.specs.Told.{Told}
use Rattle.far_words.specs.Paths.{bytes_cmp}
use Rattle.far_asks.specs.declared.request.Request.TheVariants.{Read}
use Rattle.far_asks.specs.declared.request.Reply.{Reply}
use Rattle.far_asks.specs.declared.request.Reply.TheVariants.{Done, Number, Bytes, Item, Nothing, TooLong, Absent, WrongKind, Exists, Full, Exhausted, StoreFault, Damaged, AbsentUser, NoMemory}
use Rattle.far_asks.specs.declared.request.TheConstants.{MOST_IN_REQUEST}
use Rattle.far_history.specs.Worlds.{World}
use Rattle.far_history.specs.Answers.{refusal}
use Rattle.far_history.specs.Histories.{State}
use Rattle.far_history.proofs.Asked as Asked
use Rattle.block_seats.specs.Seatings.{granted_of}
use Rattle.block_home.specs.Homes.{HomeView}
use Rattle.block_list.specs.Ends.{IsParkedAs}
use Rattle.tenant_world.specs.declared.names.Named.{Named}
use Rattle.tenant_world.specs.declared.names.Content.{Content}
use Rattle.tenant_world.specs.declared.names.Content.TheVariants.{File, Queue}
use Rattle.tenant_world.specs.Keeping.{KeepsStore}
use Rattle.tenant_world.specs.Contents.{IsFileContent, blocks_of, file_of, queue_of}
use Rattle.tenant_world.specs.Reading.{IsReadOf, IsReadIn, Reads}
use Rattle.tenant_world.specs.Views.{TenantView}
use Rattle.tenant_world.specs.Standing.{Sits}
use Rattle.tenant_world.specs.Serves.{IsStill, Keeps, Serves}
use Rattle.tenant_world.proofs.Found.{file_found}
use Rattle.tenant_world.proofs.Asking.{read_other}
use Rattle.tenant_world.proofs.Granting.{home_terms}
use Rattle.tenant_world.proofs.Served.{IsUnmoved, serves_excused, serves_same}
use Rattle.tenant_world.proofs.Excused.{damaged_fits, file_bytes, file_is, file_named, parked_stamp, reads_parked, rose_counts}

module _ {K : Type 0} (told : K → Told) (faults : K → Faults) (old new : TenantView K) (still : IsStill new.moves) (keeps : Keeps told faults old new) (same : IsUnmoved told old new) (terms : old.terms ≡ home_terms old.home)
    (path : List ℕ) (named : Named) (found : lookup (is_at (bytes_cmp path)) old.names ≡ Some named) (is_file : IsFileContent named.content) (from len : ℕ) (few : len ≤ MOST_IN_REQUEST) where
  unrefused : (s : State) → Sits s old → refusal old.terms.size s.world (Read path from len) ≡ None
  unrefused s sits = let at = file_found s old sits path named found is_file in Asked.refusal-read old.terms.size s.world path from len named.lease at.bytes few at.is

  read_done : (out : List ℕ) → Reads (told old.home.shelf) old.home.user old.home (file_of named.content) from len out → Serves told faults old (Read path from len) (Bytes out) new
  read_done out reads =
      serves_same told faults old new still keeps (Read path from len) (Bytes out) (let short = reads.few in omega (arith, short, few)) tt same unrefused refl (λ t layout. refl)
      (λ s moment sits. let at = file_found s old sits path named found is_file in ap (λ (a : World × Reply). a.0) (Asked.answer-read old.terms.size s.world path from len named.lease at.bytes few at.is))
      (λ s sits lies.
      let t = told old.home.shelf in
      let bytes : List ℕ = file_bytes old terms path named found s t lies is_file in
      let is = reads.bytes lies.blocks bytes lies.held (file_is old terms path named found s t lies is_file) in
      Asked.answer-done old.terms.size s.world (Read path from len) (unrefused s sits)
      ∙ ap (λ (b : List ℕ). (s.world, Bytes (take len (drop from b)))) (file_named old terms path named found s t lies is_file)
      ∙ ap (λ (b : List ℕ). (s.world, Bytes b)) (sym is))
      (λ s e bare. bare) (λ s. refl) tt
      (λ moment void s sits lies none needs. absurd (reads.resident void (reads_parked old terms path named found s (told old.home.shelf) lies is_file from len needs.0 needs.1 needs.2 needs.3 needs.4)))

  pub read_serves : (reply : Reply) → IsReadOf told faults old.home (file_of named.content) from len reply new.home → Serves told faults old (Read path from len) reply new
  read_serves (Bytes out) is = read_done out is
  read_serves StoreFault is =
      serves_excused told faults old new still keeps (Read path from len) StoreFault (omega arith) is.rose same unrefused refl (λ t layout. refl) (λ s e bare. bare)
      (λ s sits lies e before after. (refl, rose_counts (faults old.home.shelf) (faults new.home.shelf) e.before e.after before after is)) (λ tells s lies. tt)
  read_serves (Damaged kept seen) is =
      serves_excused told faults old new still keeps (Read path from len) (Damaged kept seen) (damaged_fits kept seen) tt same unrefused refl (λ t layout. refl) (λ s e bare. bare)
      (λ s sits lies e before after. (refl, is.instead, parked_stamp old terms path named found s (told old.home.shelf) lies kept (subst (λ (c : Content). IsParkedAs old.home.seats (blocks_of c) kept) (sym is_file) is.parked)))
      (λ tells s lies. absurd (is.untold tells lies.blocks lies.held))
  read_serves NoMemory is =
      serves_excused told faults old new still keeps (Read path from len) NoMemory (omega arith) tt same unrefused refl (λ t layout. refl) (λ s e bare. bare)
      (λ s sits lies e before after. refl) (λ tells s lies. tt)
  read_serves Done is = absurd is
  read_serves (Number n) is = absurd is
  read_serves (Item bytes) is = absurd is
  read_serves Nothing is = absurd is
  read_serves (TooLong limit) is = absurd is
  read_serves Absent is = absurd is
  read_serves WrongKind is = absurd is
  read_serves Exists is = absurd is
  read_serves (Full limit) is = absurd is
  read_serves (Exhausted asked used granted) is = absurd is
  read_serves (AbsentUser users) is = absurd is

-- a read of a content, whatever kind it is of
module _ {K : Type 0} (told : K → Told) (faults : K → Faults) (old new : TenantView K) (still : IsStill new.moves) (keeps : Keeps told faults old new) (same : IsUnmoved told old new) (terms : old.terms ≡ home_terms old.home)
    (path : List ℕ) (named : Named) (found : lookup (is_at (bytes_cmp path)) old.names ≡ Some named) (from len : ℕ) (few : len ≤ MOST_IN_REQUEST) where
  pub read_in_content : (reply : Reply) → IsReadIn told faults old.home named.content from len reply new.home → Serves told faults old (Read path from len) reply new
  read_in_content reply is = by named.content refl is
    where
      by : (c : Content) → named.content ≡ c → IsReadIn told faults old.home c from len reply new.home → Serves told faults old (Read path from len) reply new
      by (File file) content is =
          let is_file : IsFileContent named.content = content ∙ ap (λ (c : Content). File (file_of c)) (sym content) in
          read_serves told faults old new still keeps same terms path named found is_file from len few reply (subst (λ (c : Content). IsReadOf told faults old.home (file_of c) from len reply new.home) (sym content) is)
      by (Queue queue) content is = subst (λ r. Serves told faults old (Read path from len) r new) (sym is) (read_other told faults old new still keeps path same named from len few found (content ∙ ap (λ (c : Content). Queue (queue_of c)) (sym content)))

-- where nothing of a home changes but its store
module _ {K : Type 0} (told : K → Told) (faults : K → Faults) (old new : TenantView K) (home : new.home ≡ record old.home { shelf = new.home.shelf }) where
  pub keeps_shelf : old.terms ≡ home_terms old.home → new.terms ≡ home_terms new.home → KeepsStore told faults old.home new.home → Keeps told faults old new
  keeps_shelf was is store = record {
    terms = is ∙ ap (λ (h : HomeView K). home_terms h) home ∙ sym was;
    held = ap (λ (h : HomeView K). granted_of h.seats) home;
    kind = store.kind;
    counts = store.counts;
  }

  pub unmoved_shelf : new.moment ≡ old.moment → new.names ≡ old.names → told new.home.shelf ≡ told old.home.shelf → IsUnmoved told old new
  unmoved_shelf moment names same = record {
    moment = moment;
    names = names;
    user = ap (λ (h : HomeView K). h.user) home;
    size = ap (λ (h : HomeView K). h.seats.size) home;
    strays = ap (λ (h : HomeView K). h.seats.strays) home;
    purse = ap (λ (h : HomeView K). h.seats.purse) home;
    blocks = ap (λ (h : HomeView K). h.seats.blocks) home;
    told_is = same;
  }

pub seats_shelf : {K : Type 0} (home now : HomeView K) → now ≡ record home { shelf = now.shelf } → now.seats ≡ home.seats
seats_shelf {K} home now is = ap (λ (h : HomeView K). h.seats) is
