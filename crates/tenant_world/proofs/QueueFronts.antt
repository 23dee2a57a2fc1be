-- A look at the first item of a name's queue.
use Rattle.std.proofs.Common.{◌≡◌, ℕ, ◌≤◌, List, [], ◌∷◌, length, refl, ap, sym, subst, ◌∙◌, arith, Some, None}
use Rattle.std.specs.Map.{lookup}
use Rattle.std.specs.BTreeMap.{is_at}
use Rattle.far_io.specs.Faults.{Faults}
use Rattle.shelf_link.specs.Told.{Told}
use Rattle.far_words.specs.Paths.{bytes_cmp}
use Rattle.far_asks.specs.declared.request.Request.TheVariants.{Front}
use Rattle.far_asks.specs.declared.request.Reply.{Reply}
use Rattle.far_asks.specs.declared.request.Reply.TheVariants.{Done, Number, Bytes, Item, Nothing, TooLong, Absent, WrongKind, Exists, Full, Exhausted, StoreFault, Damaged, AbsentUser, NoMemory}
use Rattle.far_history.specs.Worlds.{World}
use Rattle.far_history.specs.Answers.{answer, refusal, first_item}
use Rattle.far_history.specs.Histories.{State}
use Rattle.far_history.proofs.Asked as Asked
use Rattle.block_list.specs.Ends.{IsParkedAs}
use Rattle.block_queue.specs.Queues.{QueueView, count_of}
use Rattle.block_queue.specs.Ends.{ReadsParked}
use Rattle.tenant_world.specs.declared.names.Named.{Named}
use Rattle.tenant_world.specs.declared.names.Content.{Content}
use Rattle.tenant_world.specs.declared.names.Content.TheVariants.{File, Queue}
use Rattle.tenant_world.specs.Contents.{IsFileContent, IsQueueContent, blocks_of, file_of, queue_of}
use Rattle.tenant_world.specs.Popping.{IsFrontOf, IsFrontIn, IsFirstItem}
use Rattle.tenant_world.specs.Views.{TenantView}
use Rattle.tenant_world.specs.Standing.{Sits}
use Rattle.tenant_world.specs.Serves.{IsStill, Keeps, Serves}
use Rattle.tenant_world.proofs.Found.{node_found, node_absent, queue_found, not_queue}
use Rattle.tenant_world.proofs.Granting.{home_terms}
use Rattle.tenant_world.proofs.Served.{IsUnmoved, serves_excused, serves_refused, serves_same}
use Rattle.tenant_world.proofs.Excused.{damaged_fits, parked_stamp, rose_counts}
use Rattle.tenant_world.proofs.Queued.{blocks_in, queue_is, items_are, first_parked, first_is}

-- there are no items
pub no_items : (items : List (List ℕ)) → length items ≡ 0 → items ≡ []
no_items [] none = refl
no_items (item ∷ items) none = absurd (omega arith)

module _ {K : Type 0} (told : K → Told) (faults : K → Faults) (old new : TenantView K) (still : IsStill new.moves) (keeps : Keeps told faults old new) (same : IsUnmoved told old new) (path : List ℕ) where
  pub front_nowhere : lookup (is_at (bytes_cmp path)) old.names ≡ None → Serves told faults old (Front path) Absent new
  front_nowhere none =
      serves_refused told faults old new still keeps (Front path) Absent (omega arith) tt same
      (λ s sits. Asked.refusal-absent old.terms.size s.world (Front path) path refl refl (node_absent s old sits path none))
      refl (λ t layout. refl) (λ s e bare. bare) tt

  module _ (terms : old.terms ≡ home_terms old.home) (named : Named) (found : lookup (is_at (bytes_cmp path)) old.names ≡ Some named) where
    front_other : IsFileContent named.content → Serves told faults old (Front path) WrongKind new
    front_other is_file =
        serves_refused told faults old new still keeps (Front path) WrongKind (omega arith) tt same
        (λ s sits. let at = node_found s old sits path named found in Asked.refusal-wrong_kind old.terms.size s.world (Front path) path at.node refl refl at.is (not_queue s.world path named is_file at))
        refl (λ t layout. refl) (λ s e bare. bare) tt

    module _ (is_queue : IsQueueContent named.content) where
      unrefused : (s : State) → Sits s old → refusal old.terms.size s.world (Front path) ≡ None
      unrefused s sits = let at = queue_found s old sits path named found is_queue in Asked.refusal-front old.terms.size s.world path named.lease at.items at.is

      front_done : (few : old.home.seats.size ≤ 65536) (item : List ℕ) → IsFirstItem (told old.home.shelf) old.home (queue_of named.content) item → Serves told faults old (Front path) (Item item) new
      front_done few item first =
          serves_same told faults old new still keeps (Front path) (Item item) (let short = first.short in omega (arith, short, few)) tt same unrefused refl (λ t layout. refl)
          (λ s moment sits. let at = queue_found s old sits path named found is_queue in ap (λ (a : World × Reply). a.0) (Asked.answer-front old.terms.size s.world path named.lease at.items at.is))
          (λ s sits lies.
          let t = told old.home.shelf in
          Asked.answer-done old.terms.size s.world (Front path) (unrefused s sits)
          ∙ ap (λ (items : List (List ℕ)). (s.world, first_item items)) (items_are old terms path named found s t lies is_queue)
          ∙ ap (λ (r : Reply). (s.world, r)) (first_is _ item (first.first lies.blocks (blocks_in old terms path named found s t lies is_queue) lies.held (queue_is old terms path named found s t lies is_queue))))
          (λ s e bare. bare) (λ s. refl) tt
          (λ moment void s sits lies none needs. absurd (first.resident void (first_parked old terms path named found s (told old.home.shelf) lies is_queue needs)))

      front_empty : queue_of named.content ≡ [] → Serves told faults old (Front path) Nothing new
      front_empty empty =
          let answers : (s : State) → Sits s old → answer old.terms.size s.world (Front path) ≡ (s.world, Nothing)
          = λ s sits.
          let at = queue_found s old sits path named found is_queue in
          let none : length at.items ≡ 0 = sym at.many ∙ ap count_of empty in
          Asked.answer-front old.terms.size s.world path named.lease at.items at.is ∙ ap (λ (items : List (List ℕ)). (s.world, first_item items)) (no_items at.items none) in
          serves_same told faults old new still keeps (Front path) Nothing (omega arith) tt same unrefused refl (λ t layout. refl)
          (λ s moment sits. ap (λ (a : World × Reply). a.0) (answers s sits))
          (λ s sits lies. answers s sits)
          (λ s e bare. bare) (λ s. refl) tt
          (λ moment void s sits lies none needs. absurd (subst (λ (q : QueueView). ReadsParked old.home.seats q) empty (first_parked old terms path named found s (told old.home.shelf) lies is_queue needs)))

      front_queue : (few : old.home.seats.size ≤ 65536) (reply : Reply) → IsFrontOf told faults old.home (queue_of named.content) reply new.home → Serves told faults old (Front path) reply new
      front_queue few (Item item) is = front_done few item is
      front_queue few Nothing is = front_empty is
      front_queue few StoreFault is =
          serves_excused told faults old new still keeps (Front path) StoreFault (omega arith) is.rose same unrefused refl (λ t layout. refl) (λ s e bare. bare)
          (λ s sits lies e before after. (refl, rose_counts (faults old.home.shelf) (faults new.home.shelf) e.before e.after before after is)) (λ tells s lies. tt)
      front_queue few (Damaged kept seen) is =
          serves_excused told faults old new still keeps (Front path) (Damaged kept seen) (damaged_fits kept seen) tt same unrefused refl (λ t layout. refl) (λ s e bare. bare)
          (λ s sits lies e before after. (refl, is.instead, parked_stamp old terms path named found s (told old.home.shelf) lies kept (subst (λ (c : Content). IsParkedAs old.home.seats (blocks_of c) kept) (sym is_queue) is.parked)))
          (λ tells s lies.
          let t = told old.home.shelf in
          absurd (is.untold tells lies.blocks (blocks_in old terms path named found s t lies is_queue) lies.held (queue_is old terms path named found s t lies is_queue)))
      front_queue few NoMemory is =
          serves_excused told faults old new still keeps (Front path) NoMemory (omega arith) tt same unrefused refl (λ t layout. refl) (λ s e bare. bare)
          (λ s sits lies e before after. refl) (λ tells s lies. tt)
      front_queue few Done is = absurd is
      front_queue few (Number n) is = absurd is
      front_queue few (Bytes bytes) is = absurd is
      front_queue few (TooLong limit) is = absurd is
      front_queue few Absent is = absurd is
      front_queue few WrongKind is = absurd is
      front_queue few Exists is = absurd is
      front_queue few (Full limit) is = absurd is
      front_queue few (Exhausted asked used granted) is = absurd is
      front_queue few (AbsentUser users) is = absurd is

    pub front_serves : (few : old.home.seats.size ≤ 65536) (reply : Reply) → IsFrontIn told faults old.home named.content reply new.home → Serves told faults old (Front path) reply new
    front_serves few reply is = by named.content refl is
      where
        by : (c : Content) → named.content ≡ c → IsFrontIn told faults old.home c reply new.home → Serves told faults old (Front path) reply new
        by (File file) same_content front = subst (λ (r : Reply). Serves told faults old (Front path) r new) (sym front) (front_other (same_content ∙ ap File (sym (ap file_of same_content))))
        by (Queue queue) same_content front = front_queue (same_content ∙ ap Queue (sym (ap queue_of same_content))) few reply (subst (λ (q : QueueView). IsFrontOf told faults old.home q reply new.home) (sym (ap queue_of same_content)) front)
