-- A pop of the first item of a name's queue.
use Rattle.std.proofs.Common.{◌≡◌, ◌≢◌, ◌<◌, ℕ, ◌+◌, nat_lt, IsTrue, List, [], ◌∷◌, length, drop, refl, ap, sym, subst, ◌∙◌, arith, Some, None}
use Rattle.std.specs.Map.{lookup}
use Rattle.std.specs.BTreeMap.{is_at}
use Rattle.std.proofs.lemmas.Bool.{lt-ltb}
use Rattle.far_io.specs.Faults.{Faults}
use Rattle.shelf_link.specs.Told.{Told}
use Rattle.far_words.specs.Paths.{bytes_cmp}
use Rattle.far_asks.specs.declared.request.Request.TheVariants.{Pop}
use Rattle.far_asks.specs.declared.request.Reply.{Reply}
use Rattle.far_asks.specs.declared.request.Reply.TheVariants.{Done, Number, Bytes, Item, Nothing, TooLong, Absent, WrongKind, Exists, Full, Exhausted, StoreFault, Damaged, AbsentUser, NoMemory}
use Rattle.queue_block.specs.Queues.{popped_out}
use Rattle.far_history.specs.Worlds.{World, QueueBody, Node, with_node}
use Rattle.far_history.specs.Answers.{answer, refusal, first_item}
use Rattle.far_history.specs.Entries.{Entry}
use Rattle.far_history.specs.Layouts.{KeptAs, kept_at, queue_blocks}
use Rattle.far_history.specs.Histories.{State}
use Rattle.far_history.specs.Legal.{Excuse, slices_of}
use Rattle.far_history.proofs.Asked as Asked
use Rattle.block_list.specs.Ends.{IsParkedAs}
use Rattle.block_queue.specs.Queues.{QueueView, count_of}
use Rattle.block_queue.specs.Changes.{gone_of}
use Rattle.block_queue.specs.Ends.{ReadsParked}
use Rattle.tenant_world.specs.declared.names.Named.{Named}
use Rattle.tenant_world.specs.declared.names.Content.{Content}
use Rattle.tenant_world.specs.Outlines.{QueueExtent, extent_of, content_extent}
use Rattle.tenant_world.specs.Contents.{IsSoundContent, IsQueueContent, blocks_of, queue_of}
use Rattle.tenant_world.specs.Keeping.{IsKept}
use Rattle.tenant_world.specs.Popping.{IsPopped, Popped, popped_body, popped_kept}
use Rattle.tenant_world.specs.Views.{TenantView}
use Rattle.tenant_world.specs.Standing.{Sits, Lies}
use Rattle.tenant_world.specs.Serves.{IsStill, Keeps, Serves}
use Rattle.tenant_world.proofs.Found.{QueueIn, NodeIn, node_found, node_absent, queue_found, not_queue}
use Rattle.tenant_world.proofs.Served.{IsUnmoved, serves_refused, serves_same, world_done, done_reply, done_placed}
use Rattle.tenant_world.proofs.Excused.{rose_counts, parked_stamp, damaged_fits}
use Rattle.tenant_world.proofs.Keptback.{rest_refused, rest_excused, rest_stands, rest_unmoved, rest_keeps, rest_still}
use Rattle.tenant_world.proofs.Owning.{OneName, OwnStands, AsksOwn, serves_own, own_stands}
use Rattle.tenant_world.proofs.Staying.{keeping}
use Rattle.tenant_world.proofs.Queued.{sound_queue, some_left, gone_is, first_is, blocks_in, queue_is, items_are, layout_is, first_parked}
use Rattle.tenant_world.proofs.QueueFronts.{no_items}

pub pop_nowhere : {K : Type 0} (told : K → Told) (faults : K → Faults) (old new : TenantView K) → IsStill new.moves → Keeps told faults old new → IsUnmoved told old new → (path : List ℕ) → lookup (is_at (bytes_cmp path)) old.names ≡ None → Serves told faults old (Pop path) Absent new
pop_nowhere told faults old new still keeps same path none =
    serves_refused told faults old new still keeps (Pop path) Absent (omega arith) tt same
    (λ s sits. Asked.refusal-absent old.terms.size s.world (Pop path) path refl refl (node_absent s old sits path none))
    refl (λ t layout. refl) (λ s e bare. bare) tt

-- a queue with an item is answered it, and has the others then
answer_some : (size : ℕ) (w : World) (path : List ℕ) (lease : ℕ) (items : List (List ℕ)) → 0 < length items → Asked.IsQueue w path lease items
    → answer size w (Pop path) ≡ (with_node w path (record { lease = lease; body = QueueBody (drop 1 items) }), first_item items)
answer_some size w path lease [] some queue = absurd (omega arith)
answer_some size w path lease (item ∷ items) some queue = Asked.answer-pop size w path lease item items queue

length_rest : (items : List (List ℕ)) (n : ℕ) → n + 1 ≡ length items → length (drop 1 items) ≡ n
length_rest [] n is = absurd (omega arith)
length_rest (item ∷ items) n is = omega arith

-- A name whose content is another after the request.
module _ {K : Type 0} (told : K → Told) (faults : K → Faults) (old new : TenantView K) (path : List ℕ) (named later : Named) (one : OneName told faults old path named later new) (sound : IsSoundContent old.home.seats named.content) where
  module _ (is_queue : IsQueueContent named.content) where
    at : (s : State) → Sits s old → QueueIn s.world path named
    at s sits = queue_found s old sits path named one.found is_queue

    unrefused : (s : State) → Sits s old → refusal old.terms.size s.world (Pop path) ≡ None
    unrefused s sits = Asked.refusal-pop old.terms.size s.world path named.lease (at s sits).items (at s sits).is

    -- a queue with a block has items
    some_items : queue_of named.content ≢ [] → (s : State) (sits : Sits s old) → 0 < length (at s sits).items
    some_items some s sits = let many = (at s sits).many in let left = some_left old.home.seats (queue_of named.content) (sound_queue named.content old.home.seats is_queue sound) some in omega (arith, many, left)

    -- where an item was taken out
    module _ (item : List ℕ) (out : Popped told (keeping old named) path item (keeping new later)) where
      answers : (s : State) (sits : Sits s old) → answer old.terms.size s.world (Pop path) ≡ (with_node s.world path (record { lease = named.lease; body = QueueBody (drop 1 (at s sits).items) }), first_item (at s sits).items)
      answers s sits = answer_some old.terms.size s.world path named.lease (at s sits).items (some_items out.first.some s sits) (at s sits).is

      body_same : (s : State) (sits : Sits s old) (n : NodeIn s.world path named) → ◌≡◌ {A = Node} (record { lease = named.lease; body = QueueBody (drop 1 (at s sits).items) }) (record { lease = n.node.lease; body = popped_body n.node.body })
      body_same s sits n =
          let is : n.node ≡ record { lease = named.lease; body = QueueBody (at s sits).items } = inside n.node (record { lease = named.lease; body = QueueBody (at s sits).items }) (sym n.is ∙ (at s sits).is.node) in
          λ i. record { lease = (sym is i).lease; body = popped_body (sym is i).body }
        where
          inside : (x y : Node) → Some x ≡ Some y → x ≡ y
          inside x y e = cc

      fewer_extent : (s : State) (sits : Sits s old) (n : NodeIn s.world path named) → extent_of (popped_body n.node.body) ≡ content_extent later.content
      fewer_extent s sits n =
          let left : length (drop 1 (at s sits).items) ≡ count_of (queue_of later.content) = length_rest (at s sits).items (count_of (queue_of later.content)) (out.one_less ∙ (at s sits).many) in
          ap (λ (x : Node). extent_of x.body) (sym (body_same s sits n)) ∙ ap (λ l. QueueExtent l) left ∙ ap content_extent (sym out.is_queue)

      -- it is the state's first
      first : (s : State) (sits : Sits s old) → Lies (told old.home.shelf) s old → first_item (at s sits).items ≡ Item item
      first s sits lies =
          let t = told old.home.shelf in
          ap first_item (sym (Asked.items_named-queue s.world path named.lease (at s sits).items (at s sits).is) ∙ items_are old one.was path named one.found s t lies is_queue)
          ∙ first_is _ item (out.first.first lies.blocks (blocks_in old one.was path named one.found s t lies is_queue) lies.held (queue_is old one.was path named one.found s t lies is_queue))

      -- and the block that goes is the layout's
      gone : (s : State) → Lies (told old.home.shelf) s old → gone_of (queue_of named.content) ≡ popped_out (queue_blocks (kept_at s.layout path))
      gone s lies =
          let t = told old.home.shelf in
          gone_is lies.blocks (queue_of named.content) (blocks_in old one.was path named one.found s t lies is_queue) (queue_is old one.was path named one.found s t lies is_queue)
          ∙ ap (λ (k : KeptAs). popped_out (queue_blocks k)) (sym (layout_is old one.was path named one.found s t lies is_queue))

      asks : AsksOwn told faults old new path named later one popped_body popped_kept (gone_of (queue_of named.content)) [] [] out.moves (Pop path) (Item item)
      asks = record {
        fits = let short = out.first.short in let few = one.kept.few_bytes in omega (arith, short, few);
        caused = tt;
        worlds = λ s sits n m. world_done old.terms.size s.world _ m (Pop path) _ (Item item) (answers s sits) refl ∙ ap (with_node s.world path) (body_same s sits n);
        extents = fewer_extent;
        layouts = λ s sits lies. refl;
        right = λ s sits lies e freed placed before after. (
          done_reply old.terms s e (Pop path) (Item item) _ (answers s sits ∙ ap (λ (r : Reply). (with_node s.world path (record { lease = named.lease; body = QueueBody (drop 1 (at s sits).items) }), r)) (first s sits lies)) refl,
          freed ∙ ap (slices_of s.purse) (gone s lies),
          done_placed old.terms s e (Pop path) (Item item) (unrefused s sits) refl placed refl,
        );
        telling = λ tells s lies. tt;
        void = λ m void s sits lies none needs. absurd (out.first.resident void (first_parked old one.was path named one.found s (told old.home.shelf) lies is_queue needs));
      }

      pop_done : Serves told faults old (Pop path) (Item item) new
      pop_done = serves_own told faults old new path named later one _ _ _ _ _ out.moves (Pop path) (Item item) asks

    -- where there is none
    pop_empty : queue_of named.content ≡ [] → IsKept told (keeping old named) (keeping new later) → Serves told faults old (Pop path) Nothing new
    pop_empty empty kept =
        let answers : (s : State) → Sits s old → answer old.terms.size s.world (Pop path) ≡ (s.world, Nothing)
        = λ s sits.
        let none : (at s sits).items ≡ [] = no_items (at s sits).items (sym (at s sits).many ∙ ap count_of empty) in
        Asked.answer-pop-none old.terms.size s.world path named.lease (subst (λ (items : List (List ℕ)). Asked.IsQueue s.world path named.lease items) none (at s sits).is) in
        serves_same told faults old new (rest_still told faults old new path named later one kept) (rest_keeps told faults old new path named later one kept) (Pop path) Nothing (omega arith) tt (rest_unmoved told faults old new path named later one kept) unrefused refl (λ t layout. refl)
        (λ s moment sits. world_done old.terms.size s.world s.world moment (Pop path) Nothing Nothing (answers s sits) refl)
        (λ s sits lies. answers s sits)
        (λ s e bare. bare) (λ s. refl) tt
        (λ moment void s sits lies none needs. absurd (subst (λ (q : QueueView). ReadsParked old.home.seats q) empty (first_parked old one.was path named one.found s (told old.home.shelf) lies is_queue needs)))

    starved : queue_of named.content ≢ [] → (s : State) → Sits s old → (e : Entry) → Excuse old.terms s e (Pop path) NoMemory
    starved some s sits e =
        subst (λ (items : List (List ℕ)). IsTrue (nat_lt 0 (length items))) (sym (Asked.items_named-queue s.world path named.lease (at s sits).items (at s sits).is))
        (lt-ltb 0 (length (at s sits).items) (some_items some s sits))

  pub pop_serves : (reply : Reply) → IsPopped told faults (keeping old named) path reply (keeping new later) → Serves told faults old (Pop path) reply new
  pop_serves (Item item) is = pop_done is.was_queue item is
  pop_serves Nothing is = pop_empty is.0 is.1 is.2
  pop_serves WrongKind is =
      rest_refused told faults old new path named later one is.1 (Pop path) WrongKind (omega arith) tt (λ t layout. refl) (λ s e bare. bare)
      (λ s sits. let n = node_found s old sits path named one.found in Asked.refusal-wrong_kind old.terms.size s.world (Pop path) path n.node refl refl n.is (not_queue s.world path named is.0 n))
      refl tt
  pop_serves StoreFault is =
      rest_excused told faults old new path named later one is.2 (Pop path) StoreFault (omega arith) is.1.rose (λ t layout. refl) (λ s e bare. bare) (unrefused is.0) refl
      (λ s sits lies e before after. (refl, rose_counts (faults old.home.shelf) (faults new.home.shelf) e.before e.after before after is.1)) (λ tells s lies. tt)
  pop_serves (Damaged kept seen) is =
      rest_excused told faults old new path named later one is.2 (Pop path) (Damaged kept seen) (damaged_fits kept seen) tt (λ t layout. refl) (λ s e bare. bare) (unrefused is.0) refl
      (λ s sits lies e before after. (refl, is.1.instead, parked_stamp old one.was path named one.found s (told old.home.shelf) lies kept (subst (λ (c : Content). IsParkedAs old.home.seats (blocks_of c) kept) (sym is.0) is.1.parked)))
      (λ tells s lies.
      let t = told old.home.shelf in
      absurd (is.1.untold tells lies.blocks (blocks_in old one.was path named one.found s t lies is.0) lies.held (queue_is old one.was path named one.found s t lies is.0)))
  pop_serves NoMemory is =
      rest_excused told faults old new path named later one is.2 (Pop path) NoMemory (omega arith) tt (λ t layout. refl) (λ s e bare. bare) (unrefused is.0) refl (λ s sits lies e before after. starved is.0 is.1 s sits e) (λ tells s lies. tt)
  pop_serves Done is = absurd is
  pop_serves (Number n) is = absurd is
  pop_serves (Bytes out) is = absurd is
  pop_serves (TooLong limit) is = absurd is
  pop_serves Absent is = absurd is
  pop_serves Exists is = absurd is
  pop_serves (Full limit) is = absurd is
  pop_serves (Exhausted asked in_use in_all) is = absurd is
  pop_serves (AbsentUser users) is = absurd is

  pub pop_stands : (reply : Reply) → IsPopped told faults (keeping old named) path reply (keeping new later) → OwnStands old new
  pop_stands (Item item) is = own_stands told faults old new path named later one _ _ _ _ _ is.moves
  pop_stands Nothing is = rest_stands told faults old new path named later one is.2
  pop_stands WrongKind is = rest_stands told faults old new path named later one is.1
  pop_stands StoreFault is = rest_stands told faults old new path named later one is.2
  pop_stands (Damaged kept seen) is = rest_stands told faults old new path named later one is.2
  pop_stands NoMemory is = rest_stands told faults old new path named later one is.2
  pop_stands Done is = absurd is
  pop_stands (Number n) is = absurd is
  pop_stands (Bytes out) is = absurd is
  pop_stands (TooLong limit) is = absurd is
  pop_stands Absent is = absurd is
  pop_stands Exists is = absurd is
  pop_stands (Full limit) is = absurd is
  pop_stands (Exhausted asked in_use in_all) is = absurd is
  pop_stands (AbsentUser users) is = absurd is
