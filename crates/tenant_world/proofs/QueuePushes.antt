-- A push of an item to a name's queue.
use Rattle.std.proofs.Common.{◌≡◌, ◌<◌, ◌≤◌, ℕ, ◌+◌, nat_le, not, Bool, true, false, cond, MatchBool, is_some, List, [], ◌∷◌, ◌++◌, length, map, refl, ap, sym, subst, ◌∙◌, arith, Some, None}
use Rattle.std.specs.declared.option.Option.{Option}
use Rattle.std.specs.Option.{option_map, option_map_or, option_and_then}
use Rattle.std.specs.List.{AllByRecursion, filter, last_or}
use Rattle.std.specs.Ordering.{nat_cmp}
use Rattle.std.specs.FinMap.{find, put}
use Rattle.std.specs.Map.{lookup}
use Rattle.std.specs.BTreeMap.{is_at}
use Rattle.std.proofs.lemmas.List.{append-nil, length-append, length-map}
use Rattle.std.proofs.lemmas.List.Elements.{recursion_from_All}
use Rattle.far_io.specs.Faults.{Faults}
use Rattle.shelf_link.specs.Told.{Told}
use Rattle.shelf_link.specs.Blocks as map
use Rattle.far_words.specs.Paths.{bytes_cmp}
use Rattle.far_asks.specs.declared.request.Request.TheVariants.{Push}
use Rattle.far_asks.specs.declared.request.Reply.{Reply}
use Rattle.far_asks.specs.declared.request.Reply.TheVariants.{Done, Number, Bytes, Item, Nothing, TooLong, Absent, WrongKind, Exists, Full, Exhausted, StoreFault, Damaged, AbsentUser, NoMemory}
use Rattle.far_words.specs.declared.limits.TheConstants.{MOST_IN_QUEUE}
use Rattle.slice_seq.specs.Purses.{Purse, has_block, open_slices}
use Rattle.queue_block.specs.Items.{item_size, items_bytes}
use Rattle.queue_block.specs.Queues.{QueueBlock, has_room, pushed}
use Rattle.far_history.specs.Worlds.{Node, QueueBody, with_node}
use Rattle.far_history.specs.Answers.{answer, refusal, most_in_item}
use Rattle.far_history.specs.Entries.{Entry}
use Rattle.far_history.specs.Layouts.{KeptQueue, kept_at, block_numbers, lowest_free, queue_blocks}
use Rattle.far_history.specs.Needs.{Spot, spots, placing}
use Rattle.far_history.specs.Histories.{Terms, State}
use Rattle.far_history.specs.Legal.{Places, Excuse}
use Rattle.far_history.proofs.Lowest.{IsLowest, lowest_free-is}
use Rattle.far_history.proofs.Queues.{fits_last}
use Rattle.far_history.proofs.Spots.{spots-push-last, spots-push-new}
use Rattle.far_history.proofs.Asked as Asked
use Rattle.block_seats.specs.Blocks.{BlockView, InSlice, InStore, seen, length_of}
use Rattle.block_seats.specs.Seatings.{SeatingView, IsNewNumber}
use Rattle.block_home.specs.Holding.{Holds, IsHeld}
use Rattle.block_list.specs.Lists.{parked_of}
use Rattle.block_list.specs.Ends.{IsParkedAs}
use Rattle.block_queue.specs.Queues.{QueueView, HasItems, IsQueue, mark_of, count_of, last_mark, has_space, target_of, need_of}
use Rattle.tenant_world.specs.declared.names.Named.{Named}
use Rattle.tenant_world.specs.declared.names.Content.{Content}
use Rattle.tenant_world.specs.Outlines.{QueueExtent, extent_of, content_extent}
use Rattle.tenant_world.specs.Contents.{IsSoundContent, IsQueueContent, blocks_of, queue_of}
use Rattle.tenant_world.specs.Appending.{Lacks}
use Rattle.tenant_world.specs.Pushing.{IsPushed, Pushed, HasRoomForOne, pushed_body, pushed_kept, coming_for}
use Rattle.tenant_world.specs.Views.{TenantView}
use Rattle.tenant_world.specs.Standing.{Sits, Lies}
use Rattle.tenant_world.specs.Serves.{IsStill, Keeps, Serves}
use Rattle.tenant_world.specs.Well.{numbers_in}
use Rattle.tenant_world.proofs.Found.{QueueIn, NodeIn, node_found, node_absent, queue_found, not_queue}
use Rattle.tenant_world.proofs.Served.{IsUnmoved, serves_refused, world_done, done_reply, slices_none}
use Rattle.tenant_world.proofs.Excused.{rose_counts, parked_stamp, damaged_fits}
use Rattle.tenant_world.proofs.Fresh.{a_new_number}
use Rattle.tenant_world.proofs.Placing.{length-placing}
use Rattle.tenant_world.proofs.Layouts.{layout_numbers}
use Rattle.tenant_world.proofs.Numbers.{new_is_lowest}
use Rattle.tenant_world.proofs.Keptback.{rest_refused, rest_excused, rest_stands, lacking_counts}
use Rattle.tenant_world.proofs.Owning.{OneName, OwnStands, AsksOwn, serves_own, own_stands}
use Rattle.tenant_world.proofs.Staying.{keeping}
use Rattle.tenant_world.proofs.Queued.{blocks_in, queue_is, layout_is}
use Rattle.tenant_world.proofs.QueueOwn.{coming_need}

module _ {K : Type 0} (told : K → Told) (faults : K → Faults) (old new : TenantView K) (still : IsStill new.moves) (keeps : Keeps told faults old new) (same : IsUnmoved told old new) (path item : List ℕ) where
  pub push_nowhere : length item ≤ most_in_item old.terms.size → lookup (is_at (bytes_cmp path)) old.names ≡ None → Serves told faults old (Push path item) Absent new
  push_nowhere few none =
      serves_refused told faults old new still keeps (Push path item) Absent (omega arith) tt same
      (λ s sits. Asked.refusal-push-absent old.terms.size s.world path item few (node_absent s old sits path none))
      refl (λ t layout. refl) (λ s e bare. bare) tt

  pub push_long : most_in_item old.terms.size < length item → Serves told faults old (Push path item) (TooLong (most_in_item old.terms.size)) new
  push_long long =
      serves_refused told faults old new still keeps (Push path item) (TooLong (most_in_item old.terms.size)) (omega arith) tt same
      (λ s sits. Asked.refusal-push-long old.terms.size s.world path item long)
      refl (λ t layout. refl) (λ s e bare. bare) tt

-- The block that an item goes into, in a home and in a history.

last_marked : (blocks : List QueueBlock) → last_mark (map mark_of blocks) ≡ option_map mark_of (last_or None blocks)
last_marked [] = refl
last_marked (b ∷ blocks) = further b blocks
  where
    further : (b : QueueBlock) (blocks : List QueueBlock) → last_mark (map mark_of (b ∷ blocks)) ≡ option_map mark_of (last_or (Some b) blocks)
    further b [] = refl
    further b (c ∷ blocks) = further c blocks

-- what holds of each block holds of the last one
last_has : (P : QueueBlock → Type 0) (blocks : List QueueBlock) (b : QueueBlock) → AllByRecursion P blocks → last_or None blocks ≡ Some b → P b
last_has P [] b all is = cc
last_has P (c ∷ blocks) b all is = further c blocks b all is
  where
    further : (c : QueueBlock) (blocks : List QueueBlock) (b : QueueBlock) → AllByRecursion P (c ∷ blocks) → last_or (Some c) blocks ≡ Some b → P b
    further c [] b all is = let same : c ≡ b = cc in subst P same all.0
    further c (d ∷ blocks) b all is = further d blocks b all.1 is

-- a block that is held has as many bytes as the map has
some_same : (a b : List ℕ) → Some a ≡ Some b → a ≡ b
some_same a b e = cc

held_long : (m : map.Blocks) (told : Told) (user block : ℕ) (bytes : List ℕ) (o : Option BlockView) → IsHeld m told user block o → map.block_at m block ≡ Some bytes → length_of (seen o) ≡ length bytes
held_long m told user block bytes None held at = let none : None ≡ Some bytes = sym held ∙ at in cc
held_long m told user block bytes (Some (InSlice bs was)) held at = ap (λ (l : List ℕ). length l) (some_same bs bytes (sym held ∙ at))
held_long m told user block bytes (Some (InStore stamp)) held at = ap (λ s. s.length) held.stamped ∙ ap (λ (l : List ℕ). length l) (some_same held.bytes bytes (sym held.there ∙ at))

module _ (m : map.Blocks) (told : Told) (user : ℕ) (seats : SeatingView) (held : Holds m told user seats.blocks) (queue : QueueView) (blocks : List QueueBlock) (is : IsQueue m queue blocks) (item : List ℕ) where
  space_is : (b : QueueBlock) → HasItems m b → has_space seats (item_size item) (mark_of b) ≡ has_room seats.size item b
  space_is b items = ap (λ n. nat_le (n + item_size item) seats.size) (held_long m told user b.block (items_bytes b.items) (find nat_cmp b.block seats.blocks) (held.each b.block) items.bytes)

  target_at : (o : Option QueueBlock) → last_or None blocks ≡ o → target_of seats queue (item_size item) ≡ option_and_then (λ mark. cond (has_space seats (item_size item) mark) (Some mark.block) None) (option_map mark_of o)
  target_at o last = ap (option_and_then (λ mark. cond (has_space seats (item_size item) mark) (Some mark.block) None)) (ap last_mark is.marks ∙ last_marked blocks ∙ ap (option_map mark_of) last)

  target_last : (b : QueueBlock) → last_or None blocks ≡ Some b → (room : Bool) → has_room seats.size item b ≡ room → target_of seats queue (item_size item) ≡ cond room (Some b.block) None
  target_last b last room has =
      target_at (Some b) last
      ∙ ap (λ t. cond t (Some b.block) None) (space_is b (last_has (HasItems m) blocks b (recursion_from_All (HasItems m) blocks is.each) last) ∙ has)

-- A name whose content is another after the request.
module _ {K : Type 0} (told : K → Told) (faults : K → Faults) (old new : TenantView K) (path item : List ℕ) (named longer : Named) (one : OneName told faults old path named longer new) (sound : IsSoundContent old.home.seats named.content) (few : length item ≤ most_in_item old.terms.size) where
  size_is : old.terms.size ≡ old.home.seats.size
  size_is = ap (λ (t : Terms). t.size) one.was

  abbrev queue : QueueView
  queue = queue_of named.content

  lowest : (s : State) → Lies (told old.home.shelf) s old → (number : ℕ) → IsNewNumber old.home.seats number → IsLowest (block_numbers s.layout) number
  lowest s lies number is_new = subst (λ ns. IsLowest ns number) (sym (layout_numbers s old (told old.home.shelf) lies)) (new_is_lowest old.home.seats (numbers_in old.names) number one.kept.numbers is_new)

  module _ (is_queue : IsQueueContent named.content) where
    at : (s : State) → Sits s old → QueueIn s.world path named
    at s sits = queue_found s old sits path named one.found is_queue

    -- the spots of the state are those of the home
    module _ (s : State) (lies : Lies (told old.home.shelf) s old) (number : ℕ) (is_new : IsNewNumber old.home.seats number) where
      abbrev t : Told
      t = told old.home.shelf

      blocks : List QueueBlock
      blocks = blocks_in old one.was path named one.found s (told old.home.shelf) lies is_queue

      laid : kept_at s.layout path ≡ KeptQueue blocks
      unfolding blocks
      laid = layout_is old one.was path named one.found s (told old.home.shelf) lies is_queue

      its : IsQueue lies.blocks (queue_of named.content) blocks
      unfolding blocks
      its = queue_is old one.was path named one.found s (told old.home.shelf) lies is_queue

      coming_at : (o : Option ℕ) → target_of old.home.seats (queue_of named.content) (item_size item) ≡ o → coming_for old.home.seats (queue_of named.content) item number ≡ option_map_or (λ block. parked_of old.home.seats.purse (block ∷ [])) o [] ++ option_map_or (λ block. []) o (number ∷ [])
      coming_at o is = ap (λ (x : Option ℕ). option_map_or (λ block. parked_of old.home.seats.purse (block ∷ [])) x [] ++ option_map_or (λ block. []) x (number ∷ [])) is

      spots_new : fits_last old.terms.size item blocks ≡ false → target_of old.home.seats (queue_of named.content) (item_size item) ≡ None → spots old.terms s (Push path item) ≡ map (λ i. (path, i)) (coming_for old.home.seats (queue_of named.content) item number)
      spots_new full none =
          spots-push-new old.terms s path blocks laid item number (lowest s lies number is_new) full
          ∙ ap (map {B = Spot} (λ i. (path, i))) (sym (coming_at None none))

      spots_last : (b : QueueBlock) → last_or None blocks ≡ Some b → (room : Bool) → has_room old.terms.size item b ≡ room → spots old.terms s (Push path item) ≡ map (λ i. (path, i)) (coming_for old.home.seats (queue_of named.content) item number)
      spots_last b last true room =
          let target = target_last lies.blocks (told old.home.shelf) old.home.user old.home.seats lies.held (queue_of named.content) blocks its item b last true (ap (λ n. has_room n item b) (sym size_is) ∙ room) in
          spots-push-last old.terms s path blocks laid item b last room
          ∙ ap (λ (p : Purse). map {B = Spot} (λ i. (path, i)) (filter (λ block. not (has_block p block)) (b.block ∷ []))) lies.purse
          ∙ ap (map {B = Spot} (λ i. (path, i))) (sym (append-nil (parked_of old.home.seats.purse (b.block ∷ []))) ∙ sym (coming_at (Some b.block) target))
      spots_last b last false room =
          let target = target_last lies.blocks (told old.home.shelf) old.home.user old.home.seats lies.held (queue_of named.content) blocks its item b last false (ap (λ n. has_room n item b) (sym size_is) ∙ room) in
          spots_new (ap (λ (o : Option QueueBlock). option_map_or (has_room old.terms.size item) o false) last ∙ room) target

      spots_by : (o : Option QueueBlock) → last_or None blocks ≡ o → spots old.terms s (Push path item) ≡ map (λ i. (path, i)) (coming_for old.home.seats (queue_of named.content) item number)
      spots_by (Some b) last = spots_last b last (has_room old.terms.size item b) refl
      spots_by None last =
          spots_new (ap (λ (o : Option QueueBlock). option_map_or (has_room old.terms.size item) o false) last)
          (target_at lies.blocks (told old.home.shelf) old.home.user old.home.seats lies.held (queue_of named.content) blocks its item None last)

      spots_are : spots old.terms s (Push path item) ≡ map (λ i. (path, i)) (coming_for old.home.seats (queue_of named.content) item number)
      spots_are = spots_by (last_or None blocks) refl

    module _ (fits : HasRoomForOne (keeping old named)) where
      within : (s : State) (sits : Sits s old) → length (at s sits).items + 1 ≤ MOST_IN_QUEUE
      within s sits = let many = (at s sits).many in let room = fits.room in omega (arith, room, many)

      unrefused : (s : State) → Sits s old → refusal old.terms.size s.world (Push path item) ≡ None
      unrefused s sits = Asked.refusal-push old.terms.size s.world path item named.lease (at s sits).items few (at s sits).is (within s sits)

      answers : (s : State) (sits : Sits s old) → answer old.terms.size s.world (Push path item) ≡ (with_node s.world path (record { lease = named.lease; body = QueueBody ((at s sits).items ++ item ∷ []) }), Done)
      answers s sits = Asked.answer-push old.terms.size s.world path item named.lease (at s sits).items few (at s sits).is (within s sits)

      -- where the item was put there
      module _ (put_in : Pushed told (keeping old named) path item (keeping new longer)) where
        abbrev coming : List ℕ
        coming = coming_for old.home.seats (queue_of named.content) item put_in.number

        body_same : (s : State) (sits : Sits s old) (n : NodeIn s.world path named) → ◌≡◌ {A = Node} (record { lease = named.lease; body = QueueBody ((at s sits).items ++ item ∷ []) }) (record { lease = n.node.lease; body = pushed_body item n.node.body })
        body_same s sits n =
            let is : n.node ≡ record { lease = named.lease; body = QueueBody (at s sits).items } = inside n.node (record { lease = named.lease; body = QueueBody (at s sits).items }) (sym n.is ∙ (at s sits).is.node) in
            λ i. record { lease = (sym is i).lease; body = pushed_body item (sym is i).body }
          where
            inside : (x y : Node) → Some x ≡ Some y → x ≡ y
            inside x y e = cc

        longer_extent : (s : State) (sits : Sits s old) (n : NodeIn s.world path named) → extent_of (pushed_body item n.node.body) ≡ content_extent longer.content
        longer_extent s sits n =
            let long : length ((at s sits).items ++ item ∷ []) ≡ count_of (queue_of longer.content) = let was = (at s sits).many in let now = put_in.one_more in omega (arith, was, now, length-append (at s sits).items (item ∷ [])) in
            ap (λ (x : Node). extent_of x.body) (sym (body_same s sits n)) ∙ ap (λ l. QueueExtent l) long ∙ ap content_extent (sym put_in.is_queue)

        layout_put : (s : State) → Lies (told old.home.shelf) s old → put bytes_cmp path (KeptQueue (pushed old.terms.size (lowest_free (block_numbers s.layout)) (queue_blocks (kept_at s.layout path)) item)) s.layout
            ≡ put bytes_cmp path (pushed_kept old.home.seats.size put_in.number item (kept_at s.layout path)) s.layout
        layout_put s lies =
            let number : lowest_free (block_numbers s.layout) ≡ put_in.number = lowest_free-is (block_numbers s.layout) put_in.number (lowest s lies put_in.number put_in.is_new) in
            λ i. put bytes_cmp path (KeptQueue (pushed (size_is i) (number i) (queue_blocks (kept_at s.layout path)) item)) s.layout

        places : (s : State) → Lies (told old.home.shelf) s old → (e : Entry) → e.placed ≡ placing (open_slices s.purse) (map (λ i. (path, i)) (coming_for old.home.seats (queue_of named.content) item put_in.number)) → Places s e (spots old.terms s (Push path item))
        places s lies e placed = subst (λ (l : List Spot). Places s e l) (sym (spots_are s lies put_in.number put_in.is_new)) (record {
          rows = placed;
          all = ap length placed ∙ length-placing (open_slices s.purse) (map (λ i. (path, i)) coming)
              (let room = put_in.moves.slices.room in
              let opens : length (open_slices s.purse) ≡ length (open_slices put_in.moves.slices.between.purse) = ap (λ (p : Purse). length (open_slices p)) (lies.purse ∙ sym put_in.moves.slices.goes.purse) in
              let count : length (map (λ i. (path, i)) coming) ≡ length coming = length-map {B = Spot} coming (λ i. (path, i)) in
              omega (arith, room, opens, count));
        })

        asks : AsksOwn told faults old new path named longer one (pushed_body item) (pushed_kept old.home.seats.size put_in.number item) [] _ _ put_in.moves (Push path item) Done
        asks = record {
          fits = omega arith;
          caused = tt;
          worlds = λ s sits n m. world_done old.terms.size s.world _ m (Push path item) _ Done (answers s sits) refl ∙ ap (with_node s.world path) (body_same s sits n);
          extents = longer_extent;
          layouts = λ s sits lies. layout_put s lies;
          right = λ s sits lies e freed placed before after. (
            done_reply old.terms s e (Push path item) Done _ (answers s sits) refl,
            freed ∙ slices_none s.purse,
            subst (λ (o : Option Reply). MatchBool (is_some o) (e.placed ≡ []) (Places s e (spots old.terms s (Push path item)))) (sym (unrefused s sits)) (places s lies e placed),
          );
          telling = λ tells s lies. tt;
          void = λ m void s sits lies none needs. absurd needs;
        }

        push_done : Serves told faults old (Push path item) Done new
        push_done = serves_own told faults old new path named longer one _ _ _ _ _ put_in.moves (Push path item) Done asks

      lacking : (s : State) → Sits s old → Lies (told old.home.shelf) s old → (e : Entry) (asked in_use in_all : ℕ) → asked ≡ need_of old.home.seats (queue_of named.content) (item_size item) → Lacks (keeping old named) asked in_use in_all → Excuse old.terms s e (Push path item) (Exhausted asked in_use in_all)
      lacking s sits lies e asked in_use in_all asked_is lacks =
          let number = a_new_number old.home.seats in
          let coming : List ℕ = coming_for old.home.seats (queue_of named.content) item number.0 in
          let counts = lacking_counts s old (told old.home.shelf) sits lies named asked in_use in_all lacks in (
            asked_is
                ∙ sym (coming_need old.home.seats (queue_of named.content) item number.0)
                ∙ sym (length-map {B = Spot} coming (λ i. (path, i)))
                ∙ ap (λ (l : List Spot). length l) (sym (spots_are s lies number.0 number.1)),
            counts.0,
            counts.1,
            counts.2,
          )

  pub push_serves : (reply : Reply) → IsPushed told faults (keeping old named) path item reply (keeping new longer) → Serves told faults old (Push path item) reply new
  push_serves Done is = push_done is.0.is_queue is.0 is.1
  push_serves WrongKind is =
      rest_refused told faults old new path named longer one is.1 (Push path item) WrongKind (omega arith) tt (λ t layout. refl) (λ s e bare. bare)
      (λ s sits. let n = node_found s old sits path named one.found in Asked.refusal-push-other old.terms.size s.world path item n.node few n.is (not_queue s.world path named is.0 n))
      refl tt
  push_serves (Full limit) is =
      subst (λ (n : ℕ). Serves told faults old (Push path item) (Full n) new) (sym is.0)
      (rest_refused told faults old new path named longer one is.3 (Push path item) (Full MOST_IN_QUEUE) (omega arith) tt (λ t layout. refl) (λ s e bare. bare)
      (λ s sits. let found = queue_found s old sits path named one.found is.1 in Asked.refusal-push-overfull old.terms.size s.world path item named.lease found.items few found.is (let many = found.many in let above = is.2 in omega (arith, many, above)))
      refl tt)
  push_serves (Exhausted asked in_use in_all) is =
      rest_excused told faults old new path named longer one is.3 (Push path item) (Exhausted asked in_use in_all) (omega arith) tt (λ t layout. refl) (λ s e bare. bare) (unrefused is.0.is_queue is.0) refl
      (λ s sits lies e before after. lacking is.0.is_queue is.0 s sits lies e asked in_use in_all is.1 is.2) (λ tells s lies. tt)
  push_serves StoreFault is =
      rest_excused told faults old new path named longer one is.2 (Push path item) StoreFault (omega arith) is.1.rose (λ t layout. refl) (λ s e bare. bare) (unrefused is.0.is_queue is.0) refl
      (λ s sits lies e before after. (refl, rose_counts (faults old.home.shelf) (faults new.home.shelf) e.before e.after before after is.1)) (λ tells s lies. tt)
  push_serves (Damaged kept seen) is =
      rest_excused told faults old new path named longer one is.2 (Push path item) (Damaged kept seen) (damaged_fits kept seen) tt (λ t layout. refl) (λ s e bare. bare) (unrefused is.0.is_queue is.0) refl
      (λ s sits lies e before after. (refl, is.1.instead, parked_stamp old one.was path named one.found s (told old.home.shelf) lies kept (subst (λ (c : Content). IsParkedAs old.home.seats (blocks_of c) kept) (sym is.0.is_queue) is.1.parked)))
      (λ tells s lies. absurd (is.1.untold tells lies.blocks lies.held))
  push_serves NoMemory is =
      rest_excused told faults old new path named longer one is.1 (Push path item) NoMemory (omega arith) tt (λ t layout. refl) (λ s e bare. bare) (unrefused is.0.is_queue is.0) refl (λ s sits lies e before after. refl) (λ tells s lies. tt)
  push_serves (Number n) is = absurd is
  push_serves (Bytes out) is = absurd is
  push_serves (Item out) is = absurd is
  push_serves Nothing is = absurd is
  push_serves (TooLong limit) is = absurd is
  push_serves Absent is = absurd is
  push_serves Exists is = absurd is
  push_serves (AbsentUser users) is = absurd is

  pub push_stands : (reply : Reply) → IsPushed told faults (keeping old named) path item reply (keeping new longer) → OwnStands old new
  push_stands Done is = own_stands told faults old new path named longer one _ _ _ _ _ is.1.moves
  push_stands WrongKind is = rest_stands told faults old new path named longer one is.1
  push_stands (Full limit) is = rest_stands told faults old new path named longer one is.3
  push_stands (Exhausted asked in_use in_all) is = rest_stands told faults old new path named longer one is.3
  push_stands StoreFault is = rest_stands told faults old new path named longer one is.2
  push_stands (Damaged kept seen) is = rest_stands told faults old new path named longer one is.2
  push_stands NoMemory is = rest_stands told faults old new path named longer one is.1
  push_stands (Number n) is = absurd is
  push_stands (Bytes out) is = absurd is
  push_stands (Item out) is = absurd is
  push_stands Nothing is = absurd is
  push_stands (TooLong limit) is = absurd is
  push_stands Absent is = absurd is
  push_stands Exists is = absurd is
  push_stands (AbsentUser users) is = absurd is
