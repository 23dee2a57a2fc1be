-- An append to a name's file.
use Rattle.std.proofs.Common.{◌≡◌, ◌≤◌, ℕ, ◌+◌, ◌-◌, not, false, MatchBool, is_some, List, [], ◌++◌, length, map, refl, ap, sym, subst, ◌∙◌, arith, Some, None}
use Rattle.std.specs.declared.option.Option.{Option}
use Rattle.std.specs.Int.{div_ceil}
use Rattle.std.specs.List.{filter}
use Rattle.std.specs.Option.{option_map_or}
use Rattle.std.specs.FinMap.{put}
use Rattle.std.proofs.lemmas.List.{length-append, length-map}
use Rattle.far_io.specs.Faults.{Faults}
use Rattle.shelf_link.specs.Told.{Told}
use Rattle.far_words.specs.Paths.{bytes_cmp}
use Rattle.far_asks.specs.declared.request.Request.TheVariants.{Append}
use Rattle.far_asks.specs.declared.request.Reply.{Reply}
use Rattle.far_asks.specs.declared.request.Reply.TheVariants.{Done, Number, Bytes, Item, Nothing, TooLong, Absent, WrongKind, Exists, Full, Exhausted, StoreFault, Damaged, AbsentUser, NoMemory}
use Rattle.far_words.specs.declared.limits.TheConstants.{MOST_IN_FILE}
use Rattle.far_asks.specs.declared.request.TheConstants.{MOST_IN_REQUEST}
use Rattle.slice_seq.specs.Purses.{Purse, has_block, open_slices}
use Rattle.slice_seq.specs.Needs.{append_need}
use Rattle.far_history.specs.Worlds.{Node, FileBody, with_node}
use Rattle.std.proofs.lemmas.Bool.{le-ltb}
use Rattle.far_history.specs.Answers as Answers
use Rattle.far_history.specs.Answers.{answer, refusal}
use Rattle.far_history.specs.Entries.{Entry}
use Rattle.far_history.specs.Layouts.{KeptAs, KeptFile, kept_at, kept_blocks, kept_longer, found_block, block_numbers, new_numbers}
use Rattle.far_history.specs.Needs.{Spot, IsKeptWhole, touched, spots, placing}
use Rattle.far_history.specs.Histories.{Terms, State}
use Rattle.far_history.specs.Legal.{Places, Excuse}
use Rattle.far_history.proofs.Needed.{need-append}
use Rattle.far_history.proofs.Asked as Asked
use Rattle.block_seats.specs.Seatings.{SeatingView}
use Rattle.block_list.specs.Ends.{IsParkedAs}
use Rattle.block_file.specs.Files.{IsSound, need_of}
use Rattle.tenant_world.specs.declared.names.Named.{Named}
use Rattle.tenant_world.specs.declared.names.Content.{Content}
use Rattle.tenant_world.specs.Outlines.{FileExtent, extent_of, content_extent}
use Rattle.tenant_world.specs.Contents.{IsSoundContent, IsFileContent, blocks_of, file_of}
use Rattle.tenant_world.specs.Keeping.{readied, is_away}
use Rattle.tenant_world.specs.Appending.{Lacks, Grew, HasRoomFor, IsAppended, longer_body, longer_kept}
use Rattle.tenant_world.specs.Views.{TenantView}
use Rattle.tenant_world.specs.Standing.{Sits, Lies}
use Rattle.tenant_world.specs.Serves.{Serves}
use Rattle.tenant_world.proofs.Found.{FileIn, NodeIn, node_found, not_file, file_found}
use Rattle.tenant_world.proofs.Served.{done_reply, world_done, slices_none}
use Rattle.tenant_world.proofs.Excused.{file_layout, file_long, rose_counts, parked_stamp, damaged_fits}
use Rattle.tenant_world.proofs.Placing.{length-placing}
use Rattle.tenant_world.proofs.Layouts.{layout_numbers, longer-is}
use Rattle.tenant_world.proofs.Numbers.{adds_new_numbers}
use Rattle.tenant_world.proofs.Keptback.{rest_refused, rest_excused, rest_stands, lacking_counts}
use Rattle.tenant_world.proofs.Owning.{OneName, OwnStands, AsksOwn, serves_own, own_stands}
use Rattle.tenant_world.proofs.Staying.{keeping}

sound_file : (content : Content) (seats : SeatingView) → IsFileContent content → IsSoundContent seats content → IsSound seats (file_of content)
sound_file content seats is sound = subst (λ (c : Content). IsSoundContent seats c) is sound

-- A name whose content is another after the request.
module _ {K : Type 0} (told : K → Told) (faults : K → Faults) (old new : TenantView K) (path more : List ℕ) (named longer : Named) (one : OneName told faults old path named longer new) (sound : IsSoundContent old.home.seats named.content) (few : length more ≤ MOST_IN_REQUEST) where
  abbrev indexes : List ℕ
  indexes = filter (is_away old.home.seats.purse (file_of named.content).blocks) (touched old.home.seats.size (file_of named.content).length (length more))

  size_is : old.terms.size ≡ old.home.seats.size
  size_is = ap (λ (t : Terms). t.size) one.was

  module _ (fits : HasRoomFor (keeping old named) more) where
    at : (s : State) → Sits s old → FileIn s.world path named
    at s sits = file_found s old sits path named one.found fits.is_file

    within : (s : State) (sits : Sits s old) → length (at s sits).bytes + length more ≤ MOST_IN_FILE
    within s sits = let long = (at s sits).long in let room = fits.room in omega (arith, room, long)

    unrefused : (s : State) → Sits s old → refusal old.terms.size s.world (Append path more) ≡ None
    unrefused s sits = Asked.refusal-append old.terms.size s.world path more named.lease (at s sits).bytes few (at s sits).is (within s sits)

    answers : (s : State) (sits : Sits s old) → answer old.terms.size s.world (Append path more) ≡ (with_node s.world path (record { lease = named.lease; body = FileBody ((at s sits).bytes ++ more) }), Number (length (at s sits).bytes + length more))
    answers s sits = Asked.answer-append old.terms.size s.world path more named.lease (at s sits).bytes few (at s sits).is (within s sits)

    -- where the file grew
    module _ (number : ℕ) (grown : Grew told (keeping old named) path more number (keeping new longer)) where
      number_long : (s : State) (sits : Sits s old) → length (at s sits).bytes + length more ≡ number
      number_long s sits = let long = (at s sits).long in let now = grown.long in let is = grown.number_is in omega (arith, long, now, is)

      body_same : (s : State) (sits : Sits s old) (n : NodeIn s.world path named) → ◌≡◌ {A = Node} (record { lease = named.lease; body = FileBody ((at s sits).bytes ++ more) }) (record { lease = n.node.lease; body = longer_body more n.node.body })
      body_same s sits n =
          let is : n.node ≡ record { lease = named.lease; body = FileBody (at s sits).bytes } = inside n.node (record { lease = named.lease; body = FileBody (at s sits).bytes }) (sym n.is ∙ (at s sits).is.node) in
          λ i. record { lease = (sym is i).lease; body = longer_body more (sym is i).body }
        where
          inside : (x y : Node) → Some x ≡ Some y → x ≡ y
          inside x y e = cc

      longer_extent : (s : State) (sits : Sits s old) (n : NodeIn s.world path named) → extent_of (longer_body more n.node.body) ≡ content_extent longer.content
      longer_extent s sits n =
          let long : length ((at s sits).bytes ++ more) ≡ (file_of longer.content).length = let was = (at s sits).long in let now = grown.long in omega (arith, was, now, length-append (at s sits).bytes more) in
          ap (λ (x : Node). extent_of x.body) (sym (body_same s sits n)) ∙ ap (λ l. FileExtent l) long ∙ ap content_extent (sym grown.is_file)

      -- the new blocks have the lowest numbers that are free in the layout
      added_are : (s : State) → Lies (told old.home.shelf) s old → new_numbers (length grown.added) (block_numbers s.layout) ≡ grown.added
      added_are s lies =
          ap (new_numbers (length grown.added)) (layout_numbers s old (told old.home.shelf) lies)
          ∙ adds_new_numbers (readied old.home.seats new.home.seats.numbers) grown.added new.home.seats _ one.kept.numbers grown.adds

      many : length grown.added ≡ div_ceil number old.terms.size - length (file_of named.content).blocks
      many =
          let after : IsSound new.home.seats (file_of longer.content) = sound_file longer.content new.home.seats grown.is_file grown.moves.sound in
          let size : new.home.seats.size ≡ old.terms.size = (own_stands told faults old new path named longer one _ _ _ _ _ grown.moves).seats.size ∙ sym size_is in
          let all : length ((file_of named.content).blocks ++ grown.added) ≡ div_ceil number old.terms.size = ap length (sym grown.blocks) ∙ after.count ∙ (λ i. div_ceil (sym grown.number_is i) (size i)) in
          omega (arith, all, length-append (file_of named.content).blocks grown.added)

      layout_put : (s : State) → Lies (told old.home.shelf) s old → put bytes_cmp path (kept_longer old.terms.size s.layout path number) s.layout ≡ put bytes_cmp path (longer_kept grown.added (kept_at s.layout path)) s.layout
      layout_put s lies =
          let kept : kept_at s.layout path ≡ KeptFile (file_of named.content).blocks = file_layout old one.was path named one.found s (told old.home.shelf) lies fits.is_file in
          ap (λ (k : KeptAs). put bytes_cmp path k s.layout)
          (longer-is old.terms.size s.layout path (file_of named.content).blocks grown.added number kept (added_are s lies) many
          ∙ ap (λ (k : KeptAs). KeptFile (kept_blocks k ++ grown.added)) (sym kept))

      -- the spots of the state are those of the home, and all are placed
      spots_are : (s : State) → Lies (told old.home.shelf) s old → spots old.terms s (Append path more) ≡ map (λ i. (path, i)) indexes
      spots_are s lies =
          let kept : kept_at s.layout path ≡ KeptFile (file_of named.content).blocks = file_layout old one.was path named one.found s (told old.home.shelf) lies fits.is_file in
          let long = file_long old one.was path named one.found s (told old.home.shelf) lies fits.is_file in
          λ i. map (λ index. (path, index)) (filter (λ index. not (option_map_or (has_block (lies.purse i)) (found_block (kept i) index) false))
          (touched (size_is i) (sym long i) (length more)))

      places : (s : State) → Lies (told old.home.shelf) s old → (e : Entry) → e.placed ≡ placing (open_slices s.purse) (map (λ i. (path, i)) indexes) → Places s e (spots old.terms s (Append path more))
      places s lies e placed = subst (λ (l : List Spot). Places s e l) (sym (spots_are s lies)) (record {
        rows = placed;
        all = ap length placed ∙ length-placing (open_slices s.purse) (map (λ i. (path, i)) indexes)
            (let room = grown.moves.slices.room in let same = grown.moves.many in
            let opens : length (open_slices s.purse) ≡ length (open_slices grown.moves.slices.between.purse) = ap (λ (p : Purse). length (open_slices p)) (lies.purse ∙ sym grown.moves.slices.goes.purse) in
            let count : length (map (λ i. (path, i)) indexes) ≡ length indexes = length-map {B = Spot} indexes (λ i. (path, i)) in
            omega (arith, room, same, opens, count));
      })

      asks : AsksOwn told faults old new path named longer one (longer_body more) (longer_kept grown.added) [] _ indexes grown.moves (Append path more) (Number number)
      asks = record {
        fits = omega arith;
        caused = tt;
        worlds = λ s sits n m. world_done old.terms.size s.world _ m (Append path more) _ (Number number) (answers s sits) refl ∙ ap (with_node s.world path) (body_same s sits n);
        extents = longer_extent;
        layouts = λ s sits lies. layout_put s lies;
        right = λ s sits lies e freed placed before after. (
          done_reply old.terms s e (Append path more) (Number number) _ (answers s sits ∙ ap (λ n. (with_node s.world path (record { lease = named.lease; body = FileBody ((at s sits).bytes ++ more) }), Number n)) (number_long s sits)) refl,
          freed ∙ slices_none s.purse,
          subst (λ (o : Option Reply). MatchBool (is_some o) (e.placed ≡ []) (Places s e (spots old.terms s (Append path more)))) (sym (unrefused s sits)) (places s lies e placed),
        );
        telling = λ tells s lies. tt;
        void = λ m void s sits lies none needs. absurd needs;
      }

      append_done : Serves told faults old (Append path more) (Number number) new
      append_done = serves_own told faults old new path named longer one _ _ _ _ _ grown.moves (Append path more) (Number number) asks

    lacking : (s : State) → Sits s old → Lies (told old.home.shelf) s old → (e : Entry) (asked in_use in_all : ℕ) → asked ≡ need_of old.home.seats (file_of named.content) (length more) → Lacks (keeping old named) asked in_use in_all → Excuse old.terms s e (Append path more) (Exhausted asked in_use in_all)
    lacking s sits lies e asked in_use in_all asked_is lacks =
        let long = file_long old one.was path named one.found s (told old.home.shelf) lies fits.is_file in
        let whole : IsKeptWhole old.terms s path (file_of named.content).blocks = record {
          kept = file_layout old one.was path named one.found s (told old.home.shelf) lies fits.is_file;
          count = (sound_file named.content old.home.seats fits.is_file sound).count ∙ (λ i. div_ceil (long i) (sym size_is i));
        } in
        let counts = lacking_counts s old (told old.home.shelf) sits lies named asked in_use in_all lacks in (
          asked_is
              ∙ (λ i. append_need (sym size_is i) (sym lies.purse i) (file_of named.content).blocks (long i) (length more))
              ∙ sym (need-append old.terms s path more (file_of named.content).blocks (subst (λ n. 1 ≤ n) (sym size_is) (let some = one.kept.some_byte in omega (arith, some))) whole),
          counts.0,
          counts.1,
          counts.2,
        )

  pub append_serves : (reply : Reply) → IsAppended told faults (keeping old named) path more reply (keeping new longer) → Serves told faults old (Append path more) reply new
  append_serves (Number number) is = append_done is.0 number is.1
  append_serves (Full limit) is =
      subst (λ (n : ℕ). Serves told faults old (Append path more) (Full n) new) (sym is.0)
      (rest_refused told faults old new path named longer one is.3 (Append path more) (Full MOST_IN_FILE) (omega arith) tt (λ t layout. refl) (λ s e bare. bare)
      (λ s sits. let found = file_found s old sits path named one.found is.1 in Asked.refusal-append-overfull old.terms.size s.world path more named.lease found.bytes few found.is (let long = found.long in let above = is.2 in omega (arith, long, above)))
      refl tt)
  append_serves (Exhausted asked in_use in_all) is =
      rest_excused told faults old new path named longer one is.3 (Append path more) (Exhausted asked in_use in_all) (omega arith) tt (λ t layout. refl) (λ s e bare. bare) (unrefused is.0) refl
      (λ s sits lies e before after. lacking is.0 s sits lies e asked in_use in_all is.1 is.2) (λ tells s lies. tt)
  append_serves StoreFault is =
      rest_excused told faults old new path named longer one is.2 (Append path more) StoreFault (omega arith) is.1.rose (λ t layout. refl) (λ s e bare. bare) (unrefused is.0) refl
      (λ s sits lies e before after. (refl, rose_counts (faults old.home.shelf) (faults new.home.shelf) e.before e.after before after is.1)) (λ tells s lies. tt)
  append_serves (Damaged kept seen) is =
      rest_excused told faults old new path named longer one is.2 (Append path more) (Damaged kept seen) (damaged_fits kept seen) tt (λ t layout. refl) (λ s e bare. bare) (unrefused is.0) refl
      (λ s sits lies e before after. (refl, is.1.instead, parked_stamp old one.was path named one.found s (told old.home.shelf) lies kept (subst (λ (c : Content). IsParkedAs old.home.seats (blocks_of c) kept) (sym is.0.is_file) is.1.parked)))
      (λ tells s lies. absurd (is.1.untold tells lies.blocks lies.held))
  append_serves NoMemory is =
      rest_excused told faults old new path named longer one is.1 (Append path more) NoMemory (omega arith) tt (λ t layout. refl) (λ s e bare. bare) (unrefused is.0) refl (λ s sits lies e before after. refl) (λ tells s lies. tt)
  append_serves Done is = absurd is
  append_serves (Bytes out) is = absurd is
  append_serves (Item bytes) is = absurd is
  append_serves Nothing is = absurd is
  append_serves (TooLong limit) is = absurd is
  append_serves Absent is = absurd is
  append_serves WrongKind is =
      rest_refused told faults old new path named longer one is.1 (Append path more) WrongKind (omega arith) tt (λ t layout. refl) (λ s e bare. bare)
      (λ s sits.
      let n = node_found s old sits path named one.found in
      Asked.refusal-wrong_kind old.terms.size s.world (Append path more) path n.node (ap (λ b. Answers.when b (TooLong MOST_IN_REQUEST)) (le-ltb MOST_IN_REQUEST (length more) few)) refl n.is (not_file s.world path named is.0 n))
      refl tt
  append_serves Exists is = absurd is
  append_serves (AbsentUser users) is = absurd is

  pub append_stands : (reply : Reply) → IsAppended told faults (keeping old named) path more reply (keeping new longer) → OwnStands old new
  append_stands (Number number) is = own_stands told faults old new path named longer one _ _ _ _ _ is.1.moves
  append_stands (Full limit) is = rest_stands told faults old new path named longer one is.3
  append_stands (Exhausted asked in_use in_all) is = rest_stands told faults old new path named longer one is.3
  append_stands StoreFault is = rest_stands told faults old new path named longer one is.2
  append_stands (Damaged kept seen) is = rest_stands told faults old new path named longer one is.2
  append_stands NoMemory is = rest_stands told faults old new path named longer one is.1
  append_stands Done is = absurd is
  append_stands (Bytes out) is = absurd is
  append_stands (Item bytes) is = absurd is
  append_stands Nothing is = absurd is
  append_stands (TooLong limit) is = absurd is
  append_stands Absent is = absurd is
  append_stands WrongKind is = rest_stands told faults old new path named longer one is.1
  append_stands Exists is = absurd is
  append_stands (AbsentUser users) is = absurd is
