-- A load of a name's blocks, whatever kind it is of.
use Rattle.std.proofs.Common.{◌≡◌, ◌<◌, ◌≤◌, ℕ, zero, suc, not, Bool, true, false, cond, MatchBool, is_some, IsTrue, List, [], ◌∷◌, length, map, take, get_or, refl, ap, sym, subst, ◌∙◌, arith, Some, None}
use Rattle.std.specs.declared.option.Option.{Option}
use Rattle.std.specs.List.{filter}
use Rattle.std.proofs.lemmas.List.{take_all, length-map}
use Rattle.far_io.specs.Faults.{Faults}
use Rattle.shelf_link.specs.Told.{Told}
use Rattle.far_asks.specs.declared.request.Request.TheVariants.{Load}
use Rattle.far_asks.specs.declared.request.Reply.{Reply}
use Rattle.far_asks.specs.declared.request.Reply.TheVariants.{Done, Number, Bytes, Item, Nothing, TooLong, Absent, WrongKind, Exists, Full, Exhausted, StoreFault, Damaged, AbsentUser, NoMemory}
use Rattle.slice_seq.specs.Purses.{Purse, has_block, open_slices}
use Rattle.far_history.specs.Answers.{answer, refusal}
use Rattle.far_history.specs.Entries.{Entry}
use Rattle.far_history.specs.Layouts.{Layout, KeptAs, found_block}
use Rattle.far_history.specs.Needs.{Spot, spots, parked_spots, placing}
use Rattle.far_history.specs.Histories.{Terms, State, is_excuse, layout_asked}
use Rattle.far_history.specs.Legal.{Places, Excuse, IsFreed}
use Rattle.far_history.specs.Standing.{frame_bytes, most_in_frame, IsCaused}
use Rattle.far_asks.specs.declared.request.Outcome.TheVariants.{Reply as Replied}
use Rattle.far_history.proofs.Asked as Asked
use Rattle.block_list.specs.Lists.{parked_of}
use Rattle.tenant_world.specs.declared.names.Named.{Named}
use Rattle.tenant_world.specs.Contents.{blocks_of}
use Rattle.tenant_world.specs.Moving.{MovesOwn}
use Rattle.tenant_world.specs.Parking.{Returns, IsLoadedContent, away_of}
use Rattle.tenant_world.specs.Views.{TenantView, count_in}
use Rattle.tenant_world.specs.Standing.{Sits, Lies}
use Rattle.tenant_world.specs.Serves.{Serves}
use Rattle.tenant_world.specs.Telling.{NeverDamaged}
use Rattle.tenant_world.proofs.Content.{among_index}
use Rattle.tenant_world.proofs.Sorts.{found_among, spots_load, parked_load, away_count}
use Rattle.tenant_world.proofs.Chosen.{map-take}
use Rattle.tenant_world.proofs.Found.{lain_found, node_found}
use Rattle.tenant_world.proofs.Served.{excused_reply, done_reply, world_done, world_excused, slices_none}
use Rattle.tenant_world.proofs.Excused.{rose_counts, parked_stamp, damaged_fits}
use Rattle.tenant_world.proofs.Placing.{length-placing}
use Rattle.tenant_world.proofs.Keptback.{rest_excused, rest_stands, lacking_counts}
use Rattle.tenant_world.proofs.Owning.{OneName, OwnStands, serves_own, own_stands}
use Rattle.tenant_world.proofs.Same.{world_same, layout_same, extent_same}
use Rattle.tenant_world.proofs.Staying.{keeping}

-- a block that passes is among those that pass
some_pass : (p : ℕ → Bool) (blocks : List ℕ) (i block : ℕ) → i < length blocks → get_or blocks i 0 ≡ block → p block ≡ true → 0 < length (filter p blocks)
some_pass p [] i block inside at pass = absurd (omega arith)
some_pass p (b ∷ blocks) i block inside at pass = by i (p b) refl inside at (λ j l e. some_pass p blocks j block l e pass)
  where
    by : (i : ℕ) (t : Bool) → p b ≡ t → i < length (b ∷ blocks) → get_or (b ∷ blocks) i 0 ≡ block → ((j : ℕ) → j < length blocks → get_or blocks j 0 ≡ block → 0 < length (filter p blocks)) → 0 < length (cond t (b ∷ filter p blocks) (filter p blocks))
    by i true is inside at later = omega arith
    by zero false is inside at later = let no : p block ≡ false = ap p (sym at) ∙ is in cc
    by (suc i) false is inside at later = later i (omega arith) at

module _ {K : Type 0} (told : K → Told) (faults : K → Faults) (old new : TenantView K) (path : List ℕ) (named later : Named) (one : OneName told faults old path named later new) where
  abbrev purse : Purse
  purse = old.home.seats.purse

  abbrev away : List ℕ
  away = away_of old.home.seats.purse named.content

  abbrev at_away : List Spot
  at_away = map (λ i. (path, i)) (away_of old.home.seats.purse named.content)

  unrefused : (s : State) → Sits s old → refusal old.terms.size s.world (Load path) ≡ None
  unrefused s sits = let at = node_found s old sits path named one.found in Asked.refusal-found old.terms.size s.world (Load path) path at.node refl refl at.is refl

  answers : (s : State) → Sits s old → answer old.terms.size s.world (Load path) ≡ (s.world, Done)
  answers s sits = Asked.answer-done old.terms.size s.world (Load path) (unrefused s sits)

  -- the spots of the state are those of the home, and all are parked ones
  spots_are : (s : State) → Lies (told old.home.shelf) s old → spots old.terms s (Load path) ≡ map (λ i. (path, i)) (away_of old.home.seats.purse named.content)
  spots_are s lies = let lain = lain_found s old path (told old.home.shelf) lies named one.found in spots_load old.terms s path purse lies.purse old.home.seats.size lies.blocks named.content lain.kept lain.body lain.held lain.at

  parked_are : (s : State) → Lies (told old.home.shelf) s old → parked_spots old.terms s (Load path) ≡ map (λ i. (path, i)) (away_of old.home.seats.purse named.content)
  parked_are s lies =
      let lain = lain_found s old path (told old.home.shelf) lies named one.found in
      parked_load old.terms s path purse lies.purse old.home.seats.size lies.blocks named.content lain.kept lain.body lain.held lain.at ∙ spots_are s lies

  -- so many of them are placed
  module _ (n : ℕ) (own : MovesOwn told (λ b. b) (λ k. k) (keeping old named) path [] (take n (parked_of old.home.seats.purse (blocks_of named.content))) (take n (away_of old.home.seats.purse named.content)) (keeping new later)) where
    places_first : (s : State) → Lies (told old.home.shelf) s old → (e : Entry) → e.placed ≡ placing (open_slices s.purse) (map (λ i. (path, i)) (take n (away_of old.home.seats.purse named.content))) → Places s e (take n (map (λ i. (path, i)) (away_of old.home.seats.purse named.content)))
    places_first s lies e placed =
        let few : List Spot = map (λ i. (path, i)) (take n away) in
        let room = own.slices.room in
        let many = own.many in
        let opens : length (open_slices s.purse) ≡ length (open_slices own.slices.between.purse) = ap (λ (p : Purse). length (open_slices p)) (lies.purse ∙ sym own.slices.goes.purse) in
        subst (λ (l : List Spot). Places s e l) (map-take (λ i. (path, i)) n away) (record {
          rows = placed;
          all = ap length placed ∙ length-placing (open_slices s.purse) few (let count : length few ≡ length (take n away) = length-map {B = Spot} (take n away) (λ i. (path, i)) in omega (arith, room, many, opens, count));
        })

  load_done : (n : ℕ) → n ≡ length (parked_of old.home.seats.purse (blocks_of named.content)) → Returns told (keeping old named) path n (keeping new later) → (IsTrue (told old.home.shelf).void → 0 < length (parked_of old.home.seats.purse (blocks_of named.content)) → ⊥) → Serves told faults old (Load path) Done new
  load_done n many is resident =
      serves_own told faults old new path named later one (λ b. b) (λ k. k) [] _ _ is.1 (Load path) Done (record {
        fits = omega arith;
        caused = tt;
        worlds = λ s sits z m. world_done old.terms.size s.world s.world m (Load path) Done Done (answers s sits) refl ∙ sym (world_same told faults old new path named later one s sits z);
        extents = λ s sits z. extent_same s.world path named later is.0 z;
        layouts = λ s sits lies. sym (layout_same told faults old new path named later one s lies);
        right = λ s sits lies e freed placed before after.
            let count = away_count purse named.content in
            let long : length at_away ≡ length away = length-map {B = Spot} away (λ i. (path, i)) in
            let all : take n at_away ≡ at_away = take_all n at_away (omega (arith, many, count, long)) in
            let places : Places s e (spots old.terms s (Load path)) = subst (λ (l : List Spot). Places s e l) (all ∙ sym (spots_are s lies)) (places_first n is.1 s lies e placed) in (
              done_reply old.terms s e (Load path) Done s.world (answers s sits) refl,
              freed ∙ slices_none s.purse,
              subst (λ (o : Option Reply). MatchBool (is_some o) (e.placed ≡ []) (Places s e (spots old.terms s (Load path)))) (sym (unrefused s sits)) places,
            );
        telling = λ tells s lies. tt;
        void = λ m void s sits lies none needs.
            let lain = lain_found s old path (told old.home.shelf) lies named one.found in
            let there : found_block lain.kept needs.0 ≡ Some needs.1.block = ap (λ (k : KeptAs). found_block k needs.0) (sym lain.at) ∙ needs.1.there in
            let at = among_index (blocks_of named.content) needs.1.block (found_among old.home.seats.size lies.blocks named.content lain.kept lain.body lain.held needs.0 needs.1.block there) in
            let parked : not (has_block purse needs.1.block) ≡ true = ap not (ap (λ (p : Purse). has_block p needs.1.block) (sym lies.purse) ∙ needs.1.parked) in
            absurd (resident void (some_pass (λ b. not (has_block purse b)) (blocks_of named.content) at.index needs.1.block at.within at.is parked));
      })

  -- the store failed, or gave something else: the first ones are placed
  load_part : (reply : Reply) (n : ℕ) → Returns told (keeping old named) path n (keeping new later) → frame_bytes reply ≤ most_in_frame → IsCaused (Replied reply) (count_in faults old) (count_in faults new) → is_excuse reply ≡ true
      → ((t : Terms) (layout : Layout) → layout_asked t layout (Load path) reply ≡ layout) → ((s : State) (e : Entry) → e.freed ≡ [] → IsFreed s e (Load path) reply)
      → ((s : State) → Sits s old → Lies (told old.home.shelf) s old → (e : Entry) → e.before ≡ count_in faults old → e.after ≡ count_in faults new → Excuse old.terms s e (Load path) reply)
      → NeverDamaged told old (Replied reply) → Serves told faults old (Load path) reply new
  load_part reply n is fits caused plain stays bare why telling =
      serves_own told faults old new path named later one (λ b. b) (λ k. k) [] _ _ is.1 (Load path) reply (record {
        fits = fits;
        caused = caused;
        worlds = λ s sits z m. world_excused old.terms.size s.world m (Load path) reply plain ∙ sym (world_same told faults old new path named later one s sits z);
        extents = λ s sits z. extent_same s.world path named later is.0 z;
        layouts = λ s sits lies. stays old.terms s.layout ∙ sym (layout_same told faults old new path named later one s lies);
        right = λ s sits lies e freed placed before after.
            let some : (k : ℕ) × Places s e (take k (parked_spots old.terms s (Load path))) = (n, subst (λ (l : List Spot). Places s e (take n l)) (sym (parked_are s lies)) (places_first n is.1 s lies e placed)) in (
              excused_reply old.terms s e (Load path) reply (unrefused s sits) plain (why s sits lies e before after),
              bare s e (freed ∙ slices_none s.purse),
              subst (λ b. MatchBool b ((k : ℕ) × Places s e (take k (parked_spots old.terms s (Load path)))) (MatchBool (is_some (refusal old.terms.size s.world (Load path))) (e.placed ≡ []) (Places s e (spots old.terms s (Load path))))) (sym plain) some,
            );
        telling = telling;
        void = λ m void s sits lies none needs. plain;
      })

  pub load_serves : (reply : Reply) → IsLoadedContent told faults (keeping old named) path reply (keeping new later) → Serves told faults old (Load path) reply new
  load_serves Done is = load_done (length (parked_of purse (blocks_of named.content))) refl is.0 is.1
  load_serves StoreFault is =
      load_part StoreFault is.1.0 is.1.1 (omega arith) is.0.rose refl (λ t layout. refl) (λ s e bare. bare)
      (λ s sits lies e before after. (refl, rose_counts (faults old.home.shelf) (faults new.home.shelf) e.before e.after before after is.0)) (λ tells s lies. tt)
  load_serves (Damaged kept seen) is =
      load_part (Damaged kept seen) is.1.0 is.1.1 (damaged_fits kept seen) tt refl (λ t layout. refl) (λ s e bare. bare)
      (λ s sits lies e before after. (refl, is.0.instead, parked_stamp old one.was path named one.found s (told old.home.shelf) lies kept is.0.parked))
      (λ tells s lies. absurd (is.0.untold tells lies.blocks lies.held))
  load_serves NoMemory is =
      rest_excused told faults old new path named later one is (Load path) NoMemory (omega arith) tt (λ t layout. refl) (λ s e bare. bare) unrefused refl (λ s sits lies e before after. refl) (λ tells s lies. tt)
  load_serves (Exhausted asked in_use in_all) is =
      rest_excused told faults old new path named later one is.2 (Load path) (Exhausted asked in_use in_all) (omega arith) tt (λ t layout. refl) (λ s e bare. bare) unrefused refl
      (λ s sits lies e before after.
      let counts = lacking_counts s old (told old.home.shelf) sits lies named asked in_use in_all is.1 in (
        is.0 ∙ sym (away_count purse named.content) ∙ sym (length-map {B = Spot} away (λ i. (path, i))) ∙ ap length (sym (spots_are s lies)),
        counts.0,
        counts.1,
        counts.2,
      ))
      (λ tells s lies. tt)
  load_serves (Bytes out) is = absurd is
  load_serves (Item bytes) is = absurd is
  load_serves Nothing is = absurd is
  load_serves (Number m) is = absurd is
  load_serves (TooLong limit) is = absurd is
  load_serves Absent is = absurd is
  load_serves WrongKind is = absurd is
  load_serves Exists is = absurd is
  load_serves (Full limit) is = absurd is
  load_serves (AbsentUser users) is = absurd is

  pub load_stands : (reply : Reply) → IsLoadedContent told faults (keeping old named) path reply (keeping new later) → OwnStands old new
  load_stands Done is = own_stands told faults old new path named later one _ _ _ _ _ is.0.1
  load_stands StoreFault is = own_stands told faults old new path named later one _ _ _ _ _ is.1.1.1
  load_stands (Damaged kept seen) is = own_stands told faults old new path named later one _ _ _ _ _ is.1.1.1
  load_stands NoMemory is = rest_stands told faults old new path named later one is
  load_stands (Exhausted asked in_use in_all) is = rest_stands told faults old new path named later one is.2
  load_stands (Bytes out) is = absurd is
  load_stands (Item bytes) is = absurd is
  load_stands Nothing is = absurd is
  load_stands (Number m) is = absurd is
  load_stands (TooLong limit) is = absurd is
  load_stands Absent is = absurd is
  load_stands WrongKind is = absurd is
  load_stands Exists is = absurd is
  load_stands (Full limit) is = absurd is
  load_stands (AbsentUser users) is = absurd is
