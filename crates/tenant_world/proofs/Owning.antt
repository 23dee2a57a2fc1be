-- A request of one name that changes that name's content alone, and moves its blocks alone: one lemma for every kind.
use Rattle.std.proofs.Common.{◌≡◌, ◌≢◌, ◌≤◌, ℕ, true, is_some, List, ◌∷◌, ◌++◌, map, refl, ap, sym, subst, ◌∙◌, Some}
use Rattle.std.specs.Prelude.{All, AllPairs}
use Rattle.std.specs.List.Sorted.{IsStrictlySortedBy}
use Rattle.std.specs.Map.{lookup, keys_of, set_value}
use Rattle.std.specs.BTreeMap.{is_at}
use Rattle.std.specs.Ordering.{nat_cmp}
use Rattle.std.specs.FinMap.{find, put, nat_cmp-IsAntisymmetric, slice_cmp-IsAntisymmetric}
use Rattle.std.proofs.lemmas.Cmp.{nat_list_cmp_total}
use Rattle.far_io.specs.Faults.{Faults}
use Rattle.shelf_link.specs.Told.{Told}
use Rattle.far_words.specs.Paths.{bytes_cmp}
use Rattle.far_words.specs.Moves.{MovesView, AreInOrder}
use Rattle.far_words.specs.declared.moves.PlacedRow.{PlacedRow}
use Rattle.far_asks.specs.declared.request.Request.{Request}
use Rattle.far_asks.specs.declared.request.Reply.{Reply}
use Rattle.far_asks.specs.declared.request.Outcome.TheVariants.{Reply as Replied}
use Rattle.slice_seq.specs.Purses.{Purse, open_slices}
use Rattle.far_history.specs.Worlds.{Body, Node, with_node}
use Rattle.far_history.specs.Entries.{Ask, Entry}
use Rattle.far_history.specs.Layouts.{Layout, KeptAs, kept_at, kept_block}
use Rattle.far_history.specs.Histories.{State, after_freed, after_placed, layout_asked, world_after}
use Rattle.far_history.specs.Needs.{placing}
use Rattle.far_history.specs.Legal.{IsReply, IsFreed, IsPlaced, MovesSlices, slices_of}
use Rattle.far_history.specs.Plain.{seen_by}
use Rattle.far_history.specs.Seats.{Seats, seats_of, seats_freed, seats_placed}
use Rattle.far_history.proofs.Seats.{moves_slices}
use Rattle.far_history.specs.Standing.{frame_bytes, most_in_frame, IsCaused}
use Rattle.block_seats.specs.Seatings.{SeatingView}
use Rattle.block_home.specs.Holding.{Holds}
use Rattle.tenant_world.specs.declared.names.Named.{Named}
use Rattle.tenant_world.specs.Contents.{IsSoundContent, blocks_of}
use Rattle.tenant_world.specs.Outlines.{Outline, extent_of, content_extent, outline_of, named_outline}
use Rattle.tenant_world.specs.Keeping.{IsReady, KeepsStore}
use Rattle.tenant_world.specs.Moving.{is_among, MovesOwn, IsAltered}
use Rattle.tenant_world.specs.Views.{TenantView, count_in}
use Rattle.tenant_world.specs.Standing.{Sits, Lies, Lain, lain_node, IsKeptAs}
use Rattle.tenant_world.specs.Telling.{NeverDamaged, ExcusesVoid}
use Rattle.tenant_world.specs.Serves.{Serves}
use Rattle.tenant_world.specs.Well.{AreKept, AreItsBlocks, numbers_in}
use Rattle.tenant_world.proofs.Around.{Around, around_found, set_at, put_at}
use Rattle.tenant_world.proofs.Changed.{numbers_of, numbers-seen, changed_distinct, changed_numbers, changed_All}
use Rattle.tenant_world.proofs.Content.{content_distinct, content_there, sound_alike, keeps_alike}
use Rattle.tenant_world.proofs.Found.{NodeIn, node_found, LainIn, lain_found}
use Rattle.tenant_world.proofs.Granting.{home_terms}
use Rattle.tenant_world.proofs.Seen.{seen-put, kept_at-put, keys-seen}
use Rattle.tenant_world.proofs.Moved.{moved_keys, moved_most, moved_seats, moved_purse}
use Rattle.tenant_world.proofs.Taken.{seats_moved}
use Rattle.tenant_world.proofs.Placing.{placed_order}
use Rattle.tenant_world.proofs.Leaving.{slices_of-ascend}
use Rattle.tenant_world.proofs.Shifting.{serves_shifted}
use Rattle.tenant_world.proofs.Staying.{SeatsStay, keeping, keeps_stay}

-- a tenant in which a name that was found stands for another content, and what else a request finds and leaves
pub record OneName {K : Type 0} (told : K → Told) (faults : K → Faults) (old : TenantView K) (path : List ℕ) (named later : Named) (new : TenantView K) : Type 0 where
  pub was : old.terms ≡ home_terms old.home
  pub is : new.terms ≡ home_terms new.home
  pub moment : new.moment ≡ old.moment
  pub found : lookup (is_at (bytes_cmp path)) old.names ≡ Some named
  pub sorted : IsStrictlySortedBy bytes_cmp (keys_of old.names)
  pub lease : later.lease ≡ named.lease
  pub names : new.names ≡ set_value (is_at (bytes_cmp path)) old.names later
  pub kept : AreKept old.names old.home.seats
  pub ready : IsReady old.home old.moves
  pub store : KeepsStore told faults old.home new.home

-- what stands of the fields after it
pub record OwnStands {K : Type 0} (old new : TenantView K) : Type 0 where
  pub seats : SeatsStay old.home.seats new.home.seats
  pub order : AreInOrder new.moves
  pub room : new.moves.room ≡ old.moves.room
  pub kept : AreKept new.names new.home.seats

module _ {K : Type 0} (told : K → Told) (faults : K → Faults) (old new : TenantView K) (path : List ℕ) (named later : Named) (one : OneName told faults old path named later new)
    (body : Body → Body) (kept : KeptAs → KeptAs) (went came indexes : List ℕ) (own : MovesOwn told body kept (keeping old named) path went came indexes (keeping new later)) where
  abbrev before : SeatingView
  before = old.home.seats

  abbrev after : SeatingView
  after = new.home.seats

  abbrev blocks_in : Named → List ℕ
  blocks_in z = blocks_of z.content

  a : Around old.names path named
  a = around_found bytes_cmp (slice_cmp-IsAntisymmetric nat_cmp-IsAntisymmetric) path named old.names one.found

  names_are : new.names ≡ a.front ++ (path, later) ∷ a.back
  names_are = one.names ∙ set_at bytes_cmp nat_list_cmp_total old.names path named later one.sorted a

  seats_stay : SeatsStay old.home.seats new.home.seats
  seats_stay =
      let between = own.slices.between in
      record {
        size = ap (λ (v : SeatingView). v.size) own.slices.comes.alike ∙ ap (λ (v : SeatingView). v.size) own.slices.goes.alike;
        slices = ap (λ (v : SeatingView). v.slices) own.slices.comes.alike ∙ ap (λ (v : SeatingView). v.slices) own.slices.goes.alike;
        strays = ap (λ (v : SeatingView). v.strays) own.slices.comes.alike ∙ ap (λ (v : SeatingView). v.strays) own.slices.goes.alike;
        ids = moved_keys before after.numbers went came after one.ready.ordered one.ready.noted own.slices;
        most = moved_most before after.numbers went came after one.ready.ordered one.ready.noted own.slices;
      }

  here : AllPairs ◌≢◌ (blocks_of later.content)
  here = content_distinct after later.content own.sound

  there : (q : ℕ) → is_among (blocks_of later.content) q ≡ true → is_some (find nat_cmp q new.home.seats.blocks) ≡ true
  there = content_there after later.content own.sound

  -- one of the names is put
  names_put : new.names ≡ put bytes_cmp path later old.names
  names_put = names_are ∙ sym (put_at bytes_cmp nat_list_cmp_total old.names path named later one.sorted a)

  names_kept : AreKept new.names new.home.seats
  names_kept = record {
    some_byte = subst (λ n. 4 ≤ n) (sym seats_stay.size) one.kept.some_byte;
    few_bytes = subst (λ n. n ≤ 65536) (sym seats_stay.size) one.kept.few_bytes;
    sound = subst (All (λ (e : List ℕ × Named). IsSoundContent after e.1.content)) (sym names_are)
        (changed_All blocks_in old.names path named later a before.blocks after.blocks own.own one.kept.numbers one.kept.distinct here there
        (λ e. IsSoundContent before e.1.content) (λ e. IsSoundContent after e.1.content) one.kept.sound
        (λ e apart sound. sound_alike e.1.content before after seats_stay.size (λ q some. let neither = apart q some in own.own.others q neither.0 neither.1) sound) own.sound);
    distinct = subst (λ (es : List (List ℕ × Named)). AllPairs ◌≢◌ (numbers_in es)) (sym names_are) (changed_distinct blocks_in old.names path named later a before.blocks after.blocks own.own one.kept.numbers one.kept.distinct here there);
    numbers = subst (λ (es : List (List ℕ × Named)). AreItsBlocks after (numbers_in es)) (sym names_are) (changed_numbers blocks_in old.names path named later a before.blocks after.blocks own.own one.kept.numbers one.kept.distinct here there);
  }

  abbrev rows : List PlacedRow
  rows = placing (open_slices old.home.seats.purse) (map (λ i. (path, i)) indexes)

  freed_are : new.moves.freed ≡ slices_of old.home.seats.purse went
  freed_are = ap (λ (m : MovesView). m.freed) own.moves

  placed_are : new.moves.placed ≡ placing (open_slices old.home.seats.purse) (map (λ i. (path, i)) indexes)
  placed_are = ap (λ (m : MovesView). m.placed) own.moves

  pub own_stands : OwnStands old new
  own_stands = record {
    seats = seats_stay;
    order = record {
      freed = subst (λ (l : List (ℕ × ℕ)). IsStrictlySortedBy nat_cmp (keys_of l)) (sym freed_are) (slices_of-ascend before.purse went one.ready.ordered);
      placed = subst (λ (l : List PlacedRow). IsStrictlySortedBy nat_cmp (map (λ row. row.slice) l)) (sym placed_are) (placed_order before.purse (map (λ i. (path, i)) indexes) one.ready.ordered);
    };
    room = ap (λ (m : MovesView). m.room) own.moves;
    kept = names_kept;
  }

  -- in a state that the fields show
  module _ (s : State) (sits : Sits s old) where
    abbrev node_is : NodeIn s.world path named
    node_is = node_found s old sits path named one.found

    -- what the name stands for then
    abbrev node_later : Node
    node_later = record { lease = (node_found s old sits path named one.found).node.lease; body = body (node_found s old sits path named one.found).node.body }

    seats_later : (layout : Layout) → seats_of (after_placed layout (after_freed s.purse new.moves.freed) new.moves.placed) ≡ seats_of new.home.seats.purse
    seats_later layout =
        seats_moved layout s.purse new.moves.freed new.moves.placed
        ∙ ap (λ (x : Seats). seats_placed (seats_freed x new.moves.freed) new.moves.placed) sits.seats
        ∙ sym (seats_moved layout before.purse new.moves.freed new.moves.placed)
        ∙ (λ i. seats_of (after_placed layout (after_freed before.purse (freed_are i)) (placed_are i)))
        ∙ moved_seats before after.numbers went came after one.ready.ordered one.ready.noted own.slices path indexes own.many layout

    slices_moved : (e : Entry) → e.freed ≡ new.moves.freed → e.placed ≡ new.moves.placed → MovesSlices s.purse e
    slices_moved e freed placed =
        moves_slices s.purse before.purse (sym sits.seats) one.ready.ordered e went (map (λ i. (path, i)) indexes) (freed ∙ freed_are) (placed ∙ placed_are)

    sits_later : extent_of (body (node_found s old sits path named one.found).node.body) ≡ content_extent later.content → (layout : Layout) (purse : Purse) → seats_of purse ≡ seats_of new.home.seats.purse
        → Sits (record { world = with_node s.world path node_later; purse = purse; layout = layout }) new
    sits_later extent layout purse seats = record {
      in_order = seats_stay.strays ∙ sits.in_order;
      moment = sits.moment ∙ sym one.moment;
      names =
          let lease : node_is.node.lease ≡ later.lease = ap (λ (o : Outline). o.lease) node_is.seen ∙ sym one.lease in
          let outline : outline_of node_later ≡ named_outline later = λ i. record { lease = lease i; extent = extent i } in
          seen-put outline_of path node_later s.world.names
          ∙ (λ i. put bytes_cmp path (outline i) (sits.names i))
          ∙ sym (seen-put named_outline path later old.names)
          ∙ ap (seen_by named_outline) (sym names_put);
      seats = seats;
    }

    module _ (lies : Lies (told old.home.shelf) s old) where
      abbrev lain_is : LainIn (told old.home.shelf) s old lies path named
      lain_is = lain_found s old path (told old.home.shelf) lies named one.found

      -- how the name is kept then, and what it stands for
      abbrev lain_later : Lain
      lain_later = record {
        named = later;
        kept = kept (lain_found s old path (told old.home.shelf) lies named one.found).kept;
        body = body (lain_found s old path (told old.home.shelf) lies named one.found).body;
      }

      abbrev layout_later : Layout
      layout_later = put bytes_cmp path (kept (kept_at s.layout path)) s.layout

      altered : IsAltered lies.blocks (told new.home.shelf) old.home.user new.home.seats.blocks (blocks_of named.content) (blocks_of later.content)
          (λ x. (map (λ i. kept_block (kept (lain_found s old path (told old.home.shelf) lies named one.found).kept) i) indexes ≡ came)
          × IsKeptAs old.home.seats.size x later.content lain_later.kept lain_later.body)
      altered = own.alters lies.blocks lain_is.kept lain_is.body lies.held lain_is.held

      node_same : node_later ≡ lain_node lain_later
      node_same =
          let was : node_is.node ≡ record { lease = named.lease; body = lain_is.body } = inside node_is.node (record { lease = named.lease; body = lain_is.body }) (sym node_is.is ∙ lain_is.node) in
          (λ i. record { lease = (was i).lease; body = body (was i).body }) ∙ ap (λ l. record { lease = l; body = body lain_is.body }) (sym one.lease)
        where
          inside : (x y : Node) → Some x ≡ Some y → x ≡ y
          inside x y e = cc

      abbrev blocks_lain : Lain → List ℕ
      blocks_lain l = blocks_of l.named.content

      around : Around lies.lain path (record { named = named; kept = lain_is.kept; body = lain_is.body })
      around = around_found bytes_cmp (slice_cmp-IsAntisymmetric nat_cmp-IsAntisymmetric) path (record { named = named; kept = lain_is.kept; body = lain_is.body }) lies.lain lain_is.is

      same_numbers : numbers_in old.names ≡ numbers_of blocks_lain lies.lain
      same_numbers = ap numbers_in lies.fields ∙ numbers-seen blocks_in (λ (l : Lain). l.named) lies.lain

      lain_sorted : IsStrictlySortedBy bytes_cmp (keys_of lies.lain)
      lain_sorted = subst (IsStrictlySortedBy bytes_cmp) (ap keys_of lies.fields ∙ keys-seen (λ (l : Lain). l.named) lies.lain) one.sorted

      each_later : All (λ (e : List ℕ × Lain). IsKeptAs new.home.seats.size altered.after e.1.named.content e.1.kept e.1.body) (put bytes_cmp path lain_later lies.lain)
      each_later =
          subst (λ (l : List (List ℕ × Lain)). All (λ (e : List ℕ × Lain). IsKeptAs new.home.seats.size altered.after e.1.named.content e.1.kept e.1.body) l)
          (sym (put_at bytes_cmp nat_list_cmp_total lies.lain path (record { named = named; kept = lain_is.kept; body = lain_is.body }) lain_later lain_sorted around))
          (subst (λ n. All (λ (e : List ℕ × Lain). IsKeptAs n altered.after e.1.named.content e.1.kept e.1.body) (around.front ++ (path, lain_later) ∷ around.back)) (sym seats_stay.size)
          (changed_All blocks_lain lies.lain path (record { named = named; kept = lain_is.kept; body = lain_is.body }) lain_later around before.blocks after.blocks own.own
          (subst (λ ns. AreItsBlocks before ns) same_numbers one.kept.numbers) (subst (λ ns. AllPairs ◌≢◌ ns) same_numbers one.kept.distinct) here there
          (λ e. IsKeptAs before.size lies.blocks e.1.named.content e.1.kept e.1.body) (λ e. IsKeptAs before.size altered.after e.1.named.content e.1.kept e.1.body) lies.each
          (λ e apart is. keeps_alike before.size lies.blocks altered.after e.1.named.content e.1.kept e.1.body (λ q some. let neither = apart q some in altered.others q neither.0 neither.1) is)
          altered.is.1))

      purse_later : after_placed layout_later (after_freed s.purse new.moves.freed) new.moves.placed ≡ new.home.seats.purse
      purse_later =
          (λ i. after_placed layout_later (after_freed (lies.purse i) (freed_are i)) (placed_are i))
          ∙ moved_purse before after.numbers went came after one.ready.ordered one.ready.noted own.slices path indexes layout_later (kept lain_is.kept)
          (kept_at-put s.layout path (kept (kept_at s.layout path)) ∙ ap kept lain_is.at) altered.is.0

      lies_later : Lies (told new.home.shelf) (record { world = with_node s.world path node_later; purse = new.home.seats.purse; layout = layout_later }) new
      lies_later = record {
        blocks = altered.after;
        held = subst (λ u. Holds altered.after (told new.home.shelf) u new.home.seats.blocks) (sym one.store.user) altered.held;
        lain = put bytes_cmp path lain_later lies.lain;
        each = each_later;
        fields =
            names_put
            ∙ ap (put bytes_cmp path later) lies.fields
            ∙ sym (seen-put (λ (l : Lain). l.named) path lain_later lies.lain);
        names = (λ i. put bytes_cmp path (node_same i) (lies.names i)) ∙ sym (seen-put lain_node path lain_later lies.lain);
        layout = (λ i. put bytes_cmp path (kept (lain_is.at i)) (lies.layout i)) ∙ sym (seen-put (λ (l : Lain). l.kept) path lain_later lies.lain);
        purse = refl;
      }

  module _ (request : Request) (reply : Reply) where
    -- what is left to say of the request itself
    pub record AsksOwn : Type 0 where
      pub fits : frame_bytes reply ≤ most_in_frame
      pub caused : IsCaused (Replied reply) (count_in faults old) (count_in faults new)
      pub worlds : (s : State) → Sits s old → (n : NodeIn s.world path named) → (moment : ℕ)
          → world_after old.terms.size s.world (Ask moment request) (Replied reply) ≡ with_node s.world path (record { lease = n.node.lease; body = body n.node.body })
      pub extents : (s : State) → Sits s old → (n : NodeIn s.world path named) → extent_of (body n.node.body) ≡ content_extent later.content
      pub layouts : (s : State) → Sits s old → Lies (told old.home.shelf) s old → layout_asked old.terms s.layout request reply ≡ put bytes_cmp path (kept (kept_at s.layout path)) s.layout
      pub right : (s : State) → Sits s old → Lies (told old.home.shelf) s old → (e : Entry) → e.freed ≡ slices_of s.purse went → e.placed ≡ placing (open_slices s.purse) (map (λ i. (path, i)) indexes)
          → e.before ≡ count_in faults old → e.after ≡ count_in faults new → IsReply old.terms s e request reply × IsFreed s e request reply × IsPlaced old.terms s e request reply
      pub telling : NeverDamaged told old (Replied reply)
      pub void : (moment : ℕ) → ExcusesVoid told old (Ask moment request) (Replied reply)

    pub serves_own : AsksOwn → Serves told faults old request reply new
    serves_own asks =
        serves_shifted told faults old new (keeps_stay told faults old new one.was one.is seats_stay one.store) request reply asks.fits asks.caused
        (λ s sits. record {
          world = with_node s.world path (node_later s sits);
          world_is = asks.worlds s sits (node_is s sits);
          sits = sits_later s sits (asks.extents s sits (node_is s sits));
          seats = seats_later s sits;
          slices = slices_moved s sits;
          lies = λ lies. record {
            layout = layout_later s sits lies;
            layout_is = asks.layouts s sits lies;
            purse_is = purse_later s sits lies;
            lies = lies_later s sits lies;
          };
          right = λ lies e freed placed before after.
              asks.right s sits lies e
              (freed ∙ freed_are ∙ ap (λ (p : Purse). slices_of p went) (sym lies.purse))
              (placed ∙ placed_are ∙ ap (λ (p : Purse). placing (open_slices p) (map (λ i. (path, i)) indexes)) (sym lies.purse))
              before after;
        })
        asks.telling asks.void
