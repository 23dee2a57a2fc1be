-- What requests come to that move no block.
use Rattle.std.proofs.Common.{◌≡◌, ℕ, ◌+◌, ◌-◌, ◌^◌, ◌<◌, ◌≤◌, min, true, false, List, length, refl, ap, sym, subst, ◌∙◌, arith, Some, None}
use Rattle.std.specs.Prelude.{All}
use Rattle.std.specs.Map.{lookup}
use Rattle.std.specs.BTreeMap.{is_at, insert_entry}
use Rattle.std.specs.FinMap.{put}
use Rattle.far_io.specs.Faults.{Faults}
use Rattle.shelf_link.specs.Told.{Told}
use Rattle.shelf_link.specs.Blocks as map
use Rattle.far_words.specs.Paths.{bytes_cmp, parent_of}
use Rattle.far_words.specs.declared.kind.Kind.{Kind}
use Rattle.far_asks.specs.declared.request.Request.TheVariants.{Make, Append, Read, Length, Count, Park, Load}
use Rattle.far_asks.specs.declared.request.Reply.TheVariants.{Done, Number, TooLong, Absent, WrongKind, Exists, NoMemory}
use Rattle.far_asks.specs.declared.request.TheConstants.{MOST_IN_REQUEST}
use Rattle.slice_seq.specs.Purses.{Purse}
use Rattle.far_history.specs.Worlds.{Body, DirBody, FileBody, QueueBody, TableBody, Node, with_node, lease_from}
use Rattle.std.proofs.lemmas.Bool.{le-ltb}
use Rattle.far_history.specs.Answers as Answers
use Rattle.far_history.specs.Answers.{answer, is_served, empty_body, is_dir}
use Rattle.tenant_world.specs.Reading.{length_reply}
use Rattle.tenant_world.specs.Popping.{count_reply}
use Rattle.far_history.specs.Layouts.{Layout, kept_empty}
use Rattle.far_history.specs.Histories.{State}
use Rattle.far_history.specs.Seats.{seats_of}
use Rattle.far_history.specs.Plain.{seen_by}
use Rattle.far_history.proofs.Asked as Asked
use Rattle.block_queue.specs.Queues.{count_of}
use Rattle.block_home.specs.Holding.{Holds}
use Rattle.block_home.specs.Homes.{HomeView}
use Rattle.tenant_world.specs.declared.names.Content.{Content}
use Rattle.tenant_world.specs.declared.names.Content.TheVariants.{File, Queue}
use Rattle.tenant_world.specs.declared.names.Named.{Named}
use Rattle.tenant_world.specs.Contents.{IsFileContent, IsQueueContent, file_of, queue_of}
use Rattle.tenant_world.specs.Outlines.{Outline, outline_of, named_outline, extent_of, content_extent}
use Rattle.tenant_world.specs.Views.{TenantView}
use Rattle.tenant_world.specs.Standing.{Sits, Lies, Lain, lain_node, IsKeptAs}
use Rattle.tenant_world.specs.Serves.{IsStill, Keeps, Serves}
use Rattle.tenant_world.proofs.Found.{node_found, file_found, queue_found, not_file, not_queue, node_absent}
use Rattle.tenant_world.proofs.Seen.{seen-put, put-insert, put_All}
use Rattle.tenant_world.proofs.Served.{IsUnmoved, serves_left, serves_refused, serves_excused, serves_same, world_done, done_reply, done_placed}

-- no content is a directory
no_dir : (body : Body) (content : Content) → extent_of body ≡ content_extent content → is_dir body ≡ false
no_dir DirBody (File file) e = cc
no_dir DirBody (Queue queue) e = cc
no_dir (FileBody bytes) content e = refl
no_dir (QueueBody items) content e = refl
no_dir (TableBody values) content e = refl

module _ {K : Type 0} (told : K → Told) (faults : K → Faults) (old new : TenantView K) (still : IsStill new.moves) (keeps : Keeps told faults old new) (path : List ℕ) where
  -- where nothing is changed
  module _ (same : IsUnmoved told old new) where
    pub make_under : (named : Named) (child : List ℕ) (kind : Kind) (span : ℕ) → lookup (is_at (bytes_cmp path)) old.names ≡ Some named → parent_of child ≡ Some path → Serves told faults old (Make child kind span) WrongKind new
    make_under named child kind span found under =
        serves_refused told faults old new still keeps (Make child kind span) WrongKind (omega arith) tt same
        (λ s sits. let at = node_found s old sits path named found in Asked.refusal-make-under old.terms.size s.world child path kind span at.node under at.is (no_dir at.node.body named.content (ap (λ (o : Outline). o.extent) at.seen)))
        refl (λ t layout. refl) (λ s e none. none) tt

    pub make_nowhere : (child : List ℕ) (kind : Kind) (span : ℕ) → lookup (is_at (bytes_cmp path)) old.names ≡ None → parent_of child ≡ Some path → Serves told faults old (Make child kind span) Absent new
    make_nowhere child kind span none under =
        serves_refused told faults old new still keeps (Make child kind span) Absent (omega arith) tt same
        (λ s sits. Asked.refusal-make-absent old.terms.size s.world child path kind span under (node_absent s old sits path none))
        refl (λ t layout. refl) (λ s e bare. bare) tt

    pub make_again : (named : Named) (kind : Kind) (span : ℕ) → lookup (is_at (bytes_cmp path)) old.names ≡ Some named → parent_of path ≡ None → Serves told faults old (Make path kind span) Exists new
    make_again named kind span found top =
        serves_refused told faults old new still keeps (Make path kind span) Exists (omega arith) tt same
        (λ s sits. let at = node_found s old sits path named found in Asked.refusal-make-exists old.terms.size s.world path kind span _ top at.is)
        refl (λ t layout. refl) (λ s e bare. bare) tt

    pub make_unserved : (kind : Kind) (span : ℕ) → lookup (is_at (bytes_cmp path)) old.names ≡ None → parent_of path ≡ None → is_served kind ≡ false → Serves told faults old (Make path kind span) WrongKind new
    make_unserved kind span none top unserved =
        serves_refused told faults old new still keeps (Make path kind span) WrongKind (omega arith) tt same
        (λ s sits. Asked.refusal-make-unserved old.terms.size s.world path kind span top (node_absent s old sits path none) unserved)
        refl (λ t layout. refl) (λ s e none. none) tt

    pub make_starved : (kind : Kind) (span : ℕ) → lookup (is_at (bytes_cmp path)) old.names ≡ None → parent_of path ≡ None → is_served kind ≡ true → Serves told faults old (Make path kind span) NoMemory new
    make_starved kind span none top served =
        serves_excused told faults old new still keeps (Make path kind span) NoMemory (omega arith) tt same
        (λ s sits. Asked.refusal-make old.terms.size s.world path kind span top (node_absent s old sits path none) served)
        refl (λ t layout. refl) (λ s e bare. bare) (λ s sits lies e before after. refl) (λ tells s lies. tt)

    pub length_done : (named : Named) → lookup (is_at (bytes_cmp path)) old.names ≡ Some named → IsFileContent named.content → Serves told faults old (Length path) (Number ((file_of named.content).length)) new
    length_done named found is_file =
        let answers : (s : State) → Sits s old → answer old.terms.size s.world (Length path) ≡ (s.world, Number ((file_of named.content).length))
        = λ s sits. let at = file_found s old sits path named found is_file in Asked.answer-length old.terms.size s.world path named.lease at.bytes at.is ∙ ap (λ n. (s.world, Number n)) (sym at.long) in
        serves_same told faults old new still keeps (Length path) (Number ((file_of named.content).length)) (omega arith) tt same
        (λ s sits. let at = file_found s old sits path named found is_file in Asked.refusal-found old.terms.size s.world (Length path) path _ refl refl at.is.node refl)
        refl (λ t layout. refl) (λ s moment sits. world_done old.terms.size s.world s.world moment (Length path) _ (Number ((file_of named.content).length)) (answers s sits) refl)
        (λ s sits lies. answers s sits) (λ s e bare. bare) (λ s. refl) tt (λ moment is s sits lies unrefused needs. absurd needs)

    -- where it isn't a file, or isn't a queue
    pub length_other : (named : Named) → lookup (is_at (bytes_cmp path)) old.names ≡ Some named → IsQueueContent named.content → Serves told faults old (Length path) WrongKind new
    length_other named found is_queue =
        serves_refused told faults old new still keeps (Length path) WrongKind (omega arith) tt same
        (λ s sits. let at = node_found s old sits path named found in Asked.refusal-wrong_kind old.terms.size s.world (Length path) path at.node refl refl at.is (not_file s.world path named is_queue at))
        refl (λ t layout. refl) (λ s e bare. bare) tt

    pub read_other : (named : Named) (from len : ℕ) → len ≤ MOST_IN_REQUEST → lookup (is_at (bytes_cmp path)) old.names ≡ Some named → IsQueueContent named.content → Serves told faults old (Read path from len) WrongKind new
    read_other named from len few found is_queue =
        serves_refused told faults old new still keeps (Read path from len) WrongKind (omega arith) tt same
        (λ s sits. let at = node_found s old sits path named found in Asked.refusal-wrong_kind old.terms.size s.world (Read path from len) path at.node (ap (λ b. Answers.when b (TooLong MOST_IN_REQUEST)) (le-ltb MOST_IN_REQUEST len few)) refl at.is (not_file s.world path named is_queue at))
        refl (λ t layout. refl) (λ s e bare. bare) tt

    pub count_other : (named : Named) → lookup (is_at (bytes_cmp path)) old.names ≡ Some named → IsFileContent named.content → Serves told faults old (Count path) WrongKind new
    count_other named found is_file =
        serves_refused told faults old new still keeps (Count path) WrongKind (omega arith) tt same
        (λ s sits. let at = node_found s old sits path named found in Asked.refusal-wrong_kind old.terms.size s.world (Count path) path at.node refl refl at.is (not_queue s.world path named is_file at))
        refl (λ t layout. refl) (λ s e bare. bare) tt

    pub count_done : (named : Named) → lookup (is_at (bytes_cmp path)) old.names ≡ Some named → IsQueueContent named.content → Serves told faults old (Count path) (Number (count_of (queue_of named.content))) new
    count_done named found is_queue =
        let answers : (s : State) → Sits s old → answer old.terms.size s.world (Count path) ≡ (s.world, Number (count_of (queue_of named.content)))
        = λ s sits. let at = queue_found s old sits path named found is_queue in Asked.answer-count old.terms.size s.world path named.lease at.items at.is ∙ ap (λ n. (s.world, Number n)) (sym at.many) in
        serves_same told faults old new still keeps (Count path) (Number (count_of (queue_of named.content))) (omega arith) tt same
        (λ s sits. let at = queue_found s old sits path named found is_queue in Asked.refusal-found old.terms.size s.world (Count path) path _ refl refl at.is.node refl)
        refl (λ t layout. refl) (λ s moment sits. world_done old.terms.size s.world s.world moment (Count path) _ (Number (count_of (queue_of named.content))) (answers s sits) refl)
        (λ s sits lies. answers s sits) (λ s e bare. bare) (λ s. refl) tt (λ moment is s sits lies unrefused needs. absurd needs)

    pub count_in_content : (named : Named) → lookup (is_at (bytes_cmp path)) old.names ≡ Some named → Serves told faults old (Count path) (count_reply named.content) new
    count_in_content named found = by named.content refl
      where
        by : (c : Content) → named.content ≡ c → Serves told faults old (Count path) (count_reply c) new
        by (File file) is = count_other named found (is ∙ ap (λ (c : Content). File (file_of c)) (sym is))
        by (Queue queue) is = subst (λ (c : Content). Serves told faults old (Count path) (Number (count_of (queue_of c))) new) is (count_done named found (is ∙ ap (λ (c : Content). Queue (queue_of c)) (sym is)))

    pub length_in_content : (named : Named) → lookup (is_at (bytes_cmp path)) old.names ≡ Some named → Serves told faults old (Length path) (length_reply named.content) new
    length_in_content named found = by named.content refl
      where
        by : (c : Content) → named.content ≡ c → Serves told faults old (Length path) (length_reply c) new
        by (Queue queue) is = length_other named found (is ∙ ap (λ (c : Content). Queue (queue_of c)) (sym is))
        by (File file) is = subst (λ (c : Content). Serves told faults old (Length path) (Number (file_of c).length) new) is (length_done named found (is ∙ ap (λ (c : Content). File (file_of c)) (sym is)))

    -- where a name isn't there
    pub count_nowhere : lookup (is_at (bytes_cmp path)) old.names ≡ None → Serves told faults old (Count path) Absent new
    count_nowhere none =
        serves_refused told faults old new still keeps (Count path) Absent (omega arith) tt same
        (λ s sits. Asked.refusal-absent old.terms.size s.world (Count path) path refl refl (node_absent s old sits path none))
        refl (λ t layout. refl) (λ s e bare. bare) tt

    pub length_nowhere : lookup (is_at (bytes_cmp path)) old.names ≡ None → Serves told faults old (Length path) Absent new
    length_nowhere none =
        serves_refused told faults old new still keeps (Length path) Absent (omega arith) tt same
        (λ s sits. Asked.refusal-length-absent old.terms.size s.world path (node_absent s old sits path none))
        refl (λ t layout. refl) (λ s e bare. bare) tt

    pub append_nowhere : (more : List ℕ) → length more ≤ MOST_IN_REQUEST → lookup (is_at (bytes_cmp path)) old.names ≡ None → Serves told faults old (Append path more) Absent new
    append_nowhere more few none =
        serves_refused told faults old new still keeps (Append path more) Absent (omega arith) tt same
        (λ s sits. Asked.refusal-append-absent old.terms.size s.world path more few (node_absent s old sits path none))
        refl (λ t layout. refl) (λ s e bare. bare) tt

    pub read_nowhere : (from len : ℕ) → len ≤ MOST_IN_REQUEST → lookup (is_at (bytes_cmp path)) old.names ≡ None → Serves told faults old (Read path from len) Absent new
    read_nowhere from len few none =
        serves_refused told faults old new still keeps (Read path from len) Absent (omega arith) tt same
        (λ s sits. Asked.refusal-read-absent old.terms.size s.world path from len few (node_absent s old sits path none))
        refl (λ t layout. refl) (λ s e bare. bare) tt

    pub park_nowhere : lookup (is_at (bytes_cmp path)) old.names ≡ None → Serves told faults old (Park path) Absent new
    park_nowhere none =
        serves_refused told faults old new still keeps (Park path) Absent (omega arith) tt same
        (λ s sits. Asked.refusal-absent old.terms.size s.world (Park path) path refl refl (node_absent s old sits path none))
        refl (λ t layout. refl) (λ s e bare. bare) tt

    pub load_nowhere : lookup (is_at (bytes_cmp path)) old.names ≡ None → Serves told faults old (Load path) Absent new
    load_nowhere none =
        serves_refused told faults old new still keeps (Load path) Absent (omega arith) tt same
        (λ s sits. Asked.refusal-absent old.terms.size s.world (Load path) path refl refl (node_absent s old sits path none))
        refl (λ t layout. refl) (λ s e bare. bare) tt

    -- and where a request is too long
    pub append_long : (more : List ℕ) → MOST_IN_REQUEST < length more → Serves told faults old (Append path more) (TooLong MOST_IN_REQUEST) new
    append_long more long =
        serves_refused told faults old new still keeps (Append path more) (TooLong MOST_IN_REQUEST) (omega arith) tt same
        (λ s sits. Asked.refusal-append-long old.terms.size s.world path more long)
        refl (λ t layout. refl) (λ s e bare. bare) tt

    pub read_long : (from len : ℕ) → MOST_IN_REQUEST < len → Serves told faults old (Read path from len) (TooLong MOST_IN_REQUEST) new
    read_long from len long =
        serves_refused told faults old new still keeps (Read path from len) (TooLong MOST_IN_REQUEST) (omega arith) tt same
        (λ s sits. Asked.refusal-read-long old.terms.size s.world path from len long)
        refl (λ t layout. refl) (λ s e bare. bare) tt

-- a name was made, and nothing else of the fields changed
pub record IsMade {K : Type 0} (told : K → Told) (old : TenantView K) (path : List ℕ) (named : Named) (new : TenantView K) : Type 0 where
  pub moment : new.moment ≡ old.moment
  pub names : new.names ≡ insert_entry bytes_cmp old.names path named
  pub home : new.home ≡ old.home

module _ {K : Type 0} (told : K → Told) (faults : K → Faults) (old new : TenantView K) (still : IsStill new.moves) (keeps : Keeps told faults old new) (path : List ℕ) (kind : Kind) (span : ℕ) (named : Named) (made : IsMade told old path named new) (top : parent_of path ≡ None) (served : is_served kind ≡ true)
    (none : lookup (is_at (bytes_cmp path)) old.names ≡ None) (lease : named.lease ≡ min (old.moment + span) (2 ^ 64 - 1))
    (shows : extent_of (empty_body kind) ≡ content_extent named.content) (keeps_it : (size : ℕ) (m : map.Blocks) → IsKeptAs size m named.content (kept_empty kind) (empty_body kind)) where
  abbrev node : State → Node
  node s = record { lease = lease_from s.world span; body = empty_body kind }

  abbrev made_lain : Lain
  made_lain = record { named = named; kept = kept_empty kind; body = empty_body kind }

  lease_is : (s : State) → Sits s old → lease_from s.world span ≡ named.lease
  lease_is s sits = ap (λ (m : ℕ). min (m + span) (2 ^ 64 - 1)) sits.moment ∙ sym lease

  -- a new name shows as the state's own
  sits_made : (s : State) → Sits s old → (layout : Layout) (purse : Purse) → seats_of purse ≡ seats_of new.home.seats.purse → Sits (record { world = with_node s.world path (node s); purse = purse; layout = layout }) new
  sits_made s sits layout purse seats =
      let outline : outline_of (node s) ≡ named_outline named = λ i. record { lease = lease_is s sits i; extent = shows i } in
      record {
        in_order = ap (λ (h : HomeView K). h.seats.strays) made.home ∙ sits.in_order;
        moment = sits.moment ∙ sym made.moment;
        names =
            seen-put outline_of path (node s) s.world.names
            ∙ (λ i. put bytes_cmp path (outline i) (sits.names i))
            ∙ sym (seen-put named_outline path named old.names)
            ∙ ap (seen_by named_outline) (put-insert path named old.names ∙ sym made.names);
        seats = seats;
      }

  lies_made : (s : State) → Sits s old → Lies (told old.home.shelf) s old → Lies (told new.home.shelf) (record { world = with_node s.world path (node s); purse = s.purse; layout = put bytes_cmp path (kept_empty kind) s.layout }) new
  lies_made s sits lies = record {
    blocks = lies.blocks;
    held = subst (λ (h : HomeView K). Holds lies.blocks (told h.shelf) h.user h.seats.blocks) (sym made.home) lies.held;
    lain = put bytes_cmp path made_lain lies.lain;
    each = subst (λ (h : HomeView K). All (λ (e : List ℕ × Lain). IsKeptAs h.seats.size lies.blocks e.1.named.content e.1.kept e.1.body) (put bytes_cmp path made_lain lies.lain)) (sym made.home)
        (put_All (λ (l : Lain). IsKeptAs old.home.seats.size lies.blocks l.named.content l.kept l.body) path made_lain lies.lain lies.each (keeps_it old.home.seats.size lies.blocks));
    fields = made.names ∙ sym (put-insert path named old.names) ∙ ap (put bytes_cmp path named) lies.fields ∙ sym (seen-put (λ (l : Lain). l.named) path made_lain lies.lain);
    names = (λ i. put bytes_cmp path (record { lease = lease_is s sits i; body = empty_body kind }) (lies.names i)) ∙ sym (seen-put lain_node path made_lain lies.lain);
    layout = ap (put bytes_cmp path (kept_empty kind)) lies.layout ∙ sym (seen-put (λ (l : Lain). l.kept) path made_lain lies.lain);
    purse = lies.purse ∙ ap (λ (h : HomeView K). h.seats.purse) (sym made.home);
  }

  pub make_done : Serves told faults old (Make path kind span) Done new
  make_done =
      serves_left told faults old new still (ap (λ (h : HomeView K). h.seats.purse) made.home) keeps (Make path kind span) Done (omega arith) tt
      (λ s sits.
      let absent = node_absent s old sits path none in
      let answers = Asked.answer-make old.terms.size s.world path kind span top absent served in
      record {
        world = with_node s.world path (node s);
        world_is = λ moment. world_done old.terms.size s.world _ moment (Make path kind span) Done Done answers refl;
        layout = put bytes_cmp path (kept_empty kind) s.layout;
        layout_is = refl;
        sits = sits_made s sits;
        lies = lies_made s sits;
        right = λ lies e bare nowhere before after. (done_reply old.terms s e (Make path kind span) Done _ answers refl, bare, done_placed old.terms s e (Make path kind span) Done (Asked.refusal-make old.terms.size s.world path kind span top absent served) refl nowhere refl);
      })
      (λ tells s lies. tt)
      (λ moment is s sits lies unrefused needs. absurd needs)
