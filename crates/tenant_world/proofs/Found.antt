-- What a look-up of a name says of each state that a tenant's fields show.
use Rattle.std.proofs.Common.{◌≡◌, ℕ, List, length, false, refl, ap, sym, subst, ◌∙◌, Some, None}
use Rattle.std.specs.declared.option.Option.{Option}
use Rattle.std.specs.Option.{option_map, unwrap_or}
use Rattle.std.specs.Prelude.{IfSome}
use Rattle.std.proofs.lemmas.Map.Entries.{All-lookup}
use Rattle.std.specs.Map.{lookup}
use Rattle.std.specs.BTreeMap.{is_at}
use Rattle.std.specs.FinMap.{find}
use Rattle.far_words.specs.Paths.{bytes_cmp}
use Rattle.far_history.specs.Worlds.{Body, DirBody, FileBody, QueueBody, TableBody, Node, World, node_at}
use Rattle.far_history.specs.Answers.{is_file, is_queue}
use Rattle.far_history.specs.Layouts.{KeptAs, KeptDir, kept_at}
use Rattle.far_history.specs.Histories.{State}
use Rattle.far_history.proofs.Asked as Asked
use Rattle.far_history.proofs.Seen.{find-seen_by}
use Rattle.shelf_link.specs.Told.{Told}
use Rattle.tenant_world.specs.declared.names.Named.{Named}
use Rattle.tenant_world.specs.Contents.{file_of, queue_of, IsFileContent, IsQueueContent}
use Rattle.block_queue.specs.Queues.{count_of}
use Rattle.tenant_world.specs.Outlines.{Outline, FileExtent, QueueExtent, extent_of, content_extent, outline_of, named_outline}
use Rattle.tenant_world.specs.Views.{TenantView}
use Rattle.tenant_world.proofs.Seen.{find-lookup, find-seen}
use Rattle.tenant_world.specs.Standing.{Sits, Lies, Lain, lain_node, IsKeptAs}

-- what a map shows, one shows that is seen so
pub record IsSeen {X Y : Type 0} (f : X → Y) (o : Option X) (y : Y) : Type 0 where
  pub x : X
  pub is : o ≡ Some x
  pub seen : f x ≡ y

seen_from : {X Y : Type 0} (f : X → Y) (o : Option X) (y : Y) → option_map f o ≡ Some y → IsSeen f o y
seen_from f None y e = cc
seen_from f (Some x) y e = let inside : f x ≡ y = cc in record { x = x; is = refl; seen = inside }

unseen_from : {X Y : Type 0} (f : X → Y) (o : Option X) → option_map f o ≡ None → o ≡ None
unseen_from f None e = refl
unseen_from f (Some x) e = cc

-- what a name stands for in a world, as its outline says
pub record NodeIn (w : World) (path : List ℕ) (named : Named) : Type 0 where
  pub node : Node
  pub is : node_at w path ≡ Some node
  pub seen : outline_of node ≡ named_outline named

-- a name is a file with this lease and so many bytes
pub record FileIn (w : World) (path : List ℕ) (named : Named) : Type 0 where
  pub bytes : List ℕ
  pub is : Asked.IsFile w path named.lease bytes
  pub long : (file_of named.content).length ≡ length bytes

file_outlined : (w : World) (path : List ℕ) (named : Named) (lease : ℕ) (body : Body) → node_at w path ≡ Some (record { lease = lease; body = body }) → lease ≡ named.lease
    → extent_of body ≡ FileExtent (file_of named.content).length → FileIn w path named
file_outlined w path named lease DirBody at same e = cc
file_outlined w path named lease (FileBody bytes) at same e =
    let long : length bytes ≡ (file_of named.content).length = cc in
    record { bytes = bytes; is = record { node = at ∙ ap (λ (l : ℕ). Some (record { lease = l; body = FileBody bytes })) same }; long = sym long }
file_outlined w path named lease (QueueBody items) at same e = cc
file_outlined w path named lease (TableBody values) at same e = cc

pub file_in : (w : World) (path : List ℕ) (named : Named) → IsFileContent named.content → NodeIn w path named → FileIn w path named
file_in w path named is at =
    file_outlined w path named at.node.lease at.node.body at.is (ap (λ (o : Outline). o.lease) at.seen) (ap (λ (o : Outline). o.extent) at.seen ∙ ap content_extent is)

-- or a queue of so many items
pub record QueueIn (w : World) (path : List ℕ) (named : Named) : Type 0 where
  pub items : List (List ℕ)
  pub is : Asked.IsQueue w path named.lease items
  pub many : count_of (queue_of named.content) ≡ length items

queue_outlined : (w : World) (path : List ℕ) (named : Named) (lease : ℕ) (body : Body) → node_at w path ≡ Some (record { lease = lease; body = body }) → lease ≡ named.lease
    → extent_of body ≡ QueueExtent (count_of (queue_of named.content)) → QueueIn w path named
queue_outlined w path named lease DirBody at same e = cc
queue_outlined w path named lease (FileBody bytes) at same e = cc
queue_outlined w path named lease (QueueBody items) at same e =
    let many : length items ≡ count_of (queue_of named.content) = cc in
    record { items = items; is = record { node = at ∙ ap (λ (l : ℕ). Some (record { lease = l; body = QueueBody items })) same }; many = sym many }
queue_outlined w path named lease (TableBody values) at same e = cc

pub queue_in : (w : World) (path : List ℕ) (named : Named) → IsQueueContent named.content → NodeIn w path named → QueueIn w path named
queue_in w path named is at =
    queue_outlined w path named at.node.lease at.node.body at.is (ap (λ (o : Outline). o.lease) at.seen) (ap (λ (o : Outline). o.extent) at.seen ∙ ap content_extent is)

-- one that isn't of a kind
no_file : (body : Body) (count : ℕ) → extent_of body ≡ QueueExtent count → is_file body ≡ false
no_file DirBody count e = refl
no_file (FileBody bytes) count e = cc
no_file (QueueBody items) count e = refl
no_file (TableBody values) count e = refl

no_queue : (body : Body) (long : ℕ) → extent_of body ≡ FileExtent long → is_queue body ≡ false
no_queue DirBody long e = refl
no_queue (FileBody bytes) long e = refl
no_queue (QueueBody items) long e = cc
no_queue (TableBody values) long e = refl

pub not_file : (w : World) (path : List ℕ) (named : Named) → IsQueueContent named.content → (n : NodeIn w path named) → is_file n.node.body ≡ false
not_file w path named is at = no_file at.node.body (count_of (queue_of named.content)) (ap (λ (o : Outline). o.extent) at.seen ∙ ap content_extent is)

pub not_queue : (w : World) (path : List ℕ) (named : Named) → IsFileContent named.content → (n : NodeIn w path named) → is_queue n.node.body ≡ false
not_queue w path named is at = no_queue at.node.body (file_of named.content).length (ap (λ (o : Outline). o.extent) at.seen ∙ ap content_extent is)

module _ {K : Type 0} (s : State) (tenant : TenantView K) (sits : Sits s tenant) (path : List ℕ) where
  shows : option_map outline_of (node_at s.world path) ≡ option_map named_outline (lookup (is_at (bytes_cmp path)) tenant.names)
  shows = sym (find-seen outline_of path s.world.names) ∙ ap (find bytes_cmp path) sits.names ∙ find-seen_by named_outline path tenant.names

  pub node_found : (named : Named) → lookup (is_at (bytes_cmp path)) tenant.names ≡ Some named → NodeIn s.world path named
  node_found named found =
      let seen = seen_from outline_of (node_at s.world path) (named_outline named) (shows ∙ ap (option_map named_outline) found) in
      record { node = seen.x; is = seen.is; seen = seen.seen }

  pub file_found : (named : Named) → lookup (is_at (bytes_cmp path)) tenant.names ≡ Some named → IsFileContent named.content → FileIn s.world path named
  file_found named found is = file_in s.world path named is (node_found named found)

  pub queue_found : (named : Named) → lookup (is_at (bytes_cmp path)) tenant.names ≡ Some named → IsQueueContent named.content → QueueIn s.world path named
  queue_found named found is = queue_in s.world path named is (node_found named found)

  pub node_absent : lookup (is_at (bytes_cmp path)) tenant.names ≡ None → node_at s.world path ≡ None
  node_absent none = unseen_from outline_of (node_at s.world path) (shows ∙ ap (option_map named_outline) none)

-- where the contents are held: how a name is kept, and what it stands for
pub record LainIn {K : Type 0} (told : Told) (s : State) (tenant : TenantView K) (lies : Lies told s tenant) (path : List ℕ) (named : Named) : Type 0 where
  pub kept : KeptAs
  pub body : Body
  pub is : lookup (is_at (bytes_cmp path)) lies.lain ≡ Some (record { named = named; kept = kept; body = body })
  pub entry : find bytes_cmp path s.layout ≡ Some kept
  pub at : kept_at s.layout path ≡ kept
  pub node : node_at s.world path ≡ Some (record { lease = named.lease; body = body })
  pub held : IsKeptAs tenant.home.seats.size lies.blocks named.content kept body

module _ {K : Type 0} (s : State) (tenant : TenantView K) (path : List ℕ) (told : Told) (lies : Lies told s tenant) (named : Named) (found : lookup (is_at (bytes_cmp path)) tenant.names ≡ Some named) where
  seen_in : IsSeen (λ (l : Lain). l.named) (lookup (is_at (bytes_cmp path)) lies.lain) named
  seen_in =
      seen_from (λ (l : Lain). l.named) (lookup (is_at (bytes_cmp path)) lies.lain) named
      (sym (find-seen_by (λ (l : Lain). l.named) path lies.lain) ∙ ap (find bytes_cmp path) (sym lies.fields) ∙ find-lookup path tenant.names ∙ found)

  pub lain_found : LainIn told s tenant lies path named
  lain_found =
      let x : Lain = seen_in.x in
      let is : lookup (is_at (bytes_cmp path)) lies.lain ≡ Some (record { named = named; kept = x.kept; body = x.body }) = seen_in.is ∙ ap (λ (n : Named). Some (record { named = n; kept = x.kept; body = x.body })) seen_in.seen in
      let entry : find bytes_cmp path s.layout ≡ Some x.kept = ap (find bytes_cmp path) lies.layout ∙ find-seen_by (λ (l : Lain). l.kept) path lies.lain ∙ ap (option_map (λ (l : Lain). l.kept)) is in
      record {
        kept = x.kept;
        body = x.body;
        is = is;
        entry = entry;
        at = ap (λ (o : Option KeptAs). unwrap_or o KeptDir) entry;
        node = ap (find bytes_cmp path) lies.names ∙ find-seen_by lain_node path lies.lain ∙ ap (option_map lain_node) is;
        held =
            subst (λ (o : Option Lain). IfSome o (λ (l : Lain). IsKeptAs tenant.home.seats.size lies.blocks l.named.content l.kept l.body)) is
            (All-lookup (λ (l : Lain). IsKeptAs tenant.home.seats.size lies.blocks l.named.content l.kept l.body) (is_at (bytes_cmp path)) lies.lain lies.each);
      }
