-- A request of one name that leaves what the name stands for and how it is kept.
use Rattle.std.proofs.Common.{◌≡◌, ℕ, List, ap, sym, subst, ◌∙◌}
use Rattle.std.specs.List.Sorted.{IsStrictlySortedBy}
use Rattle.std.specs.Map.{keys_of}
use Rattle.std.specs.FinMap.{put}
use Rattle.far_io.specs.Faults.{Faults}
use Rattle.shelf_link.specs.Told.{Told}
use Rattle.far_words.specs.Paths.{bytes_cmp}
use Rattle.far_history.specs.Worlds.{Node, World, with_node}
use Rattle.far_history.specs.Layouts.{KeptAs, kept_at}
use Rattle.far_history.specs.Histories.{State}
use Rattle.tenant_world.specs.declared.names.Named.{Named}
use Rattle.tenant_world.specs.Outlines.{Outline, extent_of, content_extent, outline_of, named_outline}
use Rattle.tenant_world.specs.Views.{TenantView}
use Rattle.tenant_world.specs.Standing.{Sits, Lies, Lain}
use Rattle.tenant_world.proofs.Found.{NodeIn, lain_found}
use Rattle.tenant_world.proofs.Seen.{keys-seen, put_same}
use Rattle.tenant_world.proofs.Owning.{OneName}

pub extent_same : (w : World) (path : List ℕ) (named later : Named) → later.content ≡ named.content → (n : NodeIn w path named) → extent_of n.node.body ≡ content_extent later.content
extent_same w path named later same n = ap (λ (o : Outline). o.extent) n.seen ∙ ap content_extent (sym same)

module _ {K : Type 0} (told : K → Told) (faults : K → Faults) (old new : TenantView K) (path : List ℕ) (named later : Named) (one : OneName told faults old path named later new) (s : State) where
  pub world_same : Sits s old → (n : NodeIn s.world path named) → with_node s.world path (record { lease = n.node.lease; body = n.node.body }) ≡ s.world
  world_same sits n =
      let keys : keys_of old.names ≡ keys_of s.world.names = sym (keys-seen named_outline old.names) ∙ ap keys_of (sym sits.names) ∙ keys-seen outline_of s.world.names in
      ap (λ (names : List (List ℕ × Node)). let w : World = record { moment = s.world.moment; names = names } in w)
      (put_same path n.node s.world.names (subst (IsStrictlySortedBy bytes_cmp) keys one.sorted) n.is)

  pub layout_same : Lies (told old.home.shelf) s old → put bytes_cmp path (kept_at s.layout path) s.layout ≡ s.layout
  layout_same lies =
      let lain = lain_found s old path (told old.home.shelf) lies named one.found in
      let keys : keys_of old.names ≡ keys_of s.layout = ap keys_of lies.fields ∙ keys-seen (λ (l : Lain). l.named) lies.lain ∙ sym (keys-seen (λ (l : Lain). l.kept) lies.lain) ∙ ap keys_of (sym lies.layout) in
      ap (λ (k : KeptAs). put bytes_cmp path k s.layout) lain.at
      ∙ put_same path lain.kept s.layout (subst (IsStrictlySortedBy bytes_cmp) keys one.sorted) lain.entry
