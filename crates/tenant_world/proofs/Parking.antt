-- A park of a name's blocks, whatever kind it is of.
use Rattle.std.proofs.Common.{◌≡◌, ℕ, List, [], length, take, refl, ap, sym, ◌∙◌, arith, None}
use Rattle.std.proofs.lemmas.List.{take_all}
use Rattle.far_io.specs.Faults.{Faults}
use Rattle.shelf_link.specs.Told.{Told}
use Rattle.far_asks.specs.declared.request.Request.TheVariants.{Park}
use Rattle.far_asks.specs.declared.request.Reply.{Reply}
use Rattle.far_asks.specs.declared.request.Reply.TheVariants.{Done, Number, Bytes, Item, Nothing, TooLong, Absent, WrongKind, Exists, Full, Exhausted, StoreFault, Damaged, AbsentUser, NoMemory}
use Rattle.slice_seq.specs.Purses.{Purse, has_block}
use Rattle.far_history.specs.Answers.{answer, refusal}
use Rattle.far_history.specs.Layouts.{kept_at, kept_blocks, park_order}
use Rattle.far_history.specs.Histories.{State}
use Rattle.far_history.specs.Legal.{slices_of}
use Rattle.far_history.proofs.Asked as Asked
use Rattle.block_list.specs.Lists.{seated_of}
use Rattle.tenant_world.specs.declared.names.Named.{Named}
use Rattle.tenant_world.specs.Contents.{parking_order}
use Rattle.tenant_world.specs.Parking.{IsParkedContent}
use Rattle.tenant_world.specs.Views.{TenantView}
use Rattle.tenant_world.specs.Standing.{Sits, Lies}
use Rattle.tenant_world.specs.Serves.{Serves}
use Rattle.tenant_world.proofs.Content.{kept_numbers}
use Rattle.tenant_world.proofs.Sorts.{order_is, order_slices}
use Rattle.tenant_world.proofs.Found.{lain_found, node_found}
use Rattle.tenant_world.proofs.Served.{excused_reply, excused_placed, done_reply, done_placed, world_done}
use Rattle.tenant_world.proofs.Excused.{rose_counts}
use Rattle.tenant_world.proofs.Seated.{seated_slices, first_pass}
use Rattle.tenant_world.proofs.Owning.{OneName, OwnStands, serves_own, own_stands}
use Rattle.tenant_world.proofs.Same.{world_same, layout_same, extent_same}
use Rattle.tenant_world.proofs.Staying.{keeping}

module _ {K : Type 0} (told : K → Told) (faults : K → Faults) (old new : TenantView K) (path : List ℕ) (named later : Named) (one : OneName told faults old path named later new) where
  abbrev purse : Purse
  purse = old.home.seats.purse

  abbrev order : List ℕ
  order = parking_order named.content

  unrefused : (s : State) → Sits s old → refusal old.terms.size s.world (Park path) ≡ None
  unrefused s sits = let at = node_found s old sits path named one.found in Asked.refusal-found old.terms.size s.world (Park path) path at.node refl refl at.is refl

  answers : (s : State) → Sits s old → answer old.terms.size s.world (Park path) ≡ (s.world, Done)
  answers s sits = Asked.answer-done old.terms.size s.world (Park path) (unrefused s sits)

  -- the slices of the blocks that were parked, as the layout has them
  order_at : (s : State) → Lies (told old.home.shelf) s old → park_order (kept_at s.layout path) ≡ parking_order named.content
  order_at s lies =
      let lain = lain_found s old path (told old.home.shelf) lies named one.found in
      ap park_order lain.at ∙ order_is old.home.seats.size lies.blocks named.content lain.kept lain.body lain.held

  all_slices : (s : State) → Lies (told old.home.shelf) s old → slices_of s.purse (seated_of old.home.seats.purse (parking_order named.content)) ≡ slices_of s.purse (kept_blocks (kept_at s.layout path))
  all_slices s lies =
      let lain = lain_found s old path (told old.home.shelf) lies named one.found in
      (λ i. slices_of (lies.purse i) (seated_of purse order))
      ∙ seated_slices purse order
      ∙ order_slices purse named.content
      ∙ (λ i. slices_of (sym lies.purse i) ((sym (kept_numbers old.home.seats.size lies.blocks named.content lain.kept lain.body lain.held) ∙ ap kept_blocks (sym lain.at)) i))

  first_slices : (n : ℕ) (s : State) → Lies (told old.home.shelf) s old → (k : ℕ) × (slices_of s.purse (take n (seated_of old.home.seats.purse (parking_order named.content))) ≡ slices_of s.purse (take k (park_order (kept_at s.layout path))))
  first_slices n s lies =
      let some = first_pass (λ b. has_block purse b) n order in (
        some.0,
        (λ i. slices_of (lies.purse i) (some.1 i))
            ∙ seated_slices purse (take some.0 order)
            ∙ (λ i. slices_of (sym lies.purse i) (take some.0 (sym (order_at s lies) i))),
      )

  pub park_serves : (reply : Reply) → IsParkedContent told faults (keeping old named) path reply (keeping new later) → Serves told faults old (Park path) reply new
  park_serves Done is =
      let seated : List ℕ = seated_of purse order in
      serves_own told faults old new path named later one (λ b. b) (λ k. k) _ [] [] is.1 (Park path) Done (record {
        fits = omega arith;
        caused = tt;
        worlds = λ s sits n m. world_done old.terms.size s.world s.world m (Park path) Done Done (answers s sits) refl ∙ sym (world_same told faults old new path named later one s sits n);
        extents = λ s sits n. extent_same s.world path named later is.0 n;
        layouts = λ s sits lies. sym (layout_same told faults old new path named later one s lies);
        right = λ s sits lies e freed placed before after. (
          done_reply old.terms s e (Park path) Done s.world (answers s sits) refl,
          freed ∙ ap (slices_of s.purse) (take_all (length seated) seated (omega arith)) ∙ all_slices s lies,
          done_placed old.terms s e (Park path) Done (unrefused s sits) refl placed refl,
        );
        telling = λ tells s lies. tt;
        void = λ m void s sits lies none needs. absurd needs;
      })
  park_serves StoreFault is =
      serves_own told faults old new path named later one (λ b. b) (λ k. k) _ [] [] is.1.1.1 (Park path) StoreFault (record {
        fits = omega arith;
        caused = is.0.rose;
        worlds = λ s sits n m. sym (world_same told faults old new path named later one s sits n);
        extents = λ s sits n. extent_same s.world path named later is.1.1.0 n;
        layouts = λ s sits lies. sym (layout_same told faults old new path named later one s lies);
        right = λ s sits lies e freed placed before after.
            let first = first_slices is.1.0 s lies in (
              excused_reply old.terms s e (Park path) StoreFault (unrefused s sits) refl (refl, rose_counts (faults old.home.shelf) (faults new.home.shelf) e.before e.after before after is.0),
              (first.0, freed ∙ first.1),
              excused_placed old.terms s e (Park path) StoreFault refl placed,
            );
        telling = λ tells s lies. tt;
        void = λ m void s sits lies none needs. absurd needs;
      })
  park_serves (Damaged kept seen) is = absurd is
  park_serves NoMemory is = absurd is
  park_serves (Bytes out) is = absurd is
  park_serves (Item bytes) is = absurd is
  park_serves Nothing is = absurd is
  park_serves (Number m) is = absurd is
  park_serves (TooLong limit) is = absurd is
  park_serves Absent is = absurd is
  park_serves WrongKind is = absurd is
  park_serves Exists is = absurd is
  park_serves (Full limit) is = absurd is
  park_serves (Exhausted asked used granted) is = absurd is
  park_serves (AbsentUser users) is = absurd is

  pub park_stands : (reply : Reply) → IsParkedContent told faults (keeping old named) path reply (keeping new later) → OwnStands old new
  park_stands Done is = own_stands told faults old new path named later one _ _ _ _ _ is.1
  park_stands StoreFault is = own_stands told faults old new path named later one _ _ _ _ _ is.1.1.1
  park_stands (Damaged kept seen) is = absurd is
  park_stands NoMemory is = absurd is
  park_stands (Bytes out) is = absurd is
  park_stands (Item bytes) is = absurd is
  park_stands Nothing is = absurd is
  park_stands (Number m) is = absurd is
  park_stands (TooLong limit) is = absurd is
  park_stands Absent is = absurd is
  park_stands WrongKind is = absurd is
  park_stands Exists is = absurd is
  park_stands (Full limit) is = absurd is
  park_stands (Exhausted asked used granted) is = absurd is
  park_stands (AbsentUser users) is = absurd is
