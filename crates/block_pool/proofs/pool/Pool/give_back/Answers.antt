use Rattle.std.proofs.Common.{◌≡◌, ℕ, ◌<◌, true, is_some, length, map, set, sym, ap, subst, ◌∙◌, arith, Some}
use Rattle.std.specs.declared.option.Option.{Option}
use Rattle.std.specs.Ordering.{nat_cmp}
use Rattle.std.specs.FinMap.{find, put}
use Rattle.std.proofs.lemmas.List.{map-set, length-set}
use Rattle.id_set.specs.Tables.{entries_of}
use Rattle.id_set.proofs.Tables.{find-entries, entries-set_some}
use Rattle.slice_seq.specs.Slice.{SliceView}
use Rattle.block_pool.specs.Inside.{AreInPlace}
use Rattle.block_pool.proofs.Places.{in_place-filled}
use Rattle.block_pool.proofs.pool.Pool.give_back.Goals as goal

pub fill-requires-clause-empty : goal.fill-requires-clause-empty
fill-requires-clause-empty c =
    let entries = ap (λ v. v.slices) c.self.view_is in
    sym (find-entries c.id-id.result c.self.inside.places.items) ∙ (λ i. find nat_cmp (c.id-id.ensures i) (entries i)) ∙ c.requires.away

pub invariant_of-self : goal.invariant_of-self
invariant_of-self c =
    let places = c.self.inside.places.items in
    let id : ℕ = c.id-id.result in
    let inside : id < length places = omega (arith, c.requires.within, c.id-id.ensures, ap (λ v. v.bound) c.self.view_is) in
    record {
      free = c.insert.ensures.members ∙ ap (λ flags. set flags id true) c.self.invariant.free ∙ sym (map-set is_some places id (Some c.args.slice)) ∙ ap (map is_some) (sym c.fill.ensures);
      ids = subst AreInPlace (sym c.fill.ensures) (in_place-filled places id c.args.slice inside (sym c.id-id.ensures) c.self.invariant.ids);
      limit = omega (arith, ap (λ xs. length xs) c.fill.ensures, length-set {A = Option SliceView}, c.self.invariant.limit);
    }

pub returns : goal.returns
returns c =
    let places = c.self.inside.places.items in
    let id : ℕ = c.id-id.result in
    let inside : id < length places = omega (arith, c.requires.within, c.id-id.ensures, ap (λ v. v.bound) c.self.view_is) in
    let entries = ap (λ v. v.slices) c.self.view_is in
    let bound : length c.fill.new.places.items ≡ c.args.self.now.bound = omega (arith, ap (λ xs. length xs) c.fill.ensures, length-set {A = Option SliceView}, ap (λ v. v.bound) c.self.view_is) in
    let slices : entries_of c.fill.new.places.items ≡ put nat_cmp c.args.slice.id c.args.slice c.args.self.now.slices
    = ap (λ xs. entries_of xs) c.fill.ensures ∙ entries-set_some places id c.args.slice inside ∙ (λ i. put nat_cmp (c.id-id.ensures i) c.args.slice (entries i)) in
    λ i. record { bound = bound i; slices = slices i }
