use Rattle.std.proofs.Common.{◌<◌, ◌^◌, List, ℕ, length, sym, ap, subst, arith}
use Rattle.std.specs.Prelude.{slice_range}
use Rattle.std.proofs.lemmas.List.{length-map}
use Rattle.table_block.specs.Records.{Fits}
use Rattle.slot_split.specs.Held.{record_at}
use Rattle.slot_split.proofs.HeldLaws.{held_fits}
use Rattle.slot_split.proofs.records.Records.value.Goals as goal

pub returns-clause-fits : goal.returns-clause-fits
returns-clause-fits c =
    let inside = c.self.inside in
    let spot = c.index-spot.result.now in
    let within : c.args.index < length inside.spots.items =
    omega (arith, c.requires, ap length c.self.view_is, length-map inside.spots.items (record_at inside.bytes.items)) in
    let fits : Fits (record_at inside.bytes.items spot) =
    held_fits inside.bytes.items inside.spots.items c.self.invariant c.args.index spot within c.index-spot.ensures in
    subst (λ (bytes : List ℕ). length (slice_range bytes (spot.value) spot.end) < 2 ^ 16) (sym c.deref.ensures.value) fits.value
