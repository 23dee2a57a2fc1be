use Rattle.std.proofs.Common.{◌≡◌, length, drop, Some, sym, ap, ◌∙◌, arith}
use Rattle.std.proofs.lemmas.List.{take_all, take_at}
use Rattle.std.proofs.lemmas.Grind.{common_steps}
use Rattle.block_seats.specs.Seatings.{length_at}
use Rattle.block_queue.proofs.Queued.{held_length}
use Rattle.block_queue.proofs.items.content_of.Goals as goal

pub returns-in-Ok-clause-content : goal.returns-in-Ok-clause-content
returns-in-Ok-clause-content g c = λ m holds.
    let home = c.args.home.now in
    let out = c.read.new.out in
    let part = c.in-Ok.ensures.bytes m holds in
    let long : length_at home.seats c.args.block ≡ length part.0 = held_length m (g.K.Shelf.told home.shelf) home.user home.seats c.args.block part.0 holds c.requires part.1 in
    let resized : length c.resize.new.self ≡ length_at home.seats c.args.block = grind (arith, common_steps) in
    let read : length out ≡ length c.resize.new.self = c.read.auto.out ∙ c.items_mut.ensures.len in
    let same : out ≡ part.0 = part.2 ∙ take_all (length out) part.0 (omega arith) in
    part.1 ∙ ap Some (sym same ∙ sym (take_at out (drop (length out) c.resize.new.self) (length c.resize.new.self) read))
