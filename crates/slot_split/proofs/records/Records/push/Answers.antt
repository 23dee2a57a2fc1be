use Rattle.std.proofs.Common.{◌≡◌, ◌+◌, ◌∙◌, [], ◌∷◌, ◌++◌, ap, length, arith}
use Rattle.table_block.specs.declared.spots.Spot.{Spot}
use Rattle.table_block.specs.Records.{records_size, spelling}
use Rattle.slot_split.proofs.HeldLaws.{held_size, put_held}
use Rattle.slot_split.proofs.records.Records.push.Goals as goal

pub overflow_cast-from : goal.overflow_cast-from
overflow_cast-from c =
    let inside = c.self.inside in
    omega (arith, held_size inside.bytes.items inside.spots.items c.self.invariant, ap records_size c.self.view_is, inside.bytes.ok.0)

pub overflow_cast-end : goal.overflow_cast-end
overflow_cast-end c =
    let inside = c.self.inside in
    omega (arith, held_size inside.bytes.items inside.spots.items c.self.invariant, ap records_size c.self.view_is, inside.bytes.ok.0)

pub invariant_of-self-2 : goal.invariant_of-self-2
invariant_of-self-2 c =
    let inside = c.self.inside in
    let len : c.len-at.result ≡ length inside.bytes.items = omega (arith, inside.bytes.ok.0) in
    let size = held_size inside.bytes.items inside.spots.items c.self.invariant in
    let spot : Spot =
    record { at = c.len-at.result; value = c.len-at.result + 4 + length c.args.key.now; end = c.len-at.result + 4 + length c.args.key.now + length c.args.value.now } in
    let held =
    put_held inside.bytes.items c.put_record.new.bytes.items c.args.key.now c.args.value.now inside.spots.items c.push_reserved.new.self.items
    spot c.self.invariant c.requires.key_fits c.requires.value_fits (omega (arith, size, ap records_size c.self.view_is))
    (c.put_record.ensures.items ∙ ap (λ t. t ++ spelling (c.args.key.now, c.args.value.now)) c.in_ok-reserve.ensures.items)
    (c.push_reserved.ensures.items ∙ ap (λ t. t ++ spot ∷ []) c.in_ok-reserve-2.ensures.items)
    len (omega arith) (omega arith) in
    held.0

pub returns-clause-ok : goal.returns-clause-ok
returns-clause-ok c =
    let inside = c.self.inside in
    let len : c.len-at.result ≡ length inside.bytes.items = omega (arith, inside.bytes.ok.0) in
    let size = held_size inside.bytes.items inside.spots.items c.self.invariant in
    let spot : Spot =
    record { at = c.len-at.result; value = c.len-at.result + 4 + length c.args.key.now; end = c.len-at.result + 4 + length c.args.key.now + length c.args.value.now } in
    let held =
    put_held inside.bytes.items c.put_record.new.bytes.items c.args.key.now c.args.value.now inside.spots.items c.push_reserved.new.self.items
    spot c.self.invariant c.requires.key_fits c.requires.value_fits (omega (arith, size, ap records_size c.self.view_is))
    (c.put_record.ensures.items ∙ ap (λ t. t ++ spelling (c.args.key.now, c.args.value.now)) c.in_ok-reserve.ensures.items)
    (c.push_reserved.ensures.items ∙ ap (λ t. t ++ spot ∷ []) c.in_ok-reserve-2.ensures.items)
    len (omega arith) (omega arith) in
    held.1 ∙ ap (λ rs. rs ++ (c.args.key.now, c.args.value.now) ∷ []) c.self.view_is
