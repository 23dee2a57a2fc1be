use Rattle.std.proofs.Common.{sym, ◌∙◌, ap, ◌==◌}
use Rattle.std.specs.List.{remove, position}
use Rattle.shelf_link.proofs.Places.{place_found, nothing_off}
use Rattle.shelf_link.proofs.calls.take_off.Goals as goal

pub returns-in-Some-clause-off : goal.returns-in-Some-clause-off
returns-in-Some-clause-off c =
    let found = sym (c.in-Some.ensures.place ∙ ap (position (λ x. x == c.args.call)) c.as_slice.ensures.value) in
    c.remove.ensures.items ∙ ap (remove c.args.fails.now.items) (place_found (λ x. x == c.args.call) c.args.fails.now.items c.in-Some.at found)

pub returns-in-None-clause-off : goal.returns-in-None-clause-off
returns-in-None-clause-off c =
    let missed = sym (c.in-None.ensures.place ∙ ap (position (λ x. x == c.args.call)) c.as_slice.ensures.value) in
    sym (nothing_off (λ x. x == c.args.call) c.args.fails.now.items missed)
