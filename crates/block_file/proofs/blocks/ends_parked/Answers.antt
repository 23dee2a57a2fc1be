use Rattle.std.proofs.Common.{◌≡◌, ℕ, Bool, true, false, not, is_some, refl, sym, ap, ◌∙◌}
use Rattle.std.specs.declared.option.Option.{Option}
use Rattle.std.specs.Option.{option_map_or}
use Rattle.slice_seq.specs.Purses.{has_block}
use Rattle.block_seats.proofs.Purses.{has_block-place}
use Rattle.block_file.proofs.blocks.ends_parked.Goals as goal

not_not : (b : Bool) → not (not b) ≡ b
not_not true = refl
not_not false = refl

pub returns-in-Some : goal.returns-in-Some
returns-in-Some g c =
    let purse = c.args.home.now.seats.purse in
    let block = c.in-Some.block.now in
    sym (not_not c.is_none.result)
    ∙ ap not (sym c.is_none.ensures ∙ ap is_some c.place.ensures.place ∙ sym (has_block-place purse block) ∙ ap (λ (o : Option ℕ). option_map_or (has_block purse) o false) c.in-Some.ensures.value)
