use Rattle.std.proofs.Common.{◌++◌, map, ◌∙◌, ap}
use Rattle.std.specs.Fmt.{decimal}
use Rattle.script_text.specs.Words.{each_after}
use Rattle.script_text.proofs.Joined.{colons_each}
use Rattle.script_text.proofs.damages.push_named.Goals as goal

pub returns-clause-text : goal.returns-clause-text
returns-clause-text c =
    let numbers = map decimal c.args.numbers.now in
    c.push_numbers.ensures.text ∙ ap (λ t. t ++ each_after 58 numbers) c.push_all.ensures ∙ colons_each c.args.piece.now c.args.word.now numbers
