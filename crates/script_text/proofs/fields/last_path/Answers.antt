use Rattle.std.proofs.Common.{◌≡◌, [], sym, ◌∙◌}
use Rattle.std.specs.Option.{option_copied}
use Rattle.far_io.specs.Words.{words_after}
use Rattle.far_io.proofs.WordLaws.{left_over}
use Rattle.script_text.proofs.fields.last_path.Goals as goal

pub returns-then-is_some-clause-nothing : goal.returns-then-is_some-clause-nothing
returns-then-is_some-clause-nothing c = λ path good same.
    let none : words_after (option_copied c.in_ok-path.others) ≡ [] = cc (c.in_ok-path.ensures.path) in
    left_over c.in_ok-path.others (sym c.is_some.ensures ∙ c.if-is_some.true) none
