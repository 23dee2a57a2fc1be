use Rattle.std.proofs.Common.{◌≡◌, ◌∷◌, [], sym, ◌∙◌, ap}
use Rattle.std.specs.Option.{option_copied}
use Rattle.far_io.specs.Words.{words_of, words_after}
use Rattle.far_io.specs.Escapes.{escaped}
use Rattle.far_io.proofs.WordLaws.{left_over}
use Rattle.script_text.proofs.fields.last_bytes.Goals as goal

pub returns-then-is_some-clause-nothing : goal.returns-then-is_some-clause-nothing
returns-then-is_some-clause-nothing c = λ bytes are same.
    let whole : words_of c.in-Some.words.now ≡ escaped bytes ∷ [] = ap (λ words. words_after (option_copied words)) (sym c.in-Some.is) ∙ same in
    let none : words_after (option_copied c.split_word.result.1) ≡ [] = cc (c.split_word.ensures.words) in
    left_over c.split_word.result.1 (sym c.is_some.ensures ∙ c.if-is_some.true) none
