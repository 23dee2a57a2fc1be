use Rattle.std.proofs.lemmas.Bool.{false≢true}
use Rattle.far_words.specs.Paths.{is_path}
use Rattle.frame_fields.proofs.FieldLaws.{not_text}
use Rattle.frame_fields.proofs.names.path_at.Goals as goal

pub returns-in_default-parse : goal.returns-in_default-parse
returns-in_default-parse c =
    not_text is_path c.args.bytes.now c.in-Some.text.now c.in-Some.rest.now c.in-Some.ensures.0 c.in-Some.ensures.1.0
    (λ is. false≢true (c.in_default-parse.ensures.grammar.1 is))
