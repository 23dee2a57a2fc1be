use Rattle.std.proofs.Common.{◌++◌, true, refl, sym, ◌∙◌, arith}
use Rattle.frame_fields.specs.Fields.{spelling, Text}
use Rattle.frame_fields.proofs.FieldLaws.{no_count, no_text, text_found}
use Rattle.frame_fields.proofs.texts.text_at.Goals as goal

pub returns-in_default : goal.returns-in_default
returns-in_default c = no_count (λ _. true) c.args.bytes.now c.in_default.ensures

pub returns-then-rest-len : goal.returns-then-rest-len
returns-then-rest-len c =
    no_text (λ _. true) c.args.bytes.now c.in-Some.rest.now c.in-Some.len c.in-Some.ensures.0 c.in-Some.ensures.1
    c.if-rest-len.true

pub returns : goal.returns
returns c =
    let whole = text_found c.args.bytes.now c.in-Some.rest.now c.in-Some.len c.in-Some.ensures.0 c.if-rest-len.false
    in (
      whole ∙ (λ i. spelling (Text (sym c.split_at.ensures.front i)) ++ sym c.split_at.ensures.back i),
      (omega (arith, c.split_at.ensures.front_len, c.in-Some.ensures.1), refl),
    )
