use Rattle.std.proofs.Common.{◌≡◌, ℕ, List, length, [], refl, sym, ap, subst, arith, Some, None}
use Rattle.std.specs.Prelude.{IsTrue}
use Rattle.std.proofs.lemmas.Bool.{false≢true}
use Rattle.far_words.specs.Paths.{is_part}
use Rattle.std.proofs.lemmas.List.{nil_from_length}
use Rattle.frame_fields.proofs.FieldLaws.{no_after, not_after, after_found}
use Rattle.frame_fields.proofs.names.after_at.Goals as goal

pub returns-in_default : goal.returns-in_default
returns-in_default c = no_after c.args.bytes.now c.in_default.ensures

pub returns-then-is_empty : goal.returns-then-is_empty
returns-then-is_empty c =
    let empty : c.in-Some.text.now ≡ [] = nil_from_length c.in-Some.text.now (grind arith) in
    (after_found None c.args.bytes.now c.in-Some.text.now c.in-Some.rest.now c.in-Some.ensures.0 (sym empty), tt)

pub returns-in_default-parse : goal.returns-in_default-parse
returns-in_default-parse c =
    not_after c.args.bytes.now c.in-Some.text.now c.in-Some.rest.now c.in-Some.ensures.0 c.in-Some.ensures.1.0
    (λ empty. let none : length c.in-Some.text.now ≡ 0 = ap length empty in grind (arith, none))
    (λ is. false≢true (c.in_default-parse.ensures.grammar.1 is))

pub returns : goal.returns
returns c = (
  after_found (Some c.in-Some-parse.part) c.args.bytes.now c.in-Some.text.now c.in-Some.rest.now c.in-Some.ensures.0
      c.in-Some-parse.ensures.value,
  subst (λ (t : List ℕ). IsTrue (is_part t)) (sym c.in-Some-parse.ensures.value)
      (c.in-Some-parse.ensures.grammar.0 refl),
)
