use Rattle.std.proofs.Common.{◌≡◌, ◌<◌, ◌^◌, ◌++◌, ℕ, take, sym, subst, ◌∙◌, ap, arith}
use Rattle.std.specs.Int.{w32, from_be_bytes}
use Rattle.frame_fields.specs.Fields.{spelling, Word}
use Rattle.frame_fields.proofs.FieldLaws.{no_word, word_found}
use Rattle.frame_fields.proofs.numbers.word_at.Goals as goal

pub returns-then-bytes-lt4 : goal.returns-then-bytes-lt4
returns-then-bytes-lt4 c = no_word c.args.bytes.now c.if-bytes-lt4.true

pub returns : goal.returns
returns c =
    let found = word_found c.args.bytes.now (λ i. omega (arith, c.type_inv.bytes i)) c.if-bytes-lt4.false in
    let number : c.from_be_bytes-number.result ≡ from_be_bytes w32 (take 4 c.args.bytes.now) =
    c.from_be_bytes-number.ensures ∙ ap (from_be_bytes w32) c.split_at.ensures.front in (
      found.0 ∙ (λ i. spelling (Word (sym number i)) ++ sym c.split_at.ensures.back i),
      subst (λ (n : ℕ). n < 2 ^ 32) (sym number) found.1,
    )
