use Rattle.std.proofs.Common.{◌≡◌, ◌<◌, ◌^◌, ◌++◌, ℕ, take, sym, subst, ◌∙◌, ap, arith}
use Rattle.std.specs.Int.{w64, from_be_bytes}
use Rattle.frame_fields.specs.Fields.{spelling, Long}
use Rattle.frame_fields.proofs.FieldLaws.{no_long, long_found}
use Rattle.frame_fields.proofs.numbers.long_at.Goals as goal

pub returns-then-bytes-lt8 : goal.returns-then-bytes-lt8
returns-then-bytes-lt8 c = no_long c.args.bytes.now c.if-bytes-lt8.true

pub returns : goal.returns
returns c =
    let found = long_found c.args.bytes.now (λ i. omega (arith, c.type_inv.bytes i)) c.if-bytes-lt8.false in
    let number : c.from_be_bytes-number.result ≡ from_be_bytes w64 (take 8 c.args.bytes.now) =
    c.from_be_bytes-number.ensures ∙ ap (from_be_bytes w64) c.split_at.ensures.front in (
      found.0 ∙ (λ i. spelling (Long (sym number i)) ++ sym c.split_at.ensures.back i),
      subst (λ (n : ℕ). n < 2 ^ 64) (sym number) found.1,
    )
