use Rattle.std.proofs.Common.{◌≡◌, ℕ, ◌-◌, ◌*◌, ◌%◌, ◌^◌, List, set, replicate, true, false, sym, ap, ◌∙◌, subst, rules, arith}
use Rattle.std.specs.Int.{div_ceil}
use Rattle.std.proofs.lemmas.Nat.{one_shl}
use Rattle.id_set.specs.Words.{Fills}
use Rattle.id_set.proofs.FilledLemmas.{none-fills, whole-fills, part-fills, IfOk-more}
use Rattle.id_set.proofs.bits.filled_words.Goals as goal
use Rattle.id_set.proofs.bits.filled_words.Goals.{then-places-ne0, else-places-ne0}

pub returns-then-not-member : goal.returns-then-not-member
returns-then-not-member c =
    rw c.if-not-member.true
    (IfOk-more c.vec.result _ _
    (λ words given. subst (λ ws. Fills c.args.bound ws false) (sym (given (λ y same. search rules) ∙ ap (λ n. replicate n 0) c.div_ceil-count.ensures)) (none-fills c.args.bound (omega arith)))
    c.vec.ensures.items_if_clones_equal)

pub returns : goal.returns
returns c =
    let member_is : c.args.member ≡ true = search rules in
    let made : c.in_ok-words.words.items ≡ replicate (div_ceil c.args.bound 64) (2 ^ 64 - 1) = c.in_ok-words.ensures.items_if_clones_equal (λ y same. search rules) ∙ ap (λ n. replicate n (2 ^ 64 - 1)) c.div_ceil-count.ensures in
    rw member_is
    (elim c.if-places-ne0.branch [
      | then-places-ne0 w ↦
          let shifted = one_shl (c.args.bound % 64) 64 (omega arith) in
          let items : set c.in_ok-words.words.items (c.div_ceil-count.result - 1) (1 * 2 ^ (c.args.bound % 64) % 2 ^ 64 - 1) ≡ set (replicate (div_ceil c.args.bound 64) (2 ^ 64 - 1)) (div_ceil c.args.bound 64 - 1) (2 ^ (c.args.bound % 64) - 1) = λ i. set (made i) (c.div_ceil-count.ensures i - 1) (shifted i - 1) in
          rw w.words-is (subst (λ ws. Fills c.args.bound ws true) (sym items) (part-fills c.args.bound (omega arith) w.if-places-ne0.true))
      | else-places-ne0 w ↦
          let whole : c.args.bound % 64 ≡ 0 = omega arith in
          rw w.words-is (subst (λ ws. Fills c.args.bound ws true) (sym made) (whole-fills c.args.bound (omega arith) whole))
    ])
