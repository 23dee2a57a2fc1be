use Rattle.std.proofs.Common.{◌≡◌, ◌≤◌, ◌/◌, ◌%◌, ◌<◌, length, false, ap, sym, ◌∙◌, eqb, ltb, arith}
use Rattle.std.proofs.lemmas.List.{get_or_read, get_or_past}
use Rattle.std.proofs.lemmas.Nat.Bits.{shr_and_one}
use Rattle.std.proofs.lemmas.Bool.Decides.{nat_tests}
use Rattle.id_set.specs.IdSet.{contains}
use Rattle.id_set.specs.Words.{is_set}
use Rattle.id_set.proofs.BitLemmas.{length-bits_of, get_or-bits_of}
use Rattle.id_set.proofs.LevelLemmas.{word_inside}
use Rattle.id_set.proofs.bits.Level.contains.Goals as goal

pub index-requires : goal.index-requires
index-requires g c =
    let s = c.self.inside in
    omega (arith, word_inside s.bound s.words.items _ c.args.id c.self.invariant (omega arith), s.words.ok.0)

pub returns-then-id-self-clause-member : goal.returns-then-id-self-clause-member
returns-then-id-self-clause-member g c =
    let s = c.self.inside in
    let below : c.args.id < s.bound = omega arith in
    let inside = word_inside s.bound s.words.items _ c.args.id c.self.invariant below in
    let word_is = get_or_read s.words.items (c.args.id / 64) _ inside c.index.ensures 0 in
    ap (λ b. eqb b 1) (shr_and_one c.index.result.now (c.args.id % 64))
    ∙ ap (λ w. is_set w (c.args.id % 64)) word_is
    ∙ sym (ap (λ ms. contains ms c.args.id) (sym c.self.view_is) ∙ get_or-bits_of s.bound s.words.items c.args.id false below)

pub returns-then-id-self-clause-limit : goal.returns-then-id-self-clause-limit
returns-then-id-self-clause-limit g c =
    let s = c.self.inside in omega (arith, ap length c.self.view_is, length-bits_of s.bound s.words.items)

pub returns-else-id-self-clause-member : goal.returns-else-id-self-clause-member
returns-else-id-self-clause-member g c =
    let s = c.self.inside in
    let fails : ltb c.args.id s.bound ≡ false = grind (arith, nat_tests) in
    fails
    ∙ sym (ap (λ ms. contains ms c.args.id) (sym c.self.view_is)
    ∙ get_or_past _ c.args.id false (omega (arith, length-bits_of s.bound s.words.items)))

pub returns-else-id-self-clause-limit : goal.returns-else-id-self-clause-limit
returns-else-id-self-clause-limit g c =
    let s = c.self.inside in omega (arith, ap length c.self.view_is, length-bits_of s.bound s.words.items)
