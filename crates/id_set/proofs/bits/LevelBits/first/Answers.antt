use Rattle.std.proofs.Common.{◌≡◌, ◌+◌, ◌*◌, ◌<◌, ◌^◌, false, length, get_or, ap, sym, ◌∙◌, arith}
use Rattle.std.proofs.lemmas.List.{get_or_read}
use Rattle.std.proofs.lemmas.List.Quantifiers.{position-Some}
use Rattle.id_set.specs.IdSet.{first}
use Rattle.id_set.proofs.LevelLemmas.{length-filled, first-none_filled, first-filled, lowest_below}
use Rattle.id_set.proofs.bits.LevelBits.first.Goals as goal

pub returns-in_err-at : goal.returns-in_err-at
returns-in_err-at g c =
    let s = c.self.inside in
    let found = sym c.first.ensures ∙ c.in_err-at.was in
    c.from_residual.ensures ∙ sym (ap first (sym c.self.view_is) ∙ first-none_filled s.bound s.words.items _ c.self.invariant found)

pub overflow_mul-result : goal.overflow_mul-result
overflow_mul-result g c =
    let s = c.self.inside in
    let found = sym c.first.ensures ∙ c.in_ok-at.was in
    let inside : c.in_ok-at.at < length s.words.items = omega (arith, length-filled s.bound s.words.items _ c.self.invariant, (position-Some (λ m. m) _ c.in_ok-at.at false found).0) in
    let word_is = get_or_read s.words.items c.in_ok-at.at _ inside c.index-word.ensures 0 in
    let fits : get_or s.words.items c.in_ok-at.at 0 < 2 ^ 64 = omega arith in
    let small = c.self.invariant.small in
    let below = lowest_below s.bound s.words.items _ c.in_ok-at.at c.self.invariant found fits in
    omega arith

pub overflow_add-result : goal.overflow_add-result
overflow_add-result g c =
    let s = c.self.inside in
    let found = sym c.first.ensures ∙ c.in_ok-at.was in
    let inside : c.in_ok-at.at < length s.words.items = omega (arith, length-filled s.bound s.words.items _ c.self.invariant, (position-Some (λ m. m) _ c.in_ok-at.at false found).0) in
    let word_is = get_or_read s.words.items c.in_ok-at.at _ inside c.index-word.ensures 0 in
    let fits : get_or s.words.items c.in_ok-at.at 0 < 2 ^ 64 = omega arith in
    let small = c.self.invariant.small in
    let below = lowest_below s.bound s.words.items _ c.in_ok-at.at c.self.invariant found fits in
    rw word_is (omega arith)

pub returns : goal.returns
returns g c =
    let s = c.self.inside in
    let found = sym c.first.ensures ∙ c.in_ok-at.was in
    let inside : c.in_ok-at.at < length s.words.items = omega (arith, length-filled s.bound s.words.items _ c.self.invariant, (position-Some (λ m. m) _ c.in_ok-at.at false found).0) in
    let word_is = get_or_read s.words.items c.in_ok-at.at _ inside c.index-word.ensures 0 in
    let fits : get_or s.words.items c.in_ok-at.at 0 < 2 ^ 64 = omega arith in
    rw word_is (sym (ap first (sym c.self.view_is) ∙ first-filled s.bound s.words.items _ c.in_ok-at.at c.self.invariant found fits))
