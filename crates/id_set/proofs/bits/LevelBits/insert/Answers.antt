use Rattle.std.proofs.Common.{◌≡◌, ◌≢◌, ◌/◌, ◌<◌, true, length, get_or, ap, ◌∙◌, arith}
use Rattle.std.proofs.lemmas.List.{get_or_read}
use Rattle.id_set.proofs.BitLemmas.{length-bits_of, bits_of-written, writes-with_bit}
use Rattle.id_set.proofs.LevelLemmas.{word_inside, length-filled, level-inserted, level-inserted_again}
use Rattle.id_set.proofs.bits.LevelBits.insert.Goals as goal

pub index-word-requires : goal.index-word-requires
index-word-requires g c =
    let s = c.self.inside in
    let below : c.args.id < s.bound = omega (arith, ap length c.self.view_is, length-bits_of s.bound s.words.items) in
    omega (arith, word_inside s.bound s.words.items _ c.args.id c.self.invariant below, s.words.ok.0)

pub index_mut-requires : goal.index_mut-requires
index_mut-requires g c =
    let s = c.self.inside in
    let below : c.args.id < s.bound = omega (arith, ap length c.self.view_is, length-bits_of s.bound s.words.items) in
    omega (arith, word_inside s.bound s.words.items _ c.args.id c.self.invariant below, s.words.ok.0)

pub insert-requires : goal.insert-requires
insert-requires g c =
    let s = c.self.inside in
    let below : c.args.id < s.bound = omega (arith, ap length c.self.view_is, length-bits_of s.bound s.words.items) in
    omega (arith, word_inside s.bound s.words.items _ c.args.id c.self.invariant below, length-filled s.bound s.words.items _ c.self.invariant)

pub invariant_of-self : goal.invariant_of-self
invariant_of-self g c =
    let s = c.self.inside in
    let below : c.args.id < s.bound = omega (arith, ap length c.self.view_is, length-bits_of s.bound s.words.items) in
    let inside = word_inside s.bound s.words.items _ c.args.id c.self.invariant below in
    let word_is = get_or_read s.words.items (c.args.id / 64) _ inside c.index-word.ensures 0 in
    rw (word_is, c.insert.ensures) (level-inserted s.bound s.words.items _ c.args.id c.self.invariant below)

pub invariant_of-self-else-word-eq0 : goal.invariant_of-self-else-word-eq0
invariant_of-self-else-word-eq0 g c =
    let s = c.self.inside in
    let below : c.args.id < s.bound = omega (arith, ap length c.self.view_is, length-bits_of s.bound s.words.items) in
    let inside = word_inside s.bound s.words.items _ c.args.id c.self.invariant below in
    let word_is = get_or_read s.words.items (c.args.id / 64) _ inside c.index-word.ensures 0 in
    let apart : get_or s.words.items (c.args.id / 64) 0 ≢ 0 = λ zero_is. c.if-word-eq0.false (word_is ∙ zero_is) in
    rw word_is (level-inserted_again s.bound s.words.items _ c.args.id c.self.invariant below apart)

pub returns-then-word-eq0 : goal.returns-then-word-eq0
returns-then-word-eq0 g c =
    let s = c.self.inside in
    let below : c.args.id < s.bound = omega (arith, ap length c.self.view_is, length-bits_of s.bound s.words.items) in
    let inside = word_inside s.bound s.words.items _ c.args.id c.self.invariant below in
    let word_is = get_or_read s.words.items (c.args.id / 64) _ inside c.index-word.ensures 0 in
    rw (word_is, ← c.self.view_is) (bits_of-written s.bound s.words.items c.args.id _ true (writes-with_bit s.words.items c.args.id inside))

pub returns-else-word-eq0 : goal.returns-else-word-eq0
returns-else-word-eq0 g c =
    let s = c.self.inside in
    let below : c.args.id < s.bound = omega (arith, ap length c.self.view_is, length-bits_of s.bound s.words.items) in
    let inside = word_inside s.bound s.words.items _ c.args.id c.self.invariant below in
    let word_is = get_or_read s.words.items (c.args.id / 64) _ inside c.index-word.ensures 0 in
    rw (word_is, ← c.self.view_is) (bits_of-written s.bound s.words.items c.args.id _ true (writes-with_bit s.words.items c.args.id inside))
