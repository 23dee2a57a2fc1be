use Rattle.std.proofs.Common.{◌≡◌, ◌≢◌, ◌/◌, ◌%◌, ◌<◌, false, length, get_or, ap, ◌∙◌, arith}
use Rattle.std.proofs.lemmas.List.{get_or_read}
use Rattle.id_set.proofs.BitLemmas.{length-bits_of, bits_of-written, without_bit, writes-without_bit}
use Rattle.id_set.proofs.LevelLemmas.{word_inside, length-filled, level-emptied, level-removed}
use Rattle.id_set.proofs.bits.LevelBits.remove.Goals as goal

pub index-requires : goal.index-requires
index-requires g c =
    let s = c.self.inside in
    let below : c.args.id < s.bound = omega (arith, ap length c.self.view_is, length-bits_of s.bound s.words.items) in
    omega (arith, word_inside s.bound s.words.items _ c.args.id c.self.invariant below, s.words.ok.0)

pub index_mut-requires : goal.index_mut-requires
index_mut-requires g c =
    let s = c.self.inside in
    let below : c.args.id < s.bound = omega (arith, ap length c.self.view_is, length-bits_of s.bound s.words.items) in
    omega (arith, word_inside s.bound s.words.items _ c.args.id c.self.invariant below, s.words.ok.0)

pub remove-requires : goal.remove-requires
remove-requires g c =
    let s = c.self.inside in
    let below : c.args.id < s.bound = omega (arith, ap length c.self.view_is, length-bits_of s.bound s.words.items) in
    omega (arith, word_inside s.bound s.words.items _ c.args.id c.self.invariant below, length-filled s.bound s.words.items _ c.self.invariant)

pub invariant_of-self : goal.invariant_of-self
invariant_of-self g c =
    let s = c.self.inside in
    let below : c.args.id < s.bound = omega (arith, ap length c.self.view_is, length-bits_of s.bound s.words.items) in
    let inside = word_inside s.bound s.words.items _ c.args.id c.self.invariant below in
    let word_is = get_or_read s.words.items (c.args.id / 64) _ inside c.index.ensures 0 in
    let none_left : without_bit (get_or s.words.items (c.args.id / 64) 0) (c.args.id % 64) ≡ 0 = rw word_is at c.if-left-eq0.true in
    rw (word_is, c.remove.ensures) (level-emptied s.bound s.words.items _ c.args.id c.self.invariant below none_left)

pub invariant_of-self-else-left-eq0 : goal.invariant_of-self-else-left-eq0
invariant_of-self-else-left-eq0 g c =
    let s = c.self.inside in
    let below : c.args.id < s.bound = omega (arith, ap length c.self.view_is, length-bits_of s.bound s.words.items) in
    let inside = word_inside s.bound s.words.items _ c.args.id c.self.invariant below in
    let word_is = get_or_read s.words.items (c.args.id / 64) _ inside c.index.ensures 0 in
    let some_left : without_bit (get_or s.words.items (c.args.id / 64) 0) (c.args.id % 64) ≢ 0 = rw word_is at c.if-left-eq0.false in
    rw word_is (level-removed s.bound s.words.items _ c.args.id c.self.invariant below some_left)

pub returns-then-left-eq0 : goal.returns-then-left-eq0
returns-then-left-eq0 g c =
    let s = c.self.inside in
    let below : c.args.id < s.bound = omega (arith, ap length c.self.view_is, length-bits_of s.bound s.words.items) in
    let inside = word_inside s.bound s.words.items _ c.args.id c.self.invariant below in
    let word_is = get_or_read s.words.items (c.args.id / 64) _ inside c.index.ensures 0 in
    rw (word_is, ← c.self.view_is) (bits_of-written s.bound s.words.items c.args.id _ false (writes-without_bit s.words.items c.args.id inside))

pub returns-else-left-eq0 : goal.returns-else-left-eq0
returns-else-left-eq0 g c =
    let s = c.self.inside in
    let below : c.args.id < s.bound = omega (arith, ap length c.self.view_is, length-bits_of s.bound s.words.items) in
    let inside = word_inside s.bound s.words.items _ c.args.id c.self.invariant below in
    let word_is = get_or_read s.words.items (c.args.id / 64) _ inside c.index.ensures 0 in
    rw (word_is, ← c.self.view_is) (bits_of-written s.bound s.words.items c.args.id _ false (writes-without_bit s.words.items c.args.id inside))
