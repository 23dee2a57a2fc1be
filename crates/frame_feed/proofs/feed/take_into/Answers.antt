use Rattle.std.proofs.Common.{◌≡◌, ◌-◌, ◌<◌, length, drop, ap, arith}
use Rattle.std.proofs.lemmas.List.{length-drop, length-take}
use Rattle.frame_feed.proofs.Taken.{taken_into}
use Rattle.frame_feed.proofs.feed.take_into.Goals as goal

pub returns-in-Ok-clause-bytes : goal.returns-in-Ok-clause-bytes
returns-in-Ok-clause-bytes g c =
    let b = c.in-Ok.ensures.bytes in
    let slice = c.as_mut_slice.result.now in
    let len = c.len-len.result in
    let l : length c.take.new.out ≡ length slice - len = omega (
      arith,
      c.take.auto.out,
      length-take
          (length slice - len) (drop len slice),
      length-drop len slice,
    ) in
    let same : length slice ≡ length c.advance_mut.new.self.items = ap length c.as_mut_slice.ensures.value in
    let some : 0 < length c.take.new.out = omega (
      arith,
      l,
      same,
      c.advance_mut.ensures.len,
      c.capacity.ensures,
      c.requires,
      c.len-len.ensures.value,
    ) in
    taken_into c.args.bytes.now.items c.advance_mut.new.self.items slice c.take.new.out c.truncate.new.self.items len
    c.in-Ok.count (g.S.Source.left c.args.source.now) (g.S.Source.left c.take.new.self)
    c.len-len.ensures.value c.advance_mut.ensures.front (omega (arith, c.advance_mut.ensures.len))
    c.as_mut_slice.ensures.value l c.in-Ok.ensures.bound.0 c.truncate.ensures.items some b.0 b.1
