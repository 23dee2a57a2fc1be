use Rattle.std.proofs.Common.{◌≡◌, ◌+◌, ◌≤◌, ◌++◌, length, sym, ◌∙◌, ap, subst, arith}
use Rattle.std.specs.Prelude.{slice_range}
use Rattle.std.proofs.lemmas.List.{take_at}
use Rattle.far_io.specs.LineView.{LineView, IsSearched}
use Rattle.far_io.proofs.LineLaws.{searched_on}
use Rattle.far_io.proofs.Buffers.{part_kept, gains_piece}
use Rattle.far_io.proofs.lines.LineBuf.fill.Goals as goal

pub returns-in-Ok-clause-ahead : goal.returns-in-Ok-clause-ahead
returns-in-Ok-clause-ahead g c =
    let s = c.self.inside in
    let made = c.make_room-from in
    let moved : c.deref_mut-2.result.now ≡ made.new.bytes = c.deref_mut-2.ensures.value ∙ take_at made.new.bytes _ s.bytes.len (omega arith) in
    let old : slice_range c.deref_mut-2.result.now made.result.0 made.result.1 ≡ c.args.self.now.ahead =
    ap (λ bytes. slice_range bytes made.result.0 made.result.1) moved ∙ made.ensures.same ∙ ap (λ bytes. slice_range bytes s.from s.to) c.deref_mut.ensures.value ∙ ap (λ v. v.ahead) c.self.view_is in
    let fits : made.result.1 + c.in-Ok.count ≤ length c.take_at.new.bytes = omega (arith, c.in-Ok.ensures.room, made.ensures.room) in
    rw (take_at c.take_at.new.bytes _ s.bytes.len (omega arith), ← old)
    (gains_piece c.deref_mut-2.result.now c.take_at.new.bytes made.result.0 made.result.1 c.in-Ok.count _ _ c.in-Ok.ensures.front made.ensures.order fits c.in-Ok.ensures.bytes.0 c.in-Ok.ensures.bytes.1)

pub returns-in-Err-clause-ahead : goal.returns-in-Err-clause-ahead
returns-in-Err-clause-ahead g c =
    let s = c.self.inside in
    let made = c.make_room-from in
    let moved : c.deref_mut-2.result.now ≡ made.new.bytes = c.deref_mut-2.ensures.value ∙ take_at made.new.bytes _ s.bytes.len (omega arith) in
    let old : slice_range c.deref_mut-2.result.now made.result.0 made.result.1 ≡ c.args.self.now.ahead =
    ap (λ bytes. slice_range bytes made.result.0 made.result.1) moved ∙ made.ensures.same ∙ ap (λ bytes. slice_range bytes s.from s.to) c.deref_mut.ensures.value ∙ ap (λ v. v.ahead) c.self.view_is in (
      rw (take_at c.take_at.new.bytes _ s.bytes.len (omega arith)) (part_kept c.deref_mut-2.result.now c.take_at.new.bytes made.result.0 made.result.1 c.in-Err.ensures.front ∙ old),
      c.in-Err.ensures.bytes,
    )

pub invariant_of-self : goal.invariant_of-self
invariant_of-self g c =
    let s = c.self.inside in
    let inv = c.self.invariant in
    let made = c.make_room-from in
    let part = slice_range s.bytes.items s.from s.to in
    let moved : c.deref_mut-2.result.now ≡ made.new.bytes = c.deref_mut-2.ensures.value ∙ take_at made.new.bytes _ s.bytes.len (omega arith) in
    let old : slice_range c.deref_mut-2.result.now made.result.0 made.result.1 ≡ part =
    ap (λ bytes. slice_range bytes made.result.0 made.result.1) moved ∙ made.ensures.same ∙ ap (λ bytes. slice_range bytes s.from s.to) c.deref_mut.ensures.value in
    let fits : made.result.1 + c.in-Ok.count ≤ length c.take_at.new.bytes = omega (arith, c.in-Ok.ensures.room, made.ensures.room) in
    let gains = gains_piece c.deref_mut-2.result.now c.take_at.new.bytes made.result.0 made.result.1 c.in-Ok.count _ _ c.in-Ok.ensures.front made.ensures.order fits c.in-Ok.ensures.bytes.0 c.in-Ok.ensures.bytes.1 in
    let ended : s.ended ≡ c.args.self.now.ended = ap (λ (v : LineView). v.ended) c.self.view_is in (
      omega (arith, made.ensures.order),
      omega (arith, fits),
      omega arith,
      omega arith,
      inv.4,
      λ over. absurd (cc (ended, c.requires.going, over)),
      rw (take_at c.take_at.new.bytes _ s.bytes.len (omega arith)) (searched_on s.searched part gains.piece _ (gains.grows ∙ ap (λ front. front ++ gains.piece) old) inv.6),
    )

pub invariant_of-self-in-Err : goal.invariant_of-self-in-Err
invariant_of-self-in-Err g c =
    let s = c.self.inside in
    let inv = c.self.invariant in
    let made = c.make_room-from in
    let part = slice_range s.bytes.items s.from s.to in
    let moved : c.deref_mut-2.result.now ≡ made.new.bytes = c.deref_mut-2.ensures.value ∙ take_at made.new.bytes _ s.bytes.len (omega arith) in
    let old : slice_range c.deref_mut-2.result.now made.result.0 made.result.1 ≡ part =
    ap (λ bytes. slice_range bytes made.result.0 made.result.1) moved ∙ made.ensures.same ∙ ap (λ bytes. slice_range bytes s.from s.to) c.deref_mut.ensures.value in
    let ended : s.ended ≡ c.args.self.now.ended = ap (λ (v : LineView). v.ended) c.self.view_is in (
      made.ensures.order,
      omega (arith, made.ensures.room),
      omega arith,
      omega arith,
      inv.4,
      λ over. absurd (cc (ended, c.requires.going, over)),
      rw (take_at c.take_at.new.bytes _ s.bytes.len (omega arith))
          (subst (IsSearched s.searched) (sym (part_kept c.deref_mut-2.result.now c.take_at.new.bytes made.result.0 made.result.1 c.in-Err.ensures.front ∙ old)) inv.6),
    )
