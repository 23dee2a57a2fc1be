use Rattle.std.proofs.Common.{◌+◌, ◌≤◌, length, refl, ap, arith}
use Rattle.far_io.proofs.Buffers.{part_front, part_rest, length_part}
use Rattle.far_io.proofs.LineLaws.{searched_none}
use Rattle.far_io.proofs.lines.LineBuf.cut.Goals as goal

pub returns : goal.returns
returns c =
    let s = c.self.inside in
    let long = ap (λ v. length v.ahead) c.self.view_is in
    let fits : s.from + c.args.rest ≤ s.to = omega (arith, length_part s.bytes.items s.from s.to, long) in
    rw (← c.self.view_is, part_front s.bytes.items s.from s.to c.args.end (omega arith), part_rest s.bytes.items s.from s.to c.args.rest fits, c.saturating_add-self-inside.ensures) refl

pub invariant_of-self : goal.invariant_of-self
invariant_of-self c =
    let s = c.self.inside in
    let inv = c.self.invariant in
    let long = ap (λ v. length v.ahead) c.self.view_is in
    let fits : s.from + c.args.rest ≤ s.to = omega (arith, length_part s.bytes.items s.from s.to, long) in
    (fits, inv.1, omega arith, omega arith, inv.4, λ over. let met = inv.5 over in omega arith, searched_none _)
