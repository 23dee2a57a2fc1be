use Rattle.std.proofs.Common.{◌≡◌, length, ◌∙◌, ap}
use Rattle.std.specs.Prelude.{slice_range}
use Rattle.far_io.specs.Lines.{line_of}
use Rattle.far_io.proofs.LineLaws.{searched_to_end}
use Rattle.far_io.proofs.lines.LineBuf.end_ahead.Goals as goal

pub invariant_of-self : goal.invariant_of-self
invariant_of-self c =
    let s = c.self.inside in
    let inv = c.self.invariant in
    let end : c.find_end-end.result ≡ length (line_of (slice_range s.bytes.items s.from s.to)) =
    c.find_end-end.ensures ∙ ap (λ bytes. length (line_of (slice_range bytes s.from s.to))) c.deref.ensures.value in
    (inv.0, inv.1, inv.2, inv.3, inv.4, inv.5, searched_to_end _ _ end)
