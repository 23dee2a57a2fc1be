use Rattle.std.proofs.Common.{◌≡◌, ℕ, ◌-◌, ◌≤◌, List, ◌++◌, length, take, drop, sym, ◌∙◌, ap, subst, arith}
use Rattle.std.proofs.lemmas.List.{take-append-le, take_all, length-append, length-take, length-drop, take_rest}
use Rattle.far_drill.specs.Source.{DrillSourceView}
use Rattle.far_drill.proofs.Taken.{IsReady, ready_next, ready_still, takes_line}
use Rattle.far_drill.proofs.source.DrillSourceSource.take.Goals.{then-self-bytes, else-self-bytes}
use Rattle.far_drill.proofs.source.DrillSourceSource.take.Goals as goal

pub returns-clause-bytes : goal.returns-clause-bytes
returns-clause-bytes c =
    let inside = c.if-self-bytes.self-inside in
    let left = c.args.self.now.left in
    let count = c.min-count.result in
    let out = c.args.out.now in
    let copied = c.copy_from_slice.new.self in
    let whole = sym (ap (λ (v : DrillSourceView). v.left) c.self.view_is) in
    let ready : IsReady left inside = elim c.if-self-bytes.branch [
      | then-self-bytes w ↦ subst (IsReady left) (sym w.self-inside-is)
          (ready_next left _ _ c.self.inside whole (omega (arith, w.if-self-bytes.true, ap length c.bytes.ensures)) w.push_next.ensures.text w.push_next.ensures.end)
      | else-self-bytes w ↦ subst (IsReady left) (sym w.self-inside-is)
          (ready_still left c.self.inside whole (omega (arith, w.if-self-bytes.false, ap length c.bytes.ensures, c.self.invariant.0)))
    ] in
    let bytes = c.bytes-2.result.now in
    let waits : take (length bytes - inside.at) (drop inside.at bytes) ≡ drop inside.at inside.piece =
    take_rest bytes inside.at ∙ ap (λ (piece : List ℕ). drop inside.at piece) c.bytes-2.ensures in
    let long : count ≤ length out = omega (arith, c.min-count.ensures) in
    let filled : length copied ≡ count = omega (arith, c.copy_from_slice.ensures.len, length-take count out, long) in
    let room : length (copied ++ drop count out) ≡ length out = omega (arith, length-append copied (drop count out), length-drop count out, filled, long) in
    takes_line left _ inside count ready (omega (arith, c.min-count.ensures, ap length waits, room))
    (take-append-le count copied (drop count out) (omega (arith, filled)) ∙ take_all count copied (omega (arith, filled)) ∙ c.copy_from_slice.ensures.after ∙ ap (take count) waits)
