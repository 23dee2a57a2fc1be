use Rattle.std.proofs.Common.{◌≡◌, ℕ, ◌+◌, ◌-◌, List, ◌++◌, length, take, drop, sym, ◌∙◌, ap, append-nil, take-add, arith}
use Rattle.std.proofs.lemmas.List.{take_rest, length-take, length-drop}
use Rattle.far_io.proofs.Adds.{adds_more, adds_equal}
use Rattle.far_io.proofs.Faults.{follows_on}
use Rattle.far_io.proofs.put.give_most.Goals as goal

piece_done : (bytes : List ℕ) (done count : ℕ) → take done bytes ++ take count (take (length bytes - done) (drop done bytes)) ≡ take (done + count) bytes
piece_done bytes done count = ap (λ rest. take done bytes ++ take count rest) (take_rest bytes done) ∙ sym (take-add done count bytes)

pub loop-done-preserved : goal.loop-done-preserved
loop-done-preserved g c =
    let all = c.loop-done.invariant in
    let got = c.in-Ok.ensures in
    let bytes = c.args.bytes.now in
    record {
      adds = adds_equal g.O.Sink.took _ _ _ _ (piece_done bytes c.loop-done.done c.in-Ok.count) (adds_more g.O.Sink.took _ _ _ _ _ all.adds got.bytes);
      within = omega (arith, got.bound.most, length-take (length bytes - c.loop-done.done) (drop c.loop-done.done bytes), length-drop c.loop-done.done bytes);
      still = λ none. absurd (omega (arith, ap (λ (b : List ℕ). length b) none));
      faults = follows_on _ _ _ all.faults got.cause.follows;
    }

pub returns-in-Err-clause-bytes : goal.returns-in-Err-clause-bytes
returns-in-Err-clause-bytes g c =
    let front = take c.loop-done.done c.args.bytes.now in
    adds_equal g.O.Sink.took _ _ _ _ (append-nil front) (adds_more g.O.Sink.took _ _ _ _ _ c.loop-done.invariant.adds c.in-Err.ensures.bytes)
