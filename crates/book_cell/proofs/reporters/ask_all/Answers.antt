use Rattle.std.proofs.Common.{rules, ◌+◌, ◌<◌, [], ◌∷◌, ap, subst, arith}
use Rattle.turn_cell.specs.Passes.{MakesAsks}
use Rattle.book_cell.specs.Reports.{book_ask, nth_ask}
use Rattle.book_cell.proofs.Reporting.{asks_one_more, asks_count}
use Rattle.book_cell.proofs.reporters.ask_all.Goals as goal

pub ask_once-requires-clause-left : goal.ask_once-requires-clause-left
ask_once-requires-clause-left g c =
    let left = ap (λ p. p.left) c.loop-before.invariant.same in
    let made = asks_count c.args.user c.loop-before.before in
    let more : c.loop-before.before < c.args.most = search rules in
    let enough = c.requires.left in
    omega (arith, left, made, more, enough)

pub loop-before-preserved : goal.loop-before-preserved
loop-before-preserved g c =
    let last : MakesAsks book_ask c.loop-before.pass (nth_ask c.args.user (c.loop-before.before + 1) ∷ []) c.ask_once.new.pass = subst (λ n. MakesAsks book_ask c.loop-before.pass (nth_ask c.args.user (n + 1) ∷ []) c.ask_once.new.pass) c.from.ensures c.ask_once.ensures.asks in
    asks_one_more _ _ _ c.args.user c.loop-before.before c.loop-before.invariant last
