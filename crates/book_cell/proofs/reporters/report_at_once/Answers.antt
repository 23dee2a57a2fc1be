use Rattle.std.proofs.Common.{rules, ◌≡◌, ◌+◌, ◌-◌, ◌<◌, ◌^◌, [], ◌∷◌, ◌++◌, min, length, ap, sym, ◌∙◌, subst, arith}
use Rattle.turn_cell.specs.History.{In}
use Rattle.turn_cell.specs.Passes.{MakesAsks}
use Rattle.book_cell.specs.Reports.{book_ask, user_asks}
use Rattle.book_cell.proofs.Reporting.{asks_count}
use Rattle.book_cell.proofs.reporters.report_at_once.Goals as goal

pub returns-clause-alone : goal.returns-clause-alone
returns-clause-alone g c l i =
    let mine : MakesAsks book_ask c.in_ok-cell.first (user_asks 0 c.args.calls) c.join-first.result.0 = search rules in
    let theirs : MakesAsks book_ask c.in_ok-cell.second (user_asks 1 c.args.calls) c.join-first.result.1 = search rules in
    let first : c.join-first.result.0.names ≡ 0 ∷ [] = ap (λ p. p.names) mine.same ∙ ap (λ p. p.names) c.in_ok-cell.ensures.first in
    let second : c.join-first.result.1.names ≡ c.number-number.result ∷ [] = ap (λ p. p.names) theirs.same ∙ (ap (λ p. p.names) c.in_ok-cell.ensures.second ∙ ap (λ n. n ∷ []) (sym c.number-number.ensures.number)) in
    let names : c.join-last.result.names ≡ 0 ∷ c.number-number.result ∷ [] = ap (λ p. p.names) c.join-last.ensures.joined ∙ (λ k. first k ++ second k) in
    subst (In l.by) names (c.close-book.ensures.callers l i)

pub returns-clause-left : goal.returns-clause-left
returns-clause-left g c =
    let mine : MakesAsks book_ask c.in_ok-cell.first (user_asks 0 c.args.calls) c.join-first.result.0 = search rules in
    let theirs : MakesAsks book_ask c.in_ok-cell.second (user_asks 1 c.args.calls) c.join-first.result.1 = search rules in
    let first : c.join-first.result.0.left ≡ 4294967296 - length (user_asks 0 c.args.calls) = ap (λ p. p.left) mine.same ∙ ap (λ p. p.left - length (user_asks 0 c.args.calls)) c.in_ok-cell.ensures.first in
    let second : c.join-first.result.1.left ≡ 4294967296 - length (user_asks 1 c.args.calls) = ap (λ p. p.left) theirs.same ∙ ap (λ p. p.left - length (user_asks 1 c.args.calls)) c.in_ok-cell.ensures.second in
    let both : c.calls_left-calls_left.result ≡ min c.join-first.result.0.left c.join-first.result.1.left = c.calls_left-calls_left.ensures ∙ ap (λ p. p.left) c.join-last.ensures.joined in
    let firsts = asks_count 0 c.args.calls in
    let seconds = asks_count 1 c.args.calls in
    let few : c.args.calls < 2 ^ 32 = search rules in
    let all : c.calls_left-calls_left.result + c.args.calls ≡ 4294967296 = omega (arith, first, second, both, firsts, seconds, few) in
    all
