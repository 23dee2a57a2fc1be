use Rattle.std.proofs.Common.{rules, ◌≡◌, ◌+◌, ◌-◌, ◌<◌, ◌^◌, [], ◌∷◌, ◌++◌, min, length, ap, sym, ◌∙◌, subst, arith}
use Rattle.turn_cell.specs.History.{In, logged}
use Rattle.turn_cell.specs.Passes.{MakesAsks}
use Rattle.turn_cell.proofs.Callers.{in_more}
use Rattle.turn_till.specs.declared.till.TillAsk.TheVariants.{Empty}
use Rattle.turn_till.specs.declared.till.TillTell.TheVariants.{Emptied}
use Rattle.turn_till.specs.Days.{payments, owner_asks}
use Rattle.turn_till.specs.Rules.{till_ask, entry_of}
use Rattle.turn_till.proofs.Asked.{payments_count, owner_count}
use Rattle.turn_till.proofs.day.serve_two.Goals as goal

pub returns-clause-alone : goal.returns-clause-alone
returns-clause-alone g c l i =
    let mine : MakesAsks till_ask c.in_ok-cell.owner (owner_asks c.args.calls) c.join-owner.result.0.0 = search rules in
    let theirs : MakesAsks till_ask c.in_ok-cell.clerk (payments c.args.calls) c.join-owner.result.1 = search rules in
    let owner : c.join-owner.result.0.0.names ≡ 0 ∷ [] = ap (λ p. p.names) mine.same ∙ ap (λ p. p.names) c.in_ok-cell.ensures.first in
    let clerk : c.join-owner.result.1.names ≡ c.number-number.result ∷ [] = ap (λ p. p.names) theirs.same ∙ (ap (λ p. p.names) c.in_ok-cell.ensures.second ∙ ap (λ n. n ∷ []) (sym c.number-number.ensures.number)) in
    let names : c.join-last.result.names ≡ 0 ∷ c.number-number.result ∷ [] = ap (λ p. p.names) c.join-last.ensures.joined ∙ (λ k. owner k ++ clerk k) in
    subst (In l.by) names (c.close-shown.ensures.callers l i)

pub returns-clause-taken : goal.returns-clause-taken
returns-clause-taken g c =
    let taken : In (logged c.in_ok-cell.owner.number (entry_of Empty (Emptied c.join-owner.result.0.1))) c.join-owner.result.0.0.seen = search rules in
    let first : c.in_ok-cell.owner.number ≡ 0 = ap (λ p. p.number) c.in_ok-cell.ensures.first in
    let mine = subst (λ n. In (logged n (entry_of Empty (Emptied c.join-owner.result.0.1))) c.join-owner.result.0.0.seen) first taken in
    let all = in_more _ _ _ c.join-last.ensures.mine.begins mine in
    subst (In (logged 0 (entry_of Empty (Emptied c.join-owner.result.0.1)))) (sym c.close-shown.ensures.shows) all

pub returns-clause-left : goal.returns-clause-left
returns-clause-left g c =
    let mine : MakesAsks till_ask c.in_ok-cell.owner (owner_asks c.args.calls) c.join-owner.result.0.0 = search rules in
    let theirs : MakesAsks till_ask c.in_ok-cell.clerk (payments c.args.calls) c.join-owner.result.1 = search rules in
    let owner : c.join-owner.result.0.0.left ≡ 4294967296 - length (owner_asks c.args.calls) = ap (λ p. p.left) mine.same ∙ ap (λ p. p.left - length (owner_asks c.args.calls)) c.in_ok-cell.ensures.first in
    let clerk : c.join-owner.result.1.left ≡ 4294967296 - length (payments c.args.calls) = ap (λ p. p.left) theirs.same ∙ ap (λ p. p.left - length (payments c.args.calls)) c.in_ok-cell.ensures.second in
    let both : c.calls_left-calls_left.result ≡ min c.join-owner.result.0.0.left c.join-owner.result.1.left = c.calls_left-calls_left.ensures ∙ ap (λ p. p.left) c.join-last.ensures.joined in
    let owners = owner_count c.args.calls c.requires in
    let clerks = payments_count c.args.calls in
    let few : c.args.calls < 2 ^ 32 = search rules in
    let all : c.calls_left-calls_left.result + c.args.calls ≡ 4294967296 = omega (arith, owner, clerk, both, owners, clerks, few) in
    all
