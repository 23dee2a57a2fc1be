use Rattle.std.proofs.Common.{◌≡◌, ℕ, ◌-◌, ◌++◌, length, get_or, replicate, ap, ◌∙◌, arith}
use Rattle.std.proofs.lemmas.List.Sums.{sum_by_more}
use Rattle.std.specs.List.{range_with_len, flat_map}
use Rattle.block_pool.specs.declared.due.DueMove.TheVariants.{Yield}
use Rattle.block_pool.specs.Dues.{yields_of, yields_due}
use Rattle.block_pool.proofs.Putting.{put_more}
use Rattle.block_pool.proofs.due.put_yields.Goals as goal

pub loop-user-preserved : goal.loop-user-preserved
loop-user-preserved c =
    let held = c.args.held.now in
    let given = c.args.given.now in
    let user : ℕ = c.loop-user.user in
    let more : c.saturating_sub-more.result ≡ get_or held user 0 - get_or given user 0 = c.saturating_sub-more.ensures ∙ ap (λ n. n - get_or given user 0) c.from.ensures in
    record {
      put = put_more (yields_of held given) c.args.moves.now.items c.loop-user.moves.items c.put.new.moves.items user c.loop-user.invariant.put
          (c.put.ensures.moves ∙ ap (λ n. c.loop-user.moves.items ++ replicate n (Yield user)) more);
      most = omega (arith, more, c.put.ensures.count, c.loop-user.invariant.most, sum_by_more (λ n. n) held user 0 c.loop-user-test.true);
      room = c.put.ensures.room ∙ c.loop-user.invariant.room;
    }

pub returns-clause-moves : goal.returns-clause-moves
unfolding yields_due
returns-clause-moves c =
    let all : c.loop-user.user ≡ length c.args.held.now = omega arith in
    c.loop-user.invariant.put ∙ ap (λ n. c.args.moves.now.items ++ flat_map (yields_of c.args.held.now c.args.given.now) (range_with_len 0 n)) all
