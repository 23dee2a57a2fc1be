use Rattle.std.specs.Fmt.{decimal}
use Rattle.quantum_text.proofs.Items.{seen_more, due_nothing, due_more, due_end}
use Rattle.quantum_text.proofs.Numbers.{IsMost}
use Rattle.quantum_text.proofs.Words.{some_after}
use Rattle.quantum_text.proofs.parse.are_numbers.Goals as goal

pub returns-in-None-clause-none : goal.returns-in-None-clause-none
returns-in-None-clause-none c =
    due_nothing decimal (IsMost c.args.limit) 0 c.args.count c.loop-index._index _ _ c.loop-index.invariant.due c.loop-index-test.true c.in-None.ensures.nothing

pub loop-index-preserved : goal.loop-index-preserved
loop-index-preserved c = record {
  seen = seen_more decimal (IsMost c.args.limit) c.loop-index._index _ _ _ c.in-Some.field-0-0 c.loop-index.invariant.seen c.in-Some.ensures.number c.in-Some.ensures.within;
  due = due_more decimal (IsMost c.args.limit) 0 c.args.count c.loop-index._index _ _ _ c.in-Some.field-0-0 c.loop-index.invariant.due c.loop-index-test.true c.in-Some.ensures.number;
}

pub returns-clause-none : goal.returns-clause-none
returns-clause-none c =
    some_after c.loop-index.rest c.is_none.result _ c.is_none.ensures
    (λ numbers are. due_end decimal (IsMost c.args.limit) c.args.count c.loop-index._index _ _ c.loop-index.invariant.due c.loop-index-test.false numbers are)
