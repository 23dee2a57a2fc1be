use Rattle.block_queue.specs.Queues.{IsSound}
use Rattle.bench_home.proofs.queue.push_all.Given as goal

abbrev pub invariant-loop-call : goal.invariant-loop-call
invariant-loop-call g l = IsSound l.home.seats l.queue
