use Rattle.block_file.specs.Files.{IsSound}
use Rattle.bench_home.proofs.file.append_all.Given as goal

abbrev pub invariant-loop-call : goal.invariant-loop-call
invariant-loop-call g l = IsSound l.home.seats l.file
