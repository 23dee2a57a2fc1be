use Rattle.std.proofs.Common.{◌≡◌, take, vec_len, vec_capacity}
use Rattle.block_queue.specs.Queues.{numbers_of}
use Rattle.block_queue.proofs.marks.list_numbers.Given as goal

abbrev pub invariant-loop-index : goal.invariant-loop-index
invariant-loop-index l = record {
  numbers : l.numbers.items ≡ numbers_of (take l.index l.marks.items);
  long : vec_len l.numbers ≡ l.index;
  room : vec_capacity l.numbers ≡ vec_capacity l.initial.numbers;
}
