use Rattle.std.proofs.Common.{◌≡◌, ◌≤◌, length, take}
use Rattle.block_list.specs.Lists.{parked_of}
use Rattle.block_list.proofs.count_parked.Given as goal

abbrev pub invariant-loop-block : goal.invariant-loop-block
invariant-loop-block g l = record {
  counted : l.count ≡ length (parked_of l.home.seats.purse (take l.block-index l.blocks));
  few : l.count ≤ l.block-index;
}
