use Rattle.std.proofs.Common.{◌≡◌, take, vec_capacity}
use Rattle.far_words.proofs.moves.Moves.set_freed.Given as goal

abbrev pub invariant-loop-slice : goal.invariant-loop-slice
invariant-loop-slice l = record {
  noted : l.self-inside.freed.items ≡ take l.slice-index l.slices;
  room : vec_capacity l.self-inside.freed ≡ vec_capacity l.initial.self-inside.freed;
  placed : l.self-inside.placed ≡ l.initial.self-inside.placed;
}
