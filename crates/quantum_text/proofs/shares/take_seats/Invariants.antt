use Rattle.std.proofs.Common.{◌≡◌, List, Option, length, map, take}
use Rattle.std.specs.Prelude.{All}
use Rattle.std.specs.Option.{option_copied}
use Rattle.far_io.specs.Words.{words_after}
use Rattle.karma_rule.specs.declared.row.Share.{Share}
use Rattle.demand_book.specs.Roster.{seat_of}
use Rattle.quantum_text.specs.LineKind.{without_seat}
use Rattle.quantum_text.specs.Shares.{seat_word, IsSeat, AreSeats, IsSeated}
use Rattle.quantum_text.proofs.Items.{Due}
use Rattle.quantum_text.proofs.shares.take_seats.Given as goal

abbrev pub invariant-loop-row : goal.invariant-loop-row
invariant-loop-row l = record {
  due : Due seat_word IsSeat (length l.initial.rows) l.row-index (words_after (option_copied l.words)) (words_after (option_copied l.rest));
  taken : (seats : List (Option Share)) → AreSeats (length l.initial.rows) (words_after (option_copied l.words)) seats → take l.row-index (map seat_of l.rows) ≡ take l.row-index seats;
  seated : All IsSeated (take l.row-index l.rows);
  numbers : map without_seat l.rows ≡ map without_seat l.initial.rows;
}
