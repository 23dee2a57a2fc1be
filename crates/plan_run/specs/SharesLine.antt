-- What an audit reads of a line of shares.
use Rattle.std.specs.Prelude.{ℕ, ◌*◌, ◌==◌, nat_eq, nat_le, Bool, true, false, not, ◌&&◌, if◌then◌else◌, List, [], ◌∷◌, length, map, drop, Some, None, codes}
use Rattle.std.specs.declared.option.Option.{Option}
use Rattle.std.specs.Cmp.Lexicographic.{pointwise}
use Rattle.std.specs.List.{list_all, sum_by}
use Rattle.std.specs.Str.{bytes_eq}
use Rattle.far_io.specs.Decimals.{value_of}
use Rattle.far_io.specs.Words.{words_of}
use Rattle.karma_rule.specs.declared.limits.TheConstants.{MOST_FAIR}
use Rattle.karma_rule.specs.declared.row.Share.{Share}
use Rattle.karma_rule.specs.declared.shape.Shape.{Shape}
use Rattle.demand_book.specs.Roster.{fair_of_seat}
use Rattle.quantum_text.specs.Shares.{shares_text}
use Rattle.run_end.specs.declared.TheConstants.{MOST_LINE}

-- ---- rosters
abbrev pub same_seat : Option Share → Option Share → Bool
same_seat None None = true
same_seat None (Some share) = false
same_seat (Some share) None = false
same_seat (Some share) (Some other) = share.fair == other.fair && share.floor == other.floor

-- every user is present with the same share in both, or away in both
abbrev pub same_roster : List (Option Share) → List (Option Share) → Bool
same_roster roster other = pointwise same_seat roster other

-- within the limits of a share
abbrev pub is_seat : Option Share → Bool
is_seat None = true
is_seat (Some share) = nat_le 1 share.fair && nat_le share.fair MOST_FAIR && nat_le share.floor share.fair

-- a block may have this roster: it has a seat for each user, and its fair shares are together no more than there are slices
abbrev pub is_roster : Shape → List (Option Share) → Bool
is_roster shape roster = nat_eq (length roster) shape.users && list_all is_seat roster && nat_le (sum_by fair_of_seat roster) (shape.users * shape.share.fair)

-- ---- the roster that a line spells
abbrev pub before_colon : List ℕ → List ℕ
before_colon [] = []
before_colon (byte ∷ bytes) = if byte == 58 then [] else byte ∷ before_colon bytes

abbrev pub after_colon : List ℕ → List ℕ
after_colon [] = []
after_colon (byte ∷ bytes) = if byte == 58 then bytes else after_colon bytes

-- a dash is no share, and any other word is a fair share and a floor with a colon between
abbrev pub seat_read : List ℕ → Option Share
seat_read word = if bytes_eq word (codes "-") then None else Some (record { fair = value_of (before_colon word); floor = value_of (after_colon word) })

-- the roster that the words spell, where they make the line again, and it is another one than that of the block before
abbrev pub roster_read : Shape → List (Option Share) → List ℕ → Option (List (Option Share))
roster_read shape before line =
    let roster = map seat_read (drop 1 (words_of line)) in
    if bytes_eq line (shares_text roster) && is_roster shape roster && not (same_roster roster before) then Some roster else None

-- no line is longer than the limit
abbrev pub roster_of_line : Shape → List (Option Share) → List ℕ → Option (List (Option Share))
roster_of_line shape before line = if nat_le (length line) MOST_LINE then roster_read shape before line else None
