-- A user's calls, one by one.
use Rattle.std.proofs.Common.{◌≡◌, ℕ, ◌+◌, List, [], ◌∷◌, length, sym, subst, arith}
use Rattle.std.proofs.lemmas.List.FromFn.{map-range_with_len_more, length-map-range_with_len}
use Rattle.turn_cell.specs.Passes.{PassView, MakesAsks}
use Rattle.turn_cell.proofs.Callers.{asks_more}
use Rattle.karma_rule.specs.declared.shape.Shape.{Shape}
use Rattle.demand_book.specs.declared.as_object.BookAsk.{BookAsk}
use Rattle.demand_book.specs.declared.as_object.BookEntry.{BookEntry}
use Rattle.book_cell.specs.Reports.{book_ask, nth_ask, user_asks}

abbrev BookPass : Type 0
BookPass = PassView BookEntry Shape

-- one call more
pub asks_one_more : (p q r : BookPass) (user n : ℕ) → MakesAsks book_ask p (user_asks user n) q → MakesAsks book_ask q (nth_ask user (n + 1) ∷ []) r → MakesAsks book_ask p (user_asks user (n + 1)) r
asks_one_more p q r user n first last =
    subst (λ (asks : List BookAsk). MakesAsks book_ask p asks r) (sym (map-range_with_len_more (nth_ask user) 1 n (n + 1) (omega arith)))
    (asks_more book_ask p q r (user_asks user n) (nth_ask user (n + 1) ∷ []) first last)

pub asks_count : (user n : ℕ) → length (user_asks user n) ≡ n
asks_count user n = length-map-range_with_len (nth_ask user) 1 n
