-- What users ask of a book.
use Rattle.std.specs.Prelude.{ℕ, ◌%◌, ◌==◌, if◌then◌else◌, List, map}
use Rattle.std.specs.List.{range_with_len}
use Rattle.demand_book.specs.declared.as_object.BookAsk.{BookAsk}
use Rattle.demand_book.specs.declared.as_object.BookAsk.TheVariants.{Report, Join, Leave}
use Rattle.demand_book.specs.declared.as_object.BookEntry.{BookEntry}

abbrev pub book_ask : BookEntry → BookAsk
book_ask e = e.ask

-- a user's call with this number: in turn it joins with one slice, leaves, and reports the number as its demand
abbrev pub nth_ask : ℕ → ℕ → BookAsk
nth_ask user number = if number % 3 == 0 then Report user number else (if number % 3 == 1 then Join user 1 0 else Leave user)

-- a user's calls from 1 up to this one
abbrev pub user_asks : ℕ → ℕ → List BookAsk
user_asks user most = map (nth_ask user) (range_with_len 1 most)
