-- What `plan` writes for the lines of its input, and how it ends.
use Rattle.std.specs.Prelude.{ℕ, false, ◌+◌, nat_le, ◌&&◌, if◌then◌else◌, List, [], ◌∷◌, length, Some, None, decimal}
use Rattle.std.specs.declared.option.Option.{Option}
use Rattle.std.specs.Option.{option_and_then, option_map}
use Rattle.std.specs.Str.{bytes_eq}
use Rattle.far_io.specs.Decimals.{value_of}
use Rattle.far_io.specs.Words.{words_of}
use Rattle.karma_rule.specs.declared.row.Row.{Row}
use Rattle.karma_rule.specs.declared.shape.Shape.{Shape}
use Rattle.demand_book.specs.Book.{BookView, opening_book, demanding, ticked}
use Rattle.quantum_text.specs.Block.{report_text}
use Rattle.run_end.specs.declared.TheConstants.{MOST_LINE}
use Rattle.run_end.specs.declared.status.Status.TheVariants.{Done, BadLine, Spent}
use Rattle.run_end.specs.LastLines.{bad_line, spent_line}
use Rattle.demand_book.specs.declared.book.TheConstants.{QUANTA}
use Rattle.karma_rule.specs.declared.limits.TheConstants.{MOST_DEMAND}
use Rattle.plan_run.specs.Ending.{Ending, ends_as, ends_at, after_text}

-- the demand that a word spells: a decimal of at most MOST_DEMAND
abbrev pub demand_of_word : List ℕ → Option ℕ
demand_of_word word = if bytes_eq word (decimal (value_of word)) && nat_le (value_of word) MOST_DEMAND then Some (value_of word) else None

-- The rows, each with the demand that its user's word spells. None where a word spells none, and where the words are more or fewer than the users.
unfoldable pub rows_of_words : List (List ℕ) → List Row → Option (List Row)
rows_of_words [] [] = Some []
rows_of_words [] (row ∷ rows) = None
rows_of_words (word ∷ words) [] = None
rows_of_words (word ∷ words) (row ∷ rows) =
    option_and_then (λ demand. option_map (λ others. demanding demand row ∷ others) (rows_of_words words rows)) (demand_of_word word)

-- no line is longer than the limit
abbrev pub rows_of_line : List Row → List ℕ → Option (List Row)
rows_of_line rows line = if nat_le (length line) MOST_LINE then rows_of_words (words_of line) rows else None

-- one line: a bad one, one for which no quantum is left, or a quantum and what comes after it
abbrev pub line_end : BookView → Option (List Row) → (BookView → Ending) → Ending
line_end book None others = record { text = bad_line (book.quanta + 1); end = ends_at BadLine (book.quanta + 1) }
line_end book (Some rows) others =
    if nat_le QUANTA book.quanta
    then record { text = spent_line; end = ends_as Spent }
    else (let next = ticked (record book { rows = rows }) in after_text (report_text (record { quantum = book.quanta; rows = next.rows; changed = false })) (others next))

-- what comes of a line, over what comes of the lines after it
abbrev pub plan_one : BookView → List ℕ → (BookView → Ending) → Ending
plan_one book line others = line_end book (rows_of_line book.rows line) others

-- of the end of the input
abbrev pub plan_over : BookView → Ending
plan_over book = record { text = []; end = ends_as Done }

unfoldable pub plan_end : BookView → List (List ℕ) → Ending
plan_end book [] = plan_over book
plan_end book (line ∷ lines) = plan_one book line (λ next. plan_end next lines)

-- over the lines of an input, from the opening credits
abbrev pub planned : Shape → List (List ℕ) → Ending
planned shape lines = plan_end (opening_book shape) lines
