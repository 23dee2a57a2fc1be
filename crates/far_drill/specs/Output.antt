-- What a summary counts of the output of a replay: lines by their first words.
use Rattle.std.specs.Prelude.{ℕ, ◌+◌, ◌-◌, ◌^◌, min, if◌then◌else◌, Bool, List, [], ◌∷◌, codes}
use Rattle.std.specs.List.{list_any, count_by}
use Rattle.std.specs.Str.{bytes_eq}
use Rattle.far_io.specs.Lines.{ended_lines_of}
use Rattle.far_io.specs.Words.{words_of}

abbrev pub first_of : List (List ℕ) → List ℕ
first_of [] = []
first_of (word ∷ words) = word

-- the bytes before a line's first space
abbrev pub first_word : List ℕ → List ℕ
first_word line = first_of (words_of line)

-- the words of refusals
abbrev pub refusal_words : List (List ℕ)
refusal_words =
    codes "toolong" ∷ codes "full" ∷ codes "toomuch" ∷ codes "absent" ∷ codes "wrongkind" ∷ codes "exists"
    ∷ codes "exhausted" ∷ codes "noroom" ∷ codes "storefault" ∷ codes "damaged" ∷ codes "stale" ∷ codes "absentuser"
    ∷ codes "handempty" ∷ codes "poolempty" ∷ []

-- A line that tells the refusal of a script's line. Within a quantum an outcome stands after `expire`, `yield` or
-- `grant` and its user, so that it isn't one.
abbrev pub is_refusal : List ℕ → Bool
is_refusal line = list_any (bytes_eq (first_word line)) refusal_words

-- a line with which the block of a quantum begins
abbrev pub is_quantum : List ℕ → Bool
is_quantum line = bytes_eq (first_word line) (codes "quantum")

-- how many lines of an output are such; a line is one where its line end is there
abbrev pub refusals_in : List ℕ → ℕ
refusals_in output = count_by is_refusal (ended_lines_of output)

abbrev pub quanta_in : List ℕ → ℕ
quanta_in output = count_by is_quantum (ended_lines_of output)

-- a count stands still at the greatest u64
abbrev pub told : ℕ → ℕ
told count = min count (2 ^ 64 - 1)

-- one more, where there is one
abbrev pub counted_if : Bool → ℕ → ℕ
counted_if is_more count = if is_more then told (count + 1) else count
