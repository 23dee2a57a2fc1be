-- The script that a drill runs: twelve lines that make its structures, and lines that are drawn.
use Rattle.std.specs.Prelude.{ℕ, zero, suc, ◌+◌, ◌*◌, ◌/◌, ◌%◌, ◌^◌, nat_eq, nat_le, if◌then◌else◌, List, [], ◌∷◌}
use Rattle.std.specs.Prelude.{◌++◌, codes, decimal}
use Rattle.std.specs.List.{flat_map}
use Rattle.far_drill.specs.declared.act.Act.{Act}
use Rattle.far_drill.specs.declared.act.Act.TheVariants.{Put, Get, Remove, Push, Pop, Append, Read, Report}
use Rattle.far_drill.specs.declared.act.Act.TheVariants.{Quantum, Balance, Now}

-- with a line end
abbrev pub ended : List ℕ → List ℕ
ended line = line ++ 10 ∷ []

-- ---- the lines that make a table, a queue and a file of each user
abbrev pub first_name : ℕ → List ℕ
first_name place =
    if nat_eq (place % 3) 0 then codes " t table 1000000"
    else if nat_eq (place % 3) 1 then codes " q queue 1000000"
    else codes " f file 1000000"

-- the line at this place, from 0: three lines for each user
unfoldable pub first_line : ℕ → List ℕ
first_line place = codes "make " ++ decimal (place / 3) ++ first_name place

-- so many of them, from this place on
unfoldable pub made_lines : ℕ → ℕ → List (List ℕ)
made_lines place zero = []
made_lines place (suc more) = first_line place ∷ made_lines (suc place) more

-- ---- the lines that are drawn
-- the generator, and the number that is drawn of its state
abbrev pub stepped : ℕ → ℕ
stepped state = (state * 6364136223846793005 + 1442695040888963407) % 2 ^ 64

abbrev pub drawn_of : ℕ → ℕ
drawn_of state = state / 2 ^ 33

-- the parts of a drawn number
abbrev pub user_of : ℕ → ℕ
user_of drawn = drawn % 4

abbrev pub rest_of : ℕ → ℕ
rest_of drawn = drawn / 64

abbrev pub act_at : ℕ → Act
act_at place =
    if nat_le place 4 then Put
    else if nat_le place 6 then Get
    else if nat_le place 7 then Remove
    else if nat_le place 8 then Push
    else if nat_le place 9 then Pop
    else if nat_le place 10 then Append
    else if nat_le place 11 then Read
    else if nat_le place 12 then Report
    else if nat_le place 13 then Quantum
    else if nat_le place 14 then Balance
    else Now

abbrev pub act_of : ℕ → Act
act_of drawn = act_at (drawn / 4 % 16)

-- a verb, the user, and what follows it
abbrev pub of_user : List ℕ → ℕ → List ℕ → List ℕ
of_user verb drawn name = verb ++ decimal (user_of drawn) ++ name

-- the number of a key
abbrev pub key_of : ℕ → List ℕ
key_of drawn = decimal (rest_of drawn % 500)

-- the line of an act, which is the drawn line with this number, from 1
abbrev pub act_line : Act → ℕ → ℕ → List ℕ
act_line Put number drawn = of_user (codes "put ") drawn (codes " t k") ++ key_of drawn ++ 32 ∷ decimal drawn
act_line Get number drawn = of_user (codes "get ") drawn (codes " t k") ++ key_of drawn
act_line Remove number drawn = of_user (codes "remove ") drawn (codes " t k") ++ key_of drawn
act_line Push number drawn = of_user (codes "push ") drawn (codes " q ") ++ decimal drawn
act_line Pop number drawn = of_user (codes "pop ") drawn (codes " q")
act_line Append number drawn = of_user (codes "append ") drawn (codes " f ") ++ decimal drawn
act_line Read number drawn =
    of_user (codes "read ") drawn (codes " f ") ++ decimal (rest_of drawn % 1000) ++ codes " 50"
act_line Report number drawn = of_user (codes "report ") drawn (codes " ") ++ decimal (rest_of drawn % 48)
act_line Quantum number drawn = codes "quantum"
act_line Balance number drawn = of_user (codes "balance ") drawn []
act_line Now number drawn = codes "now " ++ decimal number

abbrev pub drawn_line : ℕ → ℕ → List ℕ
drawn_line number drawn = act_line (act_of drawn) number drawn

-- so many lines, the first with the number after this one, of a generator in this state
unfoldable pub drawn_lines : ℕ → ℕ → ℕ → List (List ℕ)
drawn_lines state number zero = []
drawn_lines state number (suc more) =
    drawn_line (suc number) (drawn_of (stepped state)) ∷ drawn_lines (stepped state) (suc number) more

-- ---- the script
abbrev pub drill_lines : ℕ → ℕ → List (List ℕ)
drill_lines start size = made_lines 0 12 ++ drawn_lines start 0 size

abbrev pub text_of : List (List ℕ) → List ℕ
text_of lines = flat_map ended lines

unfoldable pub drill_text : ℕ → ℕ → List ℕ
drill_text start size = text_of (drill_lines start size)
