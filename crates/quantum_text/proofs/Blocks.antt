-- The lines of one block: which may come after which, and what a block is read as.
use Rattle.std.proofs.Common.{◌≡◌, ◌≢◌, ℕ, ◌+◌, ◌-◌, ◌^◌, min, Bool, true, false, List, [], ◌∷◌, ◌++◌, length, Option, Result, Ok, Err, refl, sym, subst, arith}
use Rattle.std.proofs.lemmas.List.Elements.{All-nil, All-from_recursion}
use Rattle.far_io.specs.Faults.{one_more}
use Rattle.karma_rule.specs.declared.shape.Shape.{Shape}
use Rattle.demand_book.specs.declared.report.Report.{Report}
use Rattle.quantum_text.specs.declared.line_kind.LineKind.TheVariants.{Quantum, Demand, Slices, Credits}
use Rattle.quantum_text.specs.declared.read.ReportTextEnd.{ReportTextEnd}
use Rattle.quantum_text.specs.declared.read.ReportTextEnd.TheVariants.{End, BadLine, ReadFault}
use Rattle.quantum_text.specs.Block.{BlockLine, Roster, Numbers, block_lines}
use Rattle.quantum_text.specs.Reading.{MayFollow, first_lines, second_line, IsSecond, ReadsLines, ReadsTo, ReadsBlock, ReadsOne, ReadsNone, ReadsKind}
use Rattle.quantum_text.proofs.NextLine.{not_second}
use Rattle.quantum_text.proofs.BlockLines.{IsNew, lines_none, lines_more, lines_end}

-- ---- which line may come next
abbrev pub OnlyNext : List BlockLine → (BlockLine → Type 0) → Type 0
OnlyNext lines due = (next : BlockLine) → MayFollow lines next → due next × IsNew lines next

abbrev pub slices_lines : Bool → List BlockLine
slices_lines told = first_lines told ++ Numbers Slices ∷ []

first_is : (told : Bool) (next : BlockLine) (others : List BlockLine) → block_lines told ≡ next ∷ others → next ≡ Numbers Quantum
first_is true next others order = cc
first_is false next others order = cc

second_is : (told : Bool) (first next : BlockLine) (others : List BlockLine) → block_lines told ≡ first ∷ next ∷ others → next ≡ second_line told
second_is true first next others order = cc
second_is false first next others order = cc

third_is : (told : Bool) (next : BlockLine) (others : List BlockLine) → block_lines told ≡ Numbers Quantum ∷ Roster ∷ next ∷ others → next ≡ Numbers Demand
third_is true next others order = cc
third_is false next others order = cc

slices_is : (read told : Bool) (next : BlockLine) (others : List BlockLine) → block_lines told ≡ first_lines read ++ next ∷ others → next ≡ Numbers Slices
slices_is true true next others order = cc
slices_is true false next others order = cc
slices_is false true next others order = cc
slices_is false false next others order = cc

credits_is : (read told : Bool) (next : BlockLine) (others : List BlockLine) → block_lines told ≡ slices_lines read ++ next ∷ others → next ≡ Numbers Credits
credits_is true true next others order = cc
credits_is true false next others order = cc
credits_is false true next others order = cc
credits_is false false next others order = cc

new_second : (told : Bool) → IsNew (Numbers Quantum ∷ []) (second_line told)
new_second told = All-from_recursion (λ read. second_line told ≢ read) (Numbers Quantum ∷ []) (λ e. not_second told (sym e), tt)

new_demand : IsNew (Numbers Quantum ∷ Roster ∷ []) (Numbers Demand)
new_demand = All-from_recursion (λ read. Numbers Demand ≢ read) (Numbers Quantum ∷ Roster ∷ []) (λ e. cc, (λ e. cc, tt))

pub new_slices : (told : Bool) → IsNew (first_lines told) (Numbers Slices)
new_slices true = All-from_recursion (λ read. Numbers Slices ≢ read) (first_lines true) (λ e. cc, (λ e. cc, (λ e. cc, tt)))
new_slices false = All-from_recursion (λ read. Numbers Slices ≢ read) (first_lines false) (λ e. cc, (λ e. cc, tt))

pub new_credits : (told : Bool) → IsNew (slices_lines told) (Numbers Credits)
new_credits true = All-from_recursion (λ read. Numbers Credits ≢ read) (slices_lines true) (λ e. cc, (λ e. cc, (λ e. cc, (λ e. cc, tt))))
new_credits false = All-from_recursion (λ read. Numbers Credits ≢ read) (slices_lines false) (λ e. cc, (λ e. cc, (λ e. cc, tt)))

only_first : OnlyNext [] (λ line. line ≡ Numbers Quantum)
only_first next may = (first_is may.told next may.others may.order, All-nil (λ read. next ≢ read))

only_second : OnlyNext (Numbers Quantum ∷ []) IsSecond
only_second next may =
    let is = second_is may.told (Numbers Quantum) next may.others may.order in
    ((may.told, is), subst (IsNew (Numbers Quantum ∷ [])) (sym is) (new_second may.told))

only_demand : OnlyNext (Numbers Quantum ∷ Roster ∷ []) (λ line. line ≡ Numbers Demand)
only_demand next may =
    let is = third_is may.told next may.others may.order in
    (is, subst (IsNew (Numbers Quantum ∷ Roster ∷ [])) (sym is) new_demand)

only_slices : (told : Bool) → OnlyNext (first_lines told) (λ line. line ≡ Numbers Slices)
only_slices told next may =
    let is = slices_is told may.told next may.others may.order in
    (is, subst (IsNew (first_lines told)) (sym is) (new_slices told))

only_credits : (told : Bool) → OnlyNext (slices_lines told) (λ line. line ≡ Numbers Credits)
only_credits told next may =
    let is = credits_is told may.told next may.others may.order in
    (is, subst (IsNew (slices_lines told)) (sym is) (new_credits told))

follow_slices : (told : Bool) → MayFollow (first_lines told) (Numbers Slices)
follow_slices true = record { told = true; others = Numbers Credits ∷ []; order = refl }
follow_slices false = record { told = false; others = Numbers Credits ∷ []; order = refl }

follow_credits : (told : Bool) → MayFollow (slices_lines told) (Numbers Credits)
follow_credits true = record { told = true; others = []; order = refl }
follow_credits false = record { told = false; others = []; order = refl }

demand_later : Numbers Quantum ≡ Numbers Demand → ⊥
demand_later same = cc

slices_later : Numbers Quantum ≡ Numbers Slices → ⊥
slices_later same = cc

credits_later : Numbers Quantum ≡ Numbers Credits → ⊥
credits_later same = cc

-- ---- the lines that were read
module _ (limit : ℕ) (shape : Shape) (number : ℕ) (before : Option (List ℕ)) (old : Report) where
  pub first_read : (now : Option (List ℕ)) (out : Report) → ReadsOne limit shape (Numbers Quantum) before now (record old { changed = false }) out
      → ReadsLines limit shape (Numbers Quantum ∷ []) before now old out
  first_read now out one =
      lines_more limit shape before before old (record old { changed = false }) [] (lines_none limit shape before old) now out limit (Numbers Quantum) refl (All-nil (λ read. Numbers Quantum ≢ read)) one

  pub first_end : (whole : Bool → List BlockLine) (now : Option (List ℕ)) (out : Report) (end : ReportTextEnd)
      → ReadsNone limit shape number (λ line. line ≡ Numbers Quantum) before now (record old { changed = false }) out end → ReadsTo whole limit shape number before now old out (Err end)
  first_end whole now out end none =
      lines_end limit shape before before old (record old { changed = false }) [] (lines_none limit shape before old) whole number number limit (λ line. line ≡ Numbers Quantum) (Numbers Quantum) now out end refl
      (record { told = false; others = Numbers Demand ∷ Numbers Slices ∷ Numbers Credits ∷ []; order = refl }) only_first (λ first. (refl, refl)) (omega arith) none

  module _ (middle : Option (List ℕ)) (out : Report) where
    pub second_read : (most : ℕ) (told : Bool) (now : Option (List ℕ)) (later : Report) → most ≡ limit → ReadsLines limit shape (Numbers Quantum ∷ []) before middle old out
        → ReadsOne most shape (second_line told) middle now out later → ReadsLines limit shape (Numbers Quantum ∷ second_line told ∷ []) before now old later
    second_read most told now later same reads one =
        lines_more limit shape before middle old out (Numbers Quantum ∷ []) reads now later most (second_line told) same (new_second told) one

    pub second_end : (whole : Bool → List BlockLine) (most read : ℕ) (now : Option (List ℕ)) (later : Report) (end : ReportTextEnd) → most ≡ limit → read ≡ one_more number
        → ReadsLines limit shape (Numbers Quantum ∷ []) before middle old out → ReadsNone most shape read IsSecond middle now out later end → ReadsTo whole limit shape number before now old later (Err end)
    second_end whole most read now later end same counted reads none =
        lines_end limit shape before middle old out (Numbers Quantum ∷ []) reads whole number read most IsSecond (Numbers Demand) now later end same
        (record { told = false; others = Numbers Slices ∷ Numbers Credits ∷ []; order = refl }) only_second (λ due. absurd (not_second due.0 due.1)) (omega arith) none

    pub demand_read : (most : ℕ) (now : Option (List ℕ)) (later : Report) → most ≡ limit → ReadsLines limit shape (Numbers Quantum ∷ Roster ∷ []) before middle old out
        → ReadsOne most shape (Numbers Demand) middle now out later → ReadsLines limit shape (first_lines true) before now old later
    demand_read most now later same reads one =
        lines_more limit shape before middle old out (Numbers Quantum ∷ Roster ∷ []) reads now later most (Numbers Demand) same new_demand one

    pub demand_end : (whole : Bool → List BlockLine) (most first read : ℕ) (now : Option (List ℕ)) (later : Report) (end : ReportTextEnd) → most ≡ limit → first ≡ one_more number → read ≡ one_more first
        → ReadsLines limit shape (Numbers Quantum ∷ Roster ∷ []) before middle old out → ReadsNone most shape read (λ line. line ≡ Numbers Demand) middle now out later end
        → ReadsTo whole limit shape number before now old later (Err end)
    demand_end whole most first read now later end same counted more reads none =
        lines_end limit shape before middle old out (Numbers Quantum ∷ Roster ∷ []) reads whole number read most (λ line. line ≡ Numbers Demand) (Numbers Demand) now later end same
        (record { told = true; others = Numbers Slices ∷ Numbers Credits ∷ []; order = refl }) only_demand (λ due. absurd (demand_later due)) (omega arith) none

    pub slices_read : (told : Bool) (most : ℕ) (now : Option (List ℕ)) (later : Report) → most ≡ limit → ReadsLines limit shape (first_lines told) before middle old out
        → ReadsOne most shape (Numbers Slices) middle now out later → ReadsLines limit shape (slices_lines told) before now old later
    slices_read told most now later same reads one =
        lines_more limit shape before middle old out (first_lines told) reads now later most (Numbers Slices) same (new_slices told) one

    pub slices_end : (told : Bool) (whole : Bool → List BlockLine) (most read : ℕ) (now : Option (List ℕ)) (later : Report) (end : ReportTextEnd) → most ≡ limit
        → read ≡ min (number + length (first_lines told)) (2 ^ 64 - 1) → ReadsLines limit shape (first_lines told) before middle old out
        → ReadsNone most shape read (λ line. line ≡ Numbers Slices) middle now out later end → ReadsTo whole limit shape number before now old later (Err end)
    slices_end told whole most read now later end same counted reads none =
        lines_end limit shape before middle old out (first_lines told) reads whole number read most (λ line. line ≡ Numbers Slices) (Numbers Slices) now later end same
        (follow_slices told) (only_slices told) (λ due. absurd (slices_later due)) (omega arith) none

    credits_read : (told : Bool) (most : ℕ) (now : Option (List ℕ)) (later : Report) → most ≡ limit → ReadsLines limit shape (slices_lines told) before middle old out
        → ReadsOne most shape (Numbers Credits) middle now out later → ReadsLines limit shape (block_lines told) before now old later
    credits_read true most now later same reads one =
        lines_more limit shape before middle old out (slices_lines true) reads now later most (Numbers Credits) same (new_credits true) one
    credits_read false most now later same reads one =
        lines_more limit shape before middle old out (slices_lines false) reads now later most (Numbers Credits) same (new_credits false) one

  -- what was read tells whether the roster was
  pub whole_first : (told : Bool) (now : Option (List ℕ)) (new : Report) → ReadsLines limit shape (first_lines told) before now old new → ReadsLines limit shape (first_lines new.changed) before now old new
  whole_first true now new reads = subst (λ t. ReadsLines limit shape (first_lines t) before now old new) (sym reads.changed) reads
  whole_first false now new reads = subst (λ t. ReadsLines limit shape (first_lines t) before now old new) (sym reads.changed) reads

  whole_block : (told : Bool) (now : Option (List ℕ)) (new : Report) → ReadsLines limit shape (block_lines told) before now old new → ReadsLines limit shape (block_lines new.changed) before now old new
  whole_block true now new reads = subst (λ t. ReadsLines limit shape (block_lines t) before now old new) (sym reads.changed) reads
  whole_block false now new reads = subst (λ t. ReadsLines limit shape (block_lines t) before now old new) (sym reads.changed) reads

  credits_counted : (told : Bool) (slices read : ℕ) → slices ≡ min (number + length (first_lines told)) (2 ^ 64 - 1) → read ≡ one_more slices
      → one_more read ≡ min (number + length (slices_lines told) + 1) (2 ^ 64 - 1)
  credits_counted true slices read counted more = omega arith
  credits_counted false slices read counted more = omega arith

  -- the last line ends the block
  pub block_read : (middle now : Option (List ℕ)) (out later : Report) (told : Bool) (most slices read : ℕ) (result : Result (Unit {0}) ReportTextEnd) → most ≡ limit
      → slices ≡ min (number + length (first_lines told)) (2 ^ 64 - 1) → read ≡ one_more slices → ReadsLines limit shape (slices_lines told) before middle old out
      → ReadsKind most shape read Credits middle now out later result → ReadsBlock limit shape number before now old later result
  block_read middle now out later told most slices read (Ok _) same counted more reads one = whole_block told now later (credits_read middle out told most now later same reads one)
  block_read middle now out later told most slices read (Err end) same counted more reads none =
      lines_end limit shape before middle old out (slices_lines told) reads block_lines number read most (λ line. line ≡ Numbers Credits) (Numbers Credits) now later end same
      (follow_credits told) (only_credits told) (λ due. absurd (credits_later due)) (credits_counted told slices read counted more) none

  -- a block ends as its first lines do
  pub same_end : (now : Option (List ℕ)) (new : Report) (end : ReportTextEnd) → ReadsTo first_lines limit shape number before now old new (Err end) → ReadsBlock limit shape number before now old new (Err end)
  same_end now new End ends = ends
  same_end now new (BadLine line) ends = ends
  same_end now new ReadFault ends = ends

-- ---- counts of lines
pub counted_first : (number first second last : ℕ) (changed : Bool) → first ≡ one_more number → second ≡ one_more first → last ≡ one_more second → changed ≡ true
    → last ≡ min (number + length (first_lines changed)) (2 ^ 64 - 1)
counted_first number first second last changed one two three is =
    let counted : last ≡ min (number + length (first_lines true)) (2 ^ 64 - 1) = omega arith in
    subst (λ t. last ≡ min (number + length (first_lines t)) (2 ^ 64 - 1)) (sym is) counted

pub counted_two : (number first last : ℕ) (changed : Bool) → first ≡ one_more number → last ≡ one_more first → changed ≡ false → last ≡ min (number + length (first_lines changed)) (2 ^ 64 - 1)
counted_two number first last changed one two is =
    let counted : last ≡ min (number + length (first_lines false)) (2 ^ 64 - 1) = omega arith in
    subst (λ t. last ≡ min (number + length (first_lines t)) (2 ^ 64 - 1)) (sym is) counted

counted_by : (told : Bool) (number first slices last : ℕ) → first ≡ min (number + length (first_lines told)) (2 ^ 64 - 1) → slices ≡ one_more first → last ≡ one_more slices
    → last ≡ min (number + length (block_lines told)) (2 ^ 64 - 1)
counted_by true number first slices last one two three = omega arith
counted_by false number first slices last one two three = omega arith

pub counted_block : (told changed : Bool) (number first slices last : ℕ) → changed ≡ told → first ≡ min (number + length (first_lines told)) (2 ^ 64 - 1) → slices ≡ one_more first → last ≡ one_more slices
    → last ≡ min (number + length (block_lines changed)) (2 ^ 64 - 1)
counted_block told changed number first slices last is one two three =
    subst (λ t. last ≡ min (number + length (block_lines t)) (2 ^ 64 - 1)) (sym is) (counted_by told number first slices last one two three)
