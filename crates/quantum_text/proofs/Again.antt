-- One spelling: a report that was written is read again.
use Rattle.std.proofs.Common.{◌≡◌, ◌≢◌, inl, inr, ℕ, ◌+◌, ◌%◌, ◌^◌, ◌<◌, ◌≤◌, if◌then◌else◌, Bool, true, false, not, eqb, List, [], ◌∷◌, ◌++◌, length, map, Option, Some, None, Result, Ok, Err, refl, sym, ◌∙◌, ap, subst, append_assoc, arith}
use Rattle.std.specs.Prelude.{All, codes}
use Rattle.std.specs.Bool.{OnTrue, OnFalse}
use Rattle.std.specs.List.{list_all, flat_map, AllByRecursion}
use Rattle.std.specs.Fmt.{decimal}
use Rattle.std.proofs.lemmas.Bool.{and_parts, both_ways, not-true, eq-eqb}
use Rattle.std.proofs.lemmas.Fmt.{decimal_by_steps, decimal_injective}
use Rattle.std.proofs.lemmas.Grind.{flat_map-append}
use Rattle.std.proofs.lemmas.List.Elements.{All-nil, All-cons, All-head, All-tail, All-from_recursion}
use Rattle.far_io.specs.Lines.{line_of, after_line, IsFirstLine}
use Rattle.far_io.specs.Sends.{spaced}
use Rattle.far_io.specs.Words.{words_of}
use Rattle.far_io.proofs.LineLaws.{line_of_more, line_of_none, ended_line as line_at_end}
use Rattle.karma_rule.specs.declared.row.Row.{Row}
use Rattle.karma_rule.specs.declared.row.Share.{Share}
use Rattle.karma_rule.specs.declared.shape.Shape.{Shape}
use Rattle.demand_book.specs.declared.report.Report.{Report}
use Rattle.demand_book.specs.Roster.{seat_of, fair_of_seat}
use Rattle.quantum_text.specs.declared.line_kind.LineKind.{LineKind}
use Rattle.quantum_text.specs.declared.line_kind.LineKind.TheVariants.{Quantum, Demand, Slices, Credits}
use Rattle.quantum_text.specs.declared.read.ReportTextEnd.{ReportTextEnd}
use Rattle.quantum_text.specs.declared.read.ReportTextEnd.TheVariants.{End, BadLine, ReadFault}
use Rattle.quantum_text.specs.LineKind.{word_of, limit_of, count_of, numbers_of, untold}
use Rattle.quantum_text.specs.Shares.{roster_of, seat_word, seat_text, shares_text, ended_shares, IsSeat, IsSeated}
use Rattle.quantum_text.specs.Block.{BlockLine, Roster, Numbers, block_lines, line_text, ended_line, text_of, ended_text, lines_text, report_text, IsWithin, IsLineOf, IsNoLineOf, IsBlock}
use Rattle.quantum_text.specs.Reading.{BeginsWith, IsSame, second_line, ReadsBadLine, ReadsBlock, LinesFit, IsReadAgain}
use Rattle.quantum_text.proofs.Words.{line_words, numbers_fit}
use Rattle.quantum_text.proofs.Seats.{first_byte, shares_text_injective, fair_fits, floor_fits}
use Rattle.quantum_text.proofs.Rows.{length_numbers}
use Rattle.quantum_text.proofs.NextLine.{no_line_none}
use Rattle.quantum_text.proofs.BlockLines.{users_of}

-- ---- a line of a block has no line end in it
abbrev HasNoEnd : List ℕ → Type 0
HasNoEnd bytes = AllByRecursion (λ byte. byte ≢ 10) bytes

no_end_append : (xs ys : List ℕ) → HasNoEnd xs → HasNoEnd ys → HasNoEnd (xs ++ ys)
no_end_append [] ys first second = second
no_end_append (x ∷ xs) ys first second = (first.0, no_end_append xs ys first.1 second)

no_end_by_test : (bytes : List ℕ) → list_all (λ byte. not (eqb byte 10)) bytes ≡ true → HasNoEnd bytes
no_end_by_test [] test = tt
no_end_by_test (b ∷ bs) test =
    let parts = and_parts (not (eqb b 10)) (list_all (λ byte. not (eqb byte 10)) bs) test in
    (λ e. both_ways (eqb b 10) (not-true (eqb b 10) parts.0) (eq-eqb b 10 e), no_end_by_test bs parts.1)

no_end_decimal : (n : ℕ) → n < 2 ^ 64 → HasNoEnd (decimal n)
no_end_decimal n fits =
    decimal_by_steps (λ n digits. HasNoEnd digits) (λ n low. (λ e. absurd (omega arith), tt))
    (λ n digits high before. no_end_append digits ((48 + n % 10) ∷ []) before (λ e. absurd (omega arith), tt)) n fits

no_end_spaced : (numbers : List ℕ) → All (λ n. n < 2 ^ 64) numbers → HasNoEnd (spaced numbers)
unfolding spaced
no_end_spaced [] fit = tt
no_end_spaced (n ∷ ns) fit =
    no_end_append (32 ∷ decimal n) (spaced ns) (λ e. cc, no_end_decimal n (All-head (λ n. n < 2 ^ 64) n ns fit)) (no_end_spaced ns (All-tail (λ n. n < 2 ^ 64) n ns fit))

no_end_word : (kind : LineKind) → HasNoEnd (word_of kind)
no_end_word Quantum = no_end_by_test (word_of Quantum) refl
no_end_word Demand = no_end_by_test (word_of Demand) refl
no_end_word Slices = no_end_by_test (word_of Slices) refl
no_end_word Credits = no_end_by_test (word_of Credits) refl

no_end_seat : (seat : Option Share) → IsSeat seat → HasNoEnd (seat_word seat)
no_end_seat None is = (λ e. absurd (omega arith), tt)
no_end_seat (Some share) is =
    no_end_append (decimal share.fair) (58 ∷ decimal share.floor) (no_end_decimal share.fair (fair_fits share is)) (λ e. absurd (omega arith), no_end_decimal share.floor (floor_fits share is))

no_end_seats : (roster : List (Option Share)) → All IsSeat roster → HasNoEnd (flat_map seat_text roster)
no_end_seats [] within = tt
no_end_seats (s ∷ ss) within =
    no_end_append (seat_text s) (flat_map seat_text ss) (λ e. absurd (omega arith), no_end_seat s (All-head IsSeat s ss within)) (no_end_seats ss (All-tail IsSeat s ss within))

line_of_whole : (bytes : List ℕ) → HasNoEnd bytes → line_of bytes ≡ bytes
line_of_whole [] none = line_of_none
line_of_whole (b ∷ bs) none = line_of_more b bs none.0 ∙ ap (λ t. b ∷ t) (line_of_whole bs none.1)

pub line_text_whole : (kind : LineKind) (numbers : List ℕ) → All (λ n. n ≤ limit_of kind) numbers → line_of (line_text kind numbers) ≡ line_text kind numbers
unfolding line_text
line_text_whole kind numbers within =
    line_of_whole (word_of kind ++ spaced numbers) (no_end_append (word_of kind) (spaced numbers) (no_end_word kind) (no_end_spaced numbers (numbers_fit kind numbers within)))

pub shares_text_whole : (roster : List (Option Share)) → All IsSeat roster → line_of (shares_text roster) ≡ shares_text roster
unfolding shares_text
shares_text_whole roster within =
    line_of_whole (codes "shares" ++ flat_map seat_text roster) (no_end_append (codes "shares") (flat_map seat_text roster) (no_end_by_test (codes "shares") refl) (no_end_seats roster within))

-- ---- a line tells one thing
decimals_injective : (xs ys : List ℕ) → All (λ n. n < 2 ^ 64) xs → All (λ n. n < 2 ^ 64) ys → map decimal xs ≡ map decimal ys → xs ≡ ys
decimals_injective [] [] fit fits same = refl
decimals_injective [] (y ∷ ys) fit fits same = cc
decimals_injective (x ∷ xs) [] fit fits same = cc
decimals_injective (x ∷ xs) (y ∷ ys) fit fits same =
    let first : x ≡ y = decimal_injective x y (All-head (λ n. n < 2 ^ 64) x xs fit) (All-head (λ n. n < 2 ^ 64) y ys fits) cc in
    let others : xs ≡ ys = decimals_injective xs ys (All-tail (λ n. n < 2 ^ 64) x xs fit) (All-tail (λ n. n < 2 ^ 64) y ys fits) cc in
    cc

pub line_text_injective : (kind : LineKind) (xs ys : List ℕ) → All (λ n. n ≤ limit_of kind) xs → All (λ n. n ≤ limit_of kind) ys → line_text kind xs ≡ line_text kind ys → xs ≡ ys
line_text_injective kind xs ys within within' same =
    let words : word_of kind ∷ map decimal xs ≡ word_of kind ∷ map decimal ys = sym (line_words kind xs within) ∙ ap words_of same ∙ line_words kind ys within' in
    decimals_injective xs ys (numbers_fit kind xs within) (numbers_fit kind ys within') cc

-- a line of demands is that of no roster
other_words : (roster : List (Option Share)) (numbers : List ℕ) → shares_text roster ≡ line_text Demand numbers → ⊥
unfolding shares_text line_text
other_words roster numbers same =
    both_ways (eqb (first_byte (shares_text roster)) (first_byte (line_text Demand numbers))) refl
    (eq-eqb (first_byte (shares_text roster)) (first_byte (line_text Demand numbers)) (ap first_byte same))

-- ---- rows by what their lines tell
rows_same : (xs ys : List Row) → map (λ (r : Row). r.demand) xs ≡ map (λ (r : Row). r.demand) ys → map (λ (r : Row). r.given) xs ≡ map (λ (r : Row). r.given) ys
    → map (λ (r : Row). r.credits) xs ≡ map (λ (r : Row). r.credits) ys → map untold xs ≡ map untold ys → xs ≡ ys
rows_same [] [] demands given credits shares = refl
rows_same [] (y ∷ ys) demands given credits shares = cc
rows_same (x ∷ xs) [] demands given credits shares = cc
rows_same (x ∷ xs) (y ∷ ys) demands given credits shares =
    let others : xs ≡ ys = rows_same xs ys (cc) (cc) (cc) (cc) in
    let demand : x.demand ≡ y.demand = cc in
    let give : x.given ≡ y.given = cc in
    let credit : x.credits ≡ y.credits = cc in
    let share : untold x ≡ untold y = cc in
    let made = λ (a b c : ℕ) (rest : Row). let row : Row = record rest { demand = a; given = b; credits = c } in row in
    let first : x ≡ y = ap (λ d. made d x.given x.credits (untold x)) demand ∙ ap (λ g. made y.demand g x.credits (untold x)) give ∙ ap (λ c. made y.demand y.given c (untold x)) credit
    ∙ ap (made y.demand y.given y.credits) share in
    ap (λ r. r ∷ xs) first ∙ ap (λ rs. y ∷ rs) others

floor_of_seat : Option Share → ℕ
floor_of_seat None = 0
floor_of_seat (Some share) = share.floor

abbrev share_row : ℕ → ℕ → Bool → Row
share_row fair floor present = record { demand = 0; credits = 0; given = 0; fair = fair; floor = floor; present = present }

abbrev seat_in : ℕ → ℕ → Bool → Option Share
seat_in fair floor present = if present then Some (record { fair = fair; floor = floor }) else None

share_same : (present there : Bool) (fair floor other low : ℕ) → seat_in fair floor present ≡ seat_in other low there → OnFalse present ((fair ≡ 0) × (floor ≡ 0)) → OnFalse there ((other ≡ 0) × (low ≡ 0))
    → share_row fair floor present ≡ share_row other low there
unfolding floor_of_seat
share_same true true fair floor other low same first second = ap (λ f. share_row f floor true) (ap fair_of_seat same) ∙ ap (λ g. share_row other g true) (ap floor_of_seat same)
share_same true false fair floor other low same first second = cc
share_same false true fair floor other low same first second = cc
share_same false false fair floor other low same first second = ap (λ f. share_row f floor false) (first.0 ∙ sym second.0) ∙ ap (λ g. share_row other g false) (first.1 ∙ sym second.1)

shares_same : (xs ys : List Row) → map seat_of xs ≡ map seat_of ys → All IsSeated xs → All IsSeated ys → map untold xs ≡ map untold ys
shares_same [] [] same first second = refl
shares_same [] (y ∷ ys) same first second = cc
shares_same (x ∷ xs) [] same first second = cc
shares_same (x ∷ xs) (y ∷ ys) same first second =
    let head : seat_of x ≡ seat_of y = cc in
    let tails : map seat_of xs ≡ map seat_of ys = cc in
    let share : untold x ≡ untold y = share_same x.present y.present x.fair x.floor y.fair y.floor head (All-head IsSeated x xs first) (All-head IsSeated y ys second) in
    ap (λ r. r ∷ map untold xs) share ∙ ap (λ rs. untold y ∷ rs) (shares_same xs ys tails (All-tail IsSeated x xs first) (All-tail IsSeated y ys second))

-- ---- lines that were read from the text of a report
abbrev IsTold : Report → Report → BlockLine → Type 0
IsTold new report Roster = roster_of new ≡ roster_of report
IsTold new report (Numbers kind) = numbers_of kind new ≡ numbers_of kind report

ended_is : (report : Report) (line : BlockLine) → ended_text report line ≡ text_of report line ++ 10 ∷ []
unfolding ended_line ended_shares
ended_is report Roster = refl
ended_is report (Numbers kind) = refl

text_whole : (shape : Shape) (before : List (Option Share)) (report : Report) (line : BlockLine) → IsWithin shape before report line → line_of (text_of report line) ≡ text_of report line
text_whole shape before report Roster within = shares_text_whole (roster_of report) within.0.within
text_whole shape before report (Numbers kind) within = line_text_whole kind (numbers_of kind report) within

-- some line may come after these
record MayBe (changed : Bool) (lines : List BlockLine) : Type 0 where
  next : BlockLine
  others : List BlockLine
  order : block_lines changed ≡ lines ++ next ∷ others

begins_block : (told : Bool) (line due : BlockLine) (others : List BlockLine) → block_lines told ≡ line ∷ due ∷ others → line ≡ Numbers Quantum
begins_block true line due others order = cc
begins_block false line due others order = cc

module _ (limit : ℕ) (shape : Shape) (before : List (Option Share)) (report new : Report) where
  -- the first line of what begins with this one, and what is after it
  line_first : (line : BlockLine) (bytes others : List ℕ) → IsWithin shape before report line → bytes ≡ ended_text report line ++ others → IsFirstLine bytes (text_of report line) others
  line_first line bytes others within text =
      subst (λ b. IsFirstLine b (text_of report line) others)
      (sym (text ∙ ap (λ t. t ++ others) (ended_is report line) ∙ append_assoc (text_of report line) (10 ∷ []) others))
      (line_at_end (text_of report line) others (text_whole shape before report line within))

  line_again : (line : BlockLine) (bytes : List ℕ) → IsWithin shape before report line → IsLineOf shape before new line bytes → bytes ≡ text_of report line → IsTold new report line
  line_again Roster bytes within is_line same =
      shares_text_injective (roster_of new) (roster_of report) is_line.told.within within.0.within (sym is_line.spelled ∙ same)
  line_again (Numbers kind) bytes within is_line same =
      line_text_injective kind (numbers_of kind new) (numbers_of kind report) is_line.within within (sym is_line.spelled ∙ same)

  lines_again : (lines : List BlockLine) (bytes rest more : List ℕ) → All (IsWithin shape before report) lines → BeginsWith limit shape before new lines bytes rest
      → bytes ≡ lines_text report lines ++ more → AllByRecursion (IsTold new report) lines × (rest ≡ more)
  lines_again [] bytes rest more within begins text = (tt, begins ∙ text)
  lines_again (line ∷ lines) bytes rest more within begins text =
      let here = All-head (IsWithin shape before report) line lines within in
      let others = lines_text report lines ++ more in
      let first = line_first line bytes others here (text ∙ append_assoc (ended_text report line) (lines_text report lines) more) in
      let told = line_again line (line_of bytes) here begins.1.0 (sym first.line) in
      let after = lines_again lines (after_line bytes) rest more (All-tail (IsWithin shape before report) line lines within) begins.1.1 (sym first.rest) in
      ((told, after.0), after.1)

  second_at : (line : BlockLine) (lines : List BlockLine) (bytes more : List ℕ) → All (IsWithin shape before report) (Numbers Quantum ∷ line ∷ lines)
      → bytes ≡ lines_text report (Numbers Quantum ∷ line ∷ lines) ++ more → line_of (after_line bytes) ≡ text_of report line
  second_at line lines bytes more within text =
      let others = All-tail (IsWithin shape before report) (Numbers Quantum) (line ∷ lines) within in
      let one = line_first (Numbers Quantum) bytes (lines_text report (line ∷ lines) ++ more) (All-head (IsWithin shape before report) (Numbers Quantum) (line ∷ lines) within)
      (text ∙ append_assoc (ended_text report (Numbers Quantum)) (lines_text report (line ∷ lines)) more) in
      let two = line_first line (after_line bytes) (lines_text report lines ++ more) (All-head (IsWithin shape before report) line lines others)
      (sym one.rest ∙ append_assoc (ended_text report line) (lines_text report lines) more) in
      sym two.line

  -- the second line of the text of a report
  text_second : (changed : Bool) (bytes more : List ℕ) → All (IsWithin shape before report) (block_lines changed) → bytes ≡ lines_text report (block_lines changed) ++ more
      → line_of (after_line bytes) ≡ text_of report (second_line changed)
  text_second true bytes more within text = second_at Roster (Numbers Demand ∷ Numbers Slices ∷ Numbers Credits ∷ []) bytes more within text
  text_second false bytes more within text = second_at (Numbers Demand) (Numbers Slices ∷ Numbers Credits ∷ []) bytes more within text

  told_same : (told changed : Bool) (line : List ℕ) → IsLineOf shape before new (second_line told) line → line ≡ text_of report (second_line changed) → told ≡ changed
  told_same true true line is_line same = refl
  told_same false false line is_line same = refl
  told_same true false line is_line same = absurd (other_words (roster_of new) (numbers_of Demand report) (sym is_line.spelled ∙ same))
  told_same false true line is_line same = absurd (other_words (roster_of report) (numbers_of Demand new) (sym same ∙ is_line.spelled))

  -- what stands second tells whether the roster is told
  second_told : (told changed : Bool) (first line : BlockLine) (lines others : List BlockLine) (bytes rest more : List ℕ) → block_lines told ≡ first ∷ line ∷ others
      → All (IsWithin shape before report) (block_lines changed) → BeginsWith limit shape before new (first ∷ line ∷ lines) bytes rest → bytes ≡ lines_text report (block_lines changed) ++ more → told ≡ changed
  second_told true changed first line lines others bytes rest more order within begins text =
      let is : line ≡ Roster = cc in
      told_same true changed (line_of (after_line bytes)) (subst (λ l. IsLineOf shape before new l (line_of (after_line bytes))) is begins.1.1.1.0) (text_second changed bytes more within text)
  second_told false changed first line lines others bytes rest more order within begins text =
      let is : line ≡ Numbers Demand = cc in
      told_same false changed (line_of (after_line bytes)) (subst (λ l. IsLineOf shape before new l (line_of (after_line bytes))) is begins.1.1.1.0) (text_second changed bytes more within text)

  whole_told : (told changed : Bool) (bytes rest more : List ℕ) → All (IsWithin shape before report) (block_lines changed) → BeginsWith limit shape before new (block_lines told) bytes rest
      → bytes ≡ lines_text report (block_lines changed) ++ more → told ≡ changed
  whole_told true changed bytes rest more within begins text =
      second_told true changed (Numbers Quantum) Roster (Numbers Demand ∷ Numbers Slices ∷ Numbers Credits ∷ []) (Numbers Demand ∷ Numbers Slices ∷ Numbers Credits ∷ []) bytes rest more refl within begins text
  whole_told false changed bytes rest more within begins text =
      second_told false changed (Numbers Quantum) (Numbers Demand) (Numbers Slices ∷ Numbers Credits ∷ []) (Numbers Slices ∷ Numbers Credits ∷ []) bytes rest more refl within begins text

  -- the report has a line after those that were read
  follows_one : (told changed : Bool) (line due : BlockLine) (others : List BlockLine) → block_lines told ≡ line ∷ due ∷ others → MayBe changed (line ∷ [])
  follows_one told true line due others order = record { next = Roster; others = Numbers Demand ∷ Numbers Slices ∷ Numbers Credits ∷ []; order = ap (λ l. l ∷ Roster ∷ Numbers Demand ∷ Numbers Slices ∷ Numbers Credits ∷ []) (sym (begins_block told line due others order)) }
  follows_one told false line due others order = record { next = Numbers Demand; others = Numbers Slices ∷ Numbers Credits ∷ []; order = ap (λ l. l ∷ Numbers Demand ∷ Numbers Slices ∷ Numbers Credits ∷ []) (sym (begins_block told line due others order)) }

  on_track : (told changed : Bool) (lines : List BlockLine) (due : BlockLine) (others : List BlockLine) (bytes rest more : List ℕ) → block_lines told ≡ lines ++ due ∷ others
      → All (IsWithin shape before report) (block_lines changed) → BeginsWith limit shape before new lines bytes rest → bytes ≡ lines_text report (block_lines changed) ++ more → MayBe changed lines
  on_track told true [] due others bytes rest more order within begins text = record { next = Numbers Quantum; others = Roster ∷ Numbers Demand ∷ Numbers Slices ∷ Numbers Credits ∷ []; order = refl }
  on_track told false [] due others bytes rest more order within begins text = record { next = Numbers Quantum; others = Numbers Demand ∷ Numbers Slices ∷ Numbers Credits ∷ []; order = refl }
  on_track told changed (line ∷ []) due others bytes rest more order within begins text = follows_one told changed line due others order
  on_track told changed (line ∷ (second ∷ lines)) due others bytes rest more order within begins text =
      let same : told ≡ changed = second_told told changed line second lines (lines ++ due ∷ others) bytes rest more order within begins text in
      record { next = due; others = others; order = ap block_lines (sym same) ∙ order }

-- ---- reports that were written
all_front : {X : Type 0} (P : X → Type 0) (xs : List X) (x : X) (ys : List X) → All P (xs ++ x ∷ ys) → All P xs × P x
all_front P [] x ys all = (All-nil P, All-head P x ys all)
all_front P (z ∷ zs) x ys all =
    let others = all_front P zs x ys (All-tail P z (zs ++ x ∷ ys) all) in
    (All-cons P z zs (All-head P z (zs ++ x ∷ ys) all) others.0, others.1)

within_by : (changed : Bool) (shape : Shape) (before : List (Option Share)) (report : Report) → ((kind : LineKind) → All (λ number. number ≤ limit_of kind) (numbers_of kind report))
    → OnTrue changed (IsWithin shape before report Roster) → All (IsWithin shape before report) (block_lines changed)
within_by true shape before report numbers told =
    All-from_recursion (IsWithin shape before report) (block_lines true) (numbers Quantum, (told, (numbers Demand, (numbers Slices, (numbers Credits, tt)))))
within_by false shape before report numbers told =
    All-from_recursion (IsWithin shape before report) (block_lines false) (numbers Quantum, (numbers Demand, (numbers Slices, (numbers Credits, tt))))

block_within : (shape : Shape) (old report : Report) → IsBlock shape old.rows report → All (IsWithin shape (roster_of old) report) (block_lines report.changed)
block_within shape old report block = within_by report.changed shape (roster_of old) report block.numbers block.told

numbers_told : (changed : Bool) (new report : Report) (kind : LineKind) → AllByRecursion (IsTold new report) (block_lines changed) → numbers_of kind new ≡ numbers_of kind report
numbers_told true new report Quantum all = all.0
numbers_told true new report Demand all = all.1.1.0
numbers_told true new report Slices all = all.1.1.1.0
numbers_told true new report Credits all = all.1.1.1.1.0
numbers_told false new report Quantum all = all.0
numbers_told false new report Demand all = all.1.0
numbers_told false new report Slices all = all.1.1.0
numbers_told false new report Credits all = all.1.1.1.0

shares_told : (changed : Bool) (shape : Shape) (old new report : Report) → AllByRecursion (IsTold new report) (block_lines changed) → All (IsWithin shape (roster_of old) new) (block_lines changed)
    → OnTrue changed (IsWithin shape (roster_of old) report Roster) → OnFalse changed (map untold report.rows ≡ map untold old.rows)
    → ((line : BlockLine) → All (λ read. line ≢ read) (block_lines changed) → IsSame line new old) → map untold new.rows ≡ map untold report.rows
shares_told true shape old new report all within told same others =
    let seated = (all_front (IsWithin shape (roster_of old) new) (Numbers Quantum ∷ []) Roster (Numbers Demand ∷ Numbers Slices ∷ Numbers Credits ∷ []) within).1.1 in
    shares_same new.rows report.rows all.1.0 seated told.1
shares_told false shape old new report all within told same others =
    others Roster (All-from_recursion (λ read. Roster ≢ read) (block_lines false) (λ e. cc, (λ e. cc, (λ e. cc, (λ e. cc, tt))))) ∙ sym same

report_same : (new report : Report) → ((kind : LineKind) → numbers_of kind new ≡ numbers_of kind report) → map untold new.rows ≡ map untold report.rows → new.changed ≡ report.changed → new ≡ report
report_same new report same shares changed =
    let quantum : new.quantum ≡ report.quantum = let one = same Quantum in cc in
    let rows : new.rows ≡ report.rows = rows_same new.rows report.rows (same Demand) (same Slices) (same Credits) shares in
    let made = λ (q : ℕ) (rs : List Row) (told : Bool). let r : Report = record { quantum = q; rows = rs; changed = told } in r in
    ap (λ q. made q new.rows new.changed) quantum ∙ ap (λ rs. made report.quantum rs new.changed) rows ∙ ap (made report.quantum report.rows) changed

-- a line of a report is no bad one
not_bad : (shape : Shape) (old report : Report) (line : BlockLine) (bytes : List ℕ) → length report.rows ≡ length old.rows → IsWithin shape (roster_of old) report line → bytes ≡ text_of report line
    → IsNoLineOf shape (roster_of old) line bytes → ⊥
not_bad shape old report Roster bytes users within same no_line = no_line (roster_of report) (record { spelled = same; told = within.0 })
not_bad shape old report (Numbers kind) bytes users within same no_line =
    no_line (numbers_of kind report) (record { spelled = same; many = length_numbers kind report ∙ ap (count_of kind) (users ∙ sym (users_of old)); within = within })

empty_text : (shape : Shape) (old report : Report) (lines : List BlockLine) (more : List ℕ) → IsWithin shape (roster_of old) report (Numbers Quantum)
    → lines_text report (Numbers Quantum ∷ lines) ++ more ≡ [] → ⊥
empty_text shape old report lines more within none =
    let bytes = lines_text report (Numbers Quantum ∷ lines) ++ more in
    let first = line_first 0 shape (roster_of old) report report (Numbers Quantum) bytes (lines_text report lines ++ more) within
    (append_assoc (ended_text report (Numbers Quantum)) (lines_text report lines) more) in
    let empty : line_text Quantum (numbers_of Quantum report) ≡ [] = first.line ∙ ap line_of none ∙ line_of_none in
    no_line_none Quantum (length report.rows) (numbers_of Quantum report) (record { spelled = sym empty; many = refl; within = within })

begins_text : (shape : Shape) (old report : Report) (changed : Bool) (more : List ℕ) → All (IsWithin shape (roster_of old) report) (block_lines changed) → lines_text report (block_lines changed) ++ more ≡ [] → ⊥
begins_text shape old report true more within none =
    empty_text shape old report (Roster ∷ Numbers Demand ∷ Numbers Slices ∷ Numbers Credits ∷ []) more (All-head (IsWithin shape (roster_of old) report) (Numbers Quantum) (Roster ∷ Numbers Demand ∷ Numbers Slices ∷ Numbers Credits ∷ []) within) none
begins_text shape old report false more within none =
    empty_text shape old report (Numbers Demand ∷ Numbers Slices ∷ Numbers Credits ∷ []) more (All-head (IsWithin shape (roster_of old) report) (Numbers Quantum) (Numbers Demand ∷ Numbers Slices ∷ Numbers Credits ∷ []) within) none

bad_again : (limit : ℕ) (shape : Shape) (number : ℕ) (before now : Option (List ℕ)) (old new report : Report) (more : List ℕ) (line : ℕ) → ReadsBadLine limit shape number before now old new line
    → before ≡ Some (report_text report ++ more) → IsBlock shape old.rows report → LinesFit limit report → ⊥
bad_again limit shape number before now old new report more line reads text block fits =
    let was = roster_of old in
    let stops = reads.stops in
    let bytes = report_text report ++ more in
    let got = stops.front.told bytes text in
    let within = block_within shape old report block in
    let track = on_track limit shape was report new stops.follows.told report.changed stops.lines stops.due stops.follows.others bytes got.0 more stops.follows.order within got.2 refl in
    let parts = all_front (IsWithin shape was report) stops.lines track.next track.others (subst (All (IsWithin shape was report)) track.order within) in
    let fit = (all_front (λ l. length (text_of report l) ≤ limit) stops.lines track.next track.others (subst (All (λ l. length (text_of report l) ≤ limit)) track.order fits)).1 in
    let after = lines_text report track.others ++ more in
    let whole : bytes ≡ lines_text report stops.lines ++ (lines_text report (track.next ∷ track.others) ++ more) =
    ap (λ ls. lines_text report ls ++ more) track.order ∙ ap (λ t. t ++ more) (flat_map-append (ended_text report) stops.lines (track.next ∷ track.others))
    ∙ append_assoc (lines_text report stops.lines) (lines_text report (track.next ∷ track.others)) more in
    let again = lines_again limit shape was report new stops.lines bytes got.0 (lines_text report (track.next ∷ track.others) ++ more) parts.0 got.2 whole in
    let first = line_first limit shape was report new track.next got.0 after parts.1 (again.1 ∙ append_assoc (ended_text report track.next) (lines_text report track.others) more) in
    let next : line_of got.0 ≡ text_of report track.next = sym first.line in
    elim (reads.bad got.0 got.1).bad [
      | inl long ↦ absurd (omega (arith, ap length next, fit, long))
      | inr no_line ↦ not_bad shape old report track.next (line_of got.0) block.users parts.1 next (no_line track.next (record { told = report.changed; others = track.others; order = track.order }))
    ]

pub read_again : (limit : ℕ) (shape : Shape) (number : ℕ) (before now : Option (List ℕ)) (old new : Report) (result : Result (Unit {0}) ReportTextEnd) → ReadsBlock limit shape number before now old new result
    → IsReadAgain limit shape before now old new result
read_again limit shape number before now old new (Ok _) reads = λ report more text block fits.
    let was = roster_of old in
    let bytes = report_text report ++ more in
    let got = reads.told bytes text in
    let within = block_within shape old report block in
    let changed = whole_told limit shape was report new new.changed report.changed bytes got.0 more within got.2 refl in
    let begins = subst (λ told. BeginsWith limit shape was new (block_lines told) bytes got.0) changed got.2 in
    let again = lines_again limit shape was report new (block_lines report.changed) bytes got.0 more within begins refl in
    let shares = shares_told report.changed shape old new report again.0 (subst (λ told. All (IsWithin shape was new) (block_lines told)) changed reads.within) block.told block.untold
    (subst (λ told. (line : BlockLine) → All (λ read. line ≢ read) (block_lines told) → IsSame line new old) changed reads.others) in
    (report_same new report (λ kind. numbers_told report.changed new report kind again.0) shares changed, got.1 ∙ ap Some again.1)
read_again limit shape number before now old new (Err End) reads = λ report more text block fits.
    begins_text shape old report report.changed more (block_within shape old report block) (reads.nothing (report_text report ++ more) text)
read_again limit shape number before now old new (Err (BadLine line)) reads = λ report more text block fits. bad_again limit shape number before now old new report more line reads text block fits
read_again limit shape number before now old new (Err ReadFault) reads = λ report more text block fits. tt
