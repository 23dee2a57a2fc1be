-- What a plan writes is a log of Karma.
use Rattle.std.proofs.Common.{◌≡◌, ℕ, ◌-◌, ◌<◌, ◌≤◌, ◌^◌, Bool, true, false, cond, ◌&&◌, nat_le, List, [], ◌∷◌, ◌++◌, length, map, Option, Some, None, decimal, refl, sym, ◌∙◌, ap, subst, append_assoc, append-nil, arith}
use Rattle.std.specs.List.{All}
use Rattle.std.specs.Option.{option_and_then, option_map}
use Rattle.std.specs.Str.{bytes_eq}
use Rattle.std.proofs.lemmas.Bool.{cond-false, and_parts, leb-true, leb-false}
use Rattle.std.proofs.lemmas.List.Elements.{All-nil, All-cons}
use Rattle.far_io.specs.Decimals.{value_of}
use Rattle.far_io.specs.Lines.{lines_of}
use Rattle.far_io.specs.Words.{words_of}
use Rattle.far_io.proofs.LineLaws.{ended_line as line_at_end, lines_of_none}
use Rattle.karma_rule.specs.declared.row.Row.{Row}
use Rattle.karma_rule.specs.declared.shape.Shape.{Shape}
use Rattle.karma_rule.specs.Limits.{IsPlan}
use Rattle.demand_book.specs.Book.{BookView, opening_book, demanding, ticked}
use Rattle.quantum_text.specs.declared.line_kind.LineKind.{LineKind}
use Rattle.quantum_text.specs.declared.line_kind.LineKind.TheVariants.{Quantum, Demand, Slices, Credits}
use Rattle.quantum_text.specs.LineKind.{limit_of}
use Rattle.quantum_text.specs.Block.{line_text, ended_line}
use Rattle.quantum_text.proofs.Again.{line_text_whole}
use Rattle.run_end.specs.declared.TheConstants.{MOST_LINE}
use Rattle.run_end.specs.declared.status.Status.TheVariants.{Done}
use Rattle.plan_run.specs.Ending.{Ending}
use Rattle.plan_run.specs.PlanText.{demand_of_word, rows_of_words, rows_of_line, line_end, plan_end, planned}
use Rattle.plan_run.specs.Auditing.{IsLeft}
use Rattle.plan_run.specs.AuditText.{with_demands, after_demands, wanted}
use Rattle.plan_run.specs.KarmaLog.{IsKarmaLog}
use Rattle.plan_run.specs.SharesLine.{is_roster}
use Rattle.plan_run.proofs.Choices.{some_in}
use Rattle.plan_run.proofs.KarmaLogs.{IsLogFrom, no_quanta, one_quantum, same_shares, demand_lines, from_opening, opening_roster}
use Rattle.plan_run.proofs.AuditBooks.{steady_laws, inside_next, slices_within, its_demands, demands_stand, its_credits, opens}

lines_ended : (kind : LineKind) (numbers rest : List ℕ) → All (λ n. n ≤ limit_of kind) numbers → lines_of (ended_line kind numbers ++ rest) ≡ line_text kind numbers ∷ lines_of rest
unfolding ended_line
lines_ended kind numbers rest within =
    ap lines_of (append_assoc (line_text kind numbers) (10 ∷ []) rest) ∙ (line_at_end (line_text kind numbers) rest (line_text_whole kind numbers within)).lines

-- the text of a block without a line of shares
abbrev plain_text : ℕ → List ℕ → List ℕ → List ℕ → List ℕ
plain_text quantum demands slices credits = ended_line Quantum (quantum ∷ []) ++ (ended_line Demand demands ++ (ended_line Slices slices ++ (ended_line Credits credits ++ [])))

-- its lines, and those of what follows
lines_of_block : (quantum : ℕ) (demands slices credits rest : List ℕ) → All (λ n. n ≤ limit_of Quantum) (quantum ∷ []) → All (λ n. n ≤ limit_of Demand) demands → All (λ n. n ≤ limit_of Slices) slices
    → All (λ n. n ≤ limit_of Credits) credits
    → lines_of (plain_text quantum demands slices credits ++ rest) ≡ line_text Quantum (quantum ∷ []) ∷ line_text Demand demands ∷ line_text Slices slices ∷ line_text Credits credits ∷ lines_of rest
lines_of_block quantum demands slices credits rest q d s c =
    let one = ended_line Quantum (quantum ∷ []) in
    let two = ended_line Demand demands in
    let three = ended_line Slices slices in
    let four = ended_line Credits credits in
    let regrouped : (one ++ (two ++ (three ++ (four ++ [])))) ++ rest ≡ one ++ (two ++ (three ++ (four ++ rest))) = simp (append_assoc, append-nil) in
    ap lines_of regrouped ∙ lines_ended Quantum (quantum ∷ []) (two ++ (three ++ (four ++ rest))) q
    ∙ ap (λ ls. line_text Quantum (quantum ∷ []) ∷ ls) (lines_ended Demand demands (three ++ (four ++ rest)) d
    ∙ ap (λ ls. line_text Demand demands ∷ ls) (lines_ended Slices slices (four ++ rest) s
    ∙ ap (λ ls. line_text Slices slices ∷ ls) (lines_ended Credits credits rest c)))

-- the demand that the first word spells, and the rows of the other words
record FirstRow (demand : Option ℕ) (others : Option (List Row)) (row : Row) (rows : List Row) : Type 0 where
  value : ℕ
  after : List Row
  value_is : demand ≡ Some value
  after_is : others ≡ Some after
  rows_are : rows ≡ demanding value row ∷ after

first_row : (demand : Option ℕ) (others : Option (List Row)) (row : Row) (rows : List Row) → option_and_then (λ d. option_map (λ rs. demanding d row ∷ rs) others) demand ≡ Some rows
    → FirstRow demand others row rows
first_row None others row rows is = absurd (cc)
first_row (Some value) None row rows is = absurd (cc)
first_row (Some value) (Some after) row rows is = record { value = value; after = after; value_is = refl; after_is = refl; rows_are = cc }

demand_within : (word : List ℕ) (demand : ℕ) → demand_of_word word ≡ Some demand → demand ≤ 2 ^ 42
demand_within word demand is =
    let both = some_in (bytes_eq word (decimal (value_of word)) && nat_le (value_of word) (2 ^ 42)) (Some (value_of word)) demand is in
    let value : value_of word ≡ demand = cc in
    subst (λ n. n ≤ 2 ^ 42) value (leb-true (value_of word) (2 ^ 42) (and_parts _ _ both.0).1)

demands_in : List Row → List ℕ
demands_in rows = map (λ row. row.demand) rows

-- the rows that a line's words give are those before, with other demands
record ArePut (before rows : List Row) : Type 0 where
  same : with_demands (demands_in rows) before ≡ rows
  many : length (demands_in rows) ≡ length before
  low : All (λ demand. demand ≤ 2 ^ 42) (demands_in rows)

are_put : (words : List (List ℕ)) (before rows : List Row) → rows_of_words words before ≡ Some rows → ArePut before rows
unfolding rows_of_words demands_in
are_put [] [] rows is =
    let none : [] ≡ rows = cc in
    subst (ArePut []) none (record { same = refl; many = refl; low = All-nil (λ demand. demand ≤ 2 ^ 42) })
are_put [] (row ∷ before) rows is = absurd (cc)
are_put (word ∷ words) [] rows is = absurd (cc)
are_put (word ∷ words) (row ∷ before) rows is =
    let first = first_row (demand_of_word word) (rows_of_words words before) row rows is in
    let others = are_put words before first.after first.after_is in
    subst (ArePut (row ∷ before)) (sym first.rows_are) (record {
      same = ap (λ rs. demanding first.value row ∷ rs) others.same;
      many = let same : length (demands_in first.after) ≡ length before = others.many in omega arith;
      low = All-cons (λ demand. demand ≤ 2 ^ 42) first.value (demands_in first.after) (demand_within word first.value first.value_is) others.low;
    })

not_first : (test : Bool) (one other : Ending) → (one.end.status ≡ Done → ⊥) → (cond test one other).end.status ≡ Done → test ≡ false
not_first true one other bad done = absurd (bad done)
not_first false one other bad done = refl

-- a plan's book: nobody joins or leaves it
record IsPlanBook (book : BookView) : Type 0 where
  inside : IsLeft book false
  roster : is_roster book.shape book.roster ≡ true

-- the lines that are planned from a book on are a log from it
abbrev WritesLogs : List (List ℕ) → Type 0
WritesLogs lines = (book : BookView) → IsPlanBook book → (plan_end book lines).end.status ≡ Done → IsLogFrom book (lines_of (plan_end book lines).text)

-- one line, where what comes after it writes a log
line_log : (book : BookView) (lines : List (List ℕ)) → IsPlanBook book → WritesLogs lines
    → (rows : List Row) → ArePut book.rows rows → (line_end book (Some rows) (λ next. plan_end next lines)).end.status ≡ Done
    → IsLogFrom book (lines_of (line_end book (Some rows) (λ next. plan_end next lines)).text)
unfolding demands_in
line_log book lines is_book rest rows put done =
    let inside : IsLeft book false = is_book.inside in
    let left : nat_le (2 ^ 28) book.quanta ≡ false = not_first (nat_le (2 ^ 28) book.quanta) _ _ (λ e. absurd (cc)) done in
    let more : book.quanta < 2 ^ 28 = leb-false (2 ^ 28) book.quanta left in
    let demands = demands_in rows in
    let next = after_demands book demands in
    let is_next : ticked (record book { rows = rows }) ≡ next = ap (λ (rs : List Row). ticked (record book { rows = rs })) (sym put.same) in
    let Text : BookView → List ℕ = λ n. plain_text book.quanta (map (λ (row : Row). row.demand) n.rows) (map (λ (row : Row). row.given) n.rows) (map (λ (row : Row). row.credits) n.rows) in
    let whole : line_end book (Some rows) (λ n. plan_end n lines) ≡ record { text = Text next ++ (plan_end next lines).text; end = (plan_end next lines).end } =
    cond-false _ _ _ left ∙ ap (λ (n : BookView). record { text = Text n ++ (plan_end n lines).text; end = (plan_end n lines).end }) is_next in
    let laws = steady_laws book demands inside put.low more in
    let inside2 : IsLeft next false = inside_next book demands false inside put.low more in
    let log = rest next (record { inside = inside2; roster = is_book.roster }) (sym (ap (λ (e : Ending). e.end.status) whole) ∙ done) in
    let same_demands : map (λ (row : Row). row.demand) next.rows ≡ demands = demands_stand _ next.rows laws ∙ ap demands_in put.same in
    let low = subst (All (λ n. n ≤ 2 ^ 42)) (sym same_demands) put.low in
    let slices = slices_within next.rows (its_demands next false inside2) laws.wanted in
    let credits = its_credits next false inside2 in
    let first : All (λ n. n ≤ limit_of Quantum) (book.quanta ∷ []) = All-cons (λ n. n ≤ 2 ^ 32 - 1) book.quanta [] (omega arith) (All-nil (λ n. n ≤ 2 ^ 32 - 1)) in
    let block = lines_of_block book.quanta (map (λ (row : Row). row.demand) next.rows) (wanted Slices next) (wanted Credits next) (plan_end next lines).text first low slices credits in
    let lines_are = ap (λ (e : Ending). lines_of e.text) whole ∙ block
    ∙ ap (λ ds. line_text Quantum (book.quanta ∷ []) ∷ line_text Demand ds ∷ line_text Slices (wanted Slices next) ∷ line_text Credits (wanted Credits next) ∷ lines_of (plan_end next lines).text) same_demands in
    subst (IsLogFrom book) (sym lines_are)
    (one_quantum book (line_text Quantum (book.quanta ∷ [])) (demand_lines book demands ++ lines_of (plan_end next lines).text) refl
    (same_shares book (demand_lines book demands ++ lines_of (plan_end next lines).text) is_book.roster
    (record { demands = demands; users = put.many ∙ inside.users; within = put.low; comes = record { others = lines_of (plan_end next lines).text; lines_are = refl; rest = log } })))

some_rows : (book : BookView) (line : List ℕ) (lines : List (List ℕ)) (due : Option (List Row)) → rows_of_line book.rows line ≡ due → IsPlanBook book → WritesLogs lines
    → (line_end book due (λ next. plan_end next lines)).end.status ≡ Done → IsLogFrom book (lines_of (line_end book due (λ next. plan_end next lines)).text)
some_rows book line lines None is is_book rest done = absurd (cc)
some_rows book line lines (Some rows) is is_book rest done = line_log book lines is_book rest rows (are_put _ book.rows rows (some_in (nat_le (length line) MOST_LINE) (rows_of_words (words_of line) book.rows) rows is).1) done

log_of : (lines : List (List ℕ)) → WritesLogs lines
unfolding plan_end
log_of [] book is_book done = subst (IsLogFrom book) (sym lines_of_none) (no_quanta book is_book.inside.quanta)
log_of (line ∷ lines) book is_book done = some_rows book line lines (rows_of_line book.rows line) refl is_book (log_of lines) done

-- what is planned to the end of the input is a log of Karma
pub plan_log : (shape : Shape) (lines : List (List ℕ)) → IsPlan shape → (planned shape lines).end.status ≡ Done → IsKarmaLog shape (lines_of (planned shape lines).text)
plan_log shape lines plan done = from_opening shape (lines_of (planned shape lines).text) (log_of lines (opening_book shape) (record { inside = opens shape plan; roster = opening_roster shape plan }) done)
