-- What one line of a log brings.
use Rattle.std.proofs.Common.{◌≡◌, ℕ, zero, suc, ◌+◌, ◌<◌, ◌≤◌, ◌^◌, Bool, true, false, cond, ◌&&◌, eqb, nat_le, if◌then◌else◌, List, [], ◌∷◌, length, map, take, drop, get_or, Option, Some, None, decimal, MatchOption, refl, sym, ◌∙◌, ap, arith, add-one}
use Rattle.std.specs.Bool.{Decides}
use Rattle.std.specs.List.{All, list_all}
use Rattle.std.specs.Str.{bytes_eq}
use Rattle.std.proofs.lemmas.Bool.{cond-true, cond-false, and_from, and_parts, le-leb, leb-true, leb-false, eq-eqb, eqb-true, false_from_ne_true, true≢false}
use Rattle.std.proofs.lemmas.Bool.Decides.{Decides-by_and}
use Rattle.std.proofs.lemmas.List.Elements.{All-get_or, All-tail}
use Rattle.std.proofs.lemmas.Slice.Eq.{bytes_eq-Decides}
use Rattle.far_io.specs.Decimals.{value_of}
use Rattle.far_io.specs.Words.{words_of}
use Rattle.far_io.proofs.Decimals.{value_of-decimal}
use Rattle.karma_rule.specs.declared.row.Row.{Row}
use Rattle.karma_rule.specs.declared.row.Share.{Share}
use Rattle.karma_rule.specs.Karma.{change_at}
use Rattle.demand_book.specs.Book.{BookView, demanding}
use Rattle.quantum_text.specs.declared.line_kind.LineKind.{LineKind}
use Rattle.quantum_text.specs.declared.line_kind.LineKind.TheVariants.{Quantum, Demand, Slices, Credits}
use Rattle.quantum_text.specs.LineKind.{limit_of, count_of, numbers_of, is_first}
use Rattle.quantum_text.specs.Block.{line_text, IsLine, IsNoLine}
use Rattle.quantum_text.specs.Shares.{shares_text}
use Rattle.quantum_text.proofs.Words.{line_words, numbers_fit}
use Rattle.run_end.specs.declared.TheConstants.{MOST_LINE}
use Rattle.plan_run.specs.Ending.{Ending}
use Rattle.plan_run.specs.SharesLine.{roster_of_line}
use Rattle.plan_run.specs.AuditText.{with_demands, with_seats, numbers_of_line, due_numbers, due_roster, may_be_shares, wanted, compared, AuditState, audit_state, audit_one, read_as, taken_as, judged, IsMade, IsAt, next_kind, audit_end, audit_over}
use Rattle.plan_run.proofs.SharesLines.{other_line}

-- lists of numbers that are the same at each place
pub same_at_each : (xs ys : List ℕ) → length xs ≡ length ys → ((k : ℕ) → k < length xs → get_or xs k 0 ≡ get_or ys k 0) → xs ≡ ys
same_at_each [] [] long same = refl
same_at_each [] (y ∷ ys) long same = absurd (omega arith)
same_at_each (x ∷ xs) [] long same = absurd (omega arith)
same_at_each (x ∷ xs) (y ∷ ys) long same =
    let first : x ≡ y = same 0 (omega arith) in
    let others : xs ≡ ys = same_at_each xs ys (omega arith) (λ k here. same (suc k) (omega arith)) in
    ap (λ n. n ∷ xs) first ∙ ap (λ ns. y ∷ ns) others

demands_suc : (demands : List ℕ) (rows : List Row) (k : ℕ) → k < length demands → change_at (demanding (get_or demands k 0)) (with_demands (take k demands) rows) k ≡ with_demands (take (suc k) demands) rows
demands_suc [] rows k here = absurd (omega arith)
demands_suc (d ∷ ds) [] zero here = refl
demands_suc (d ∷ ds) [] (suc k) here = refl
demands_suc (d ∷ ds) (row ∷ rows) zero here = refl
demands_suc (d ∷ ds) (row ∷ rows) (suc k) here = ap (λ rs. demanding d row ∷ rs) (demands_suc ds rows k (omega arith))

-- one more demand is put into its row
pub demands_more : (demands : List ℕ) (rows : List Row) (k : ℕ) → k < length demands → change_at (demanding (get_or demands k 0)) (with_demands (take k demands) rows) k ≡ with_demands (take (k + 1) demands) rows
demands_more demands rows k here = rw add-one (demands_suc demands rows k here)

-- the numbers of a line, read off its words
values_back : (numbers : List ℕ) → All (λ n. n < 2 ^ 64) numbers → map value_of (map decimal numbers) ≡ numbers
values_back [] fit = refl
values_back (n ∷ ns) fit =
    let here : n < 2 ^ 64 = All-get_or (λ m. m < 2 ^ 64) (n ∷ ns) 0 0 (omega arith) fit in
    ap (λ m. m ∷ map value_of (map decimal ns)) (value_of-decimal n here) ∙ ap (λ ms. n ∷ ms) (values_back ns (All-tail (λ m. m < 2 ^ 64) n ns fit))

pub all_within : (limit : ℕ) (numbers : List ℕ) → Decides (list_all (λ n. nat_le n limit) numbers) (All (λ n. n ≤ limit) numbers)
all_within limit numbers = Decides-by_and (λ n. nat_le n limit) (λ n. n ≤ limit) (list_all (λ n. nat_le n limit)) (λ n. (leb-true n limit, le-leb n limit)) refl (λ x xs. refl) numbers

module _ (kind : LineKind) (users : ℕ) (line : List ℕ) where
  as_numbers : List ℕ → Option (List ℕ)
  as_numbers numbers = cond (bytes_eq line (line_text kind numbers) && (eqb (length numbers) (count_of kind users)) && list_all (λ n. nat_le n (limit_of kind)) numbers) (Some numbers) None

  pub line_good : (numbers : List ℕ) → length line ≤ MOST_LINE → IsLine kind users line numbers → numbers_of_line kind users line ≡ Some numbers
  unfolding as_numbers
  line_good numbers fits is_line =
      let spelled : map value_of (drop 1 (words_of line)) ≡ numbers = ap (λ l. map value_of (drop 1 (words_of l))) is_line.spelled ∙ ap (λ ws. map value_of (drop 1 ws)) (line_words kind numbers is_line.within)
      ∙ values_back numbers (numbers_fit kind numbers is_line.within) in
      cond-true _ _ _ (le-leb (length line) MOST_LINE fits) ∙ ap as_numbers spelled
      ∙ cond-true _ _ _ (and_from _ _ (and_from _ _ ((bytes_eq-Decides line (line_text kind numbers)).1 is_line.spelled) (eq-eqb (length numbers) (count_of kind users) is_line.many)) ((all_within (limit_of kind) numbers).1 is_line.within))

  pub line_none : length line ≤ MOST_LINE → IsNoLine kind users line → numbers_of_line kind users line ≡ None
  line_none fits none =
      let numbers = map value_of (drop 1 (words_of line)) in
      cond-true _ _ _ (le-leb (length line) MOST_LINE fits) ∙ cond-false _ _ _ (false_from_ne_true _ (λ all.
      let parts = and_parts _ _ all in
      let two = and_parts _ _ parts.0 in
      none numbers (record {
        spelled = (bytes_eq-Decides line (line_text kind numbers)).0 two.0;
        many = eqb-true (length numbers) (count_of kind users) two.1;
        within = (all_within (limit_of kind) numbers).0 parts.1;
      })))

module _ (book : BookView) (kind : LineKind) (line : List ℕ) where
  pub due_left : (spent : Bool) → spent ≡ (is_first kind && nat_le (2 ^ 28) book.quanta) → spent ≡ false → due_numbers book kind line ≡ numbers_of_line kind book.shape.users line
  due_left spent is_spent so = cond-false _ _ _ (sym is_spent ∙ so)

pub wanted_is : (kind : LineKind) (book : BookView) (quantum : ℕ) (rows : List Row) (changed : Bool) → (kind ≡ Demand → ⊥) → quantum ≡ book.quanta → IsMade kind rows book.rows → numbers_of kind (record { quantum = quantum; rows = rows; changed = changed }) ≡ wanted kind book
wanted_is Quantum book quantum rows changed other same_quantum made = ap (λ n. n ∷ []) same_quantum
wanted_is Demand book quantum rows changed other same_quantum made = absurd (other refl)
wanted_is Slices book quantum rows changed other same_quantum made = ap (map (λ (row : Row). row.given)) made
wanted_is Credits book quantum rows changed other same_quantum made = ap (map (λ (row : Row). row.credits)) made

pub made_next : (kind : LineKind) (rows made : List Row) → (kind ≡ Demand → ⊥) → IsMade kind rows made → IsMade (next_kind kind) rows made
made_next Quantum rows made other is_made = tt
made_next Demand rows made other is_made = absurd (other refl)
made_next Slices rows made other is_made = is_made
made_next Credits rows made other is_made = tt

pub at_next : (kind : LineKind) (shares_read : Bool) (lines quanta : ℕ) → (kind ≡ Demand → ⊥) → (kind ≡ Quantum → quanta < 2 ^ 28) → IsAt kind shares_read lines quanta → IsAt (next_kind kind) false (lines + 1) quanta
at_next Quantum shares_read lines quanta other more at = (omega arith, more refl)
at_next Demand shares_read lines quanta other more at = absurd (other refl)
at_next Slices shares_read lines quanta other more at = omega arith
at_next Credits shares_read lines quanta other more at = omega arith

two_at_most : (shares_read : Bool) → (if shares_read then 2 else 1) ≤ 2
two_at_most true = omega arith
two_at_most false = omega arith

pub at_bound : (kind : LineKind) (shares_read : Bool) (lines quanta : ℕ) → quanta ≤ 2 ^ 28 → IsAt kind shares_read lines quanta → lines < 2 ^ 31
at_bound Quantum shares_read lines quanta most at = omega arith
at_bound Demand shares_read lines quanta most at = omega (arith, two_at_most shares_read, at.0)
at_bound Slices shares_read lines quanta most at = omega arith
at_bound Credits shares_read lines quanta most at = omega arith

-- after the demands, and after a line of shares
pub at_slices : (shares_read : Bool) (lines quanta : ℕ) → IsAt Demand shares_read lines quanta → IsAt Slices false (lines + 1) (quanta + 1)
at_slices shares_read lines quanta at = omega (arith, two_at_most shares_read, at.0)

pub at_demand : (lines quanta : ℕ) → IsAt Demand false lines quanta → IsAt Demand true (lines + 1) quanta
at_demand lines quanta at = (omega (arith, at.0), at.1)

pub quantum_left : (kind : LineKind) (quanta : ℕ) (spent : Bool) → spent ≡ (is_first kind && nat_le (2 ^ 28) quanta) → spent ≡ false → kind ≡ Quantum → quanta < 2 ^ 28
quantum_left Quantum quanta spent is_spent left same = leb-false (2 ^ 28) quanta (sym is_spent ∙ left)
quantum_left Demand quanta spent is_spent left same = absurd (cc)
quantum_left Slices quanta spent is_spent left same = absurd (cc)
quantum_left Credits quanta spent is_spent left same = absurd (cc)

pub compared_one : (kind : LineKind) → (kind ≡ Demand → ⊥) → (state : AuditState) (line numbers : List ℕ) (others : AuditState → Ending) → judged kind state line numbers others ≡ compared kind state line numbers others
compared_one Quantum other state line numbers others = refl
compared_one Demand other state line numbers others = absurd (other refl)
compared_one Slices other state line numbers others = refl
compared_one Credits other state line numbers others = refl

-- ---- a line of shares, or of numbers
pub shares_need_demand : (kind : LineKind) (shares_read : Bool) → may_be_shares kind shares_read ≡ true → (kind ≡ Demand) × (shares_read ≡ false)
shares_need_demand Quantum shares_read may = absurd (cc)
shares_need_demand Demand true may = absurd (cc)
shares_need_demand Demand false may = (refl, refl)
shares_need_demand Slices shares_read may = absurd (cc)
shares_need_demand Credits shares_read may = absurd (cc)

pub shares_at_demand : (kind : LineKind) (shares_read : Bool) → (kind ≡ Demand → ⊥) → may_be_shares kind shares_read ≡ false
shares_at_demand Quantum shares_read other = refl
shares_at_demand Demand shares_read other = absurd (other refl)
shares_at_demand Slices shares_read other = refl
shares_at_demand Credits shares_read other = refl

module _ (book : BookView) (kind : LineKind) (shares_read : Bool) (line : List ℕ) where
  pub no_shares_here : may_be_shares kind shares_read ≡ false → due_roster book kind shares_read line ≡ None
  no_shares_here not_here = cond-false _ _ _ not_here

  pub shares_here : may_be_shares kind shares_read ≡ true → due_roster book kind shares_read line ≡ roster_of_line book.shape book.roster line
  shares_here here = cond-true _ _ _ here

  pub one_good : (lines : ℕ) (numbers : List ℕ) → due_roster book kind shares_read line ≡ None → due_numbers book kind line ≡ Some numbers → (others : AuditState → Ending)
      → audit_one (audit_state book kind shares_read lines) line others ≡ judged kind (audit_state book kind shares_read lines) line numbers others
  one_good lines numbers no_roster some others =
      let state = audit_state book kind shares_read lines in
      ap (λ roster. taken_as state line roster others) no_roster ∙ ap (λ due. read_as state line due others) some

  pub one_roster : (lines : ℕ) (roster : List (Option Share)) → due_roster book kind shares_read line ≡ Some roster → (others : AuditState → Ending)
      → audit_one (audit_state book kind shares_read lines) line others ≡ others (audit_state (with_seats book roster) Demand true (lines + 1))
  one_roster lines roster some others = ap (λ due. taken_as (audit_state book kind shares_read lines) line due others) some

-- a line of demands tells no roster
other_letter : (first other : ℕ) → first ≡ 100 → other ≡ 115 → first ≡ other → ⊥
other_letter first other d s same = omega arith

demand_word : (demands : List ℕ) (roster : List (Option Share)) → line_text Demand demands ≡ shares_text roster → ⊥
unfolding line_text shares_text
demand_word demands roster same = other_letter (get_or (line_text Demand demands) 0 0) (get_or (shares_text roster) 0 0) refl refl (ap (λ (line : List ℕ). get_or line 0 0) same)

pub demands_are_no_shares : (book : BookView) (shares_read : Bool) (demands : List ℕ) → due_roster book Demand shares_read (line_text Demand demands) ≡ None
demands_are_no_shares book true demands = refl
demands_are_no_shares book false demands = other_line book.shape book.roster (line_text Demand demands) (demand_word demands)

pub due_good : (due : Option (List ℕ)) (good : Bool) (numbers : List ℕ) → MatchOption due (good ≡ false) (λ read. (good ≡ true) × (numbers ≡ read)) → good ≡ true → due ≡ Some numbers
due_good None good numbers told is_good = absurd (true≢false (sym is_good ∙ told))
due_good (Some read) good numbers told is_good = ap Some (sym told.1)

pub audit_line_is : (state : AuditState) (line : List ℕ) (lines : List (List ℕ)) → audit_end state (line ∷ lines) ≡ audit_one state line (λ next. audit_end next lines)
unfolding audit_end
audit_line_is state line lines = refl

pub audit_over_is : (state : AuditState) → audit_end state [] ≡ audit_over state
unfolding audit_end
audit_over_is state = refl
