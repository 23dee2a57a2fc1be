-- A log of Karma is accepted.
use Rattle.std.proofs.Common.{◌≡◌, ℕ, ◌+◌, ◌-◌, ◌*◌, ◌<◌, ◌≤◌, ◌^◌, Bool, true, false, ◌&&◌, nat_le, if◌then◌else◌, List, [], ◌∷◌, ◌++◌, length, Option, Some, decimal, refl, sym, ◌∙◌, ap, arith}
use Rattle.std.specs.List.{All}
use Rattle.std.proofs.lemmas.Bool.{cond-true, lt-leb}
use Rattle.std.proofs.lemmas.List.{length-append, length-map}
use Rattle.std.proofs.lemmas.List.Elements.{All-nil, All-cons, All-head, All-tail}
use Rattle.std.proofs.lemmas.Slice.Eq.{bytes_eq-Decides}
use Rattle.far_io.specs.Sends.{spaced}
use Rattle.far_io.proofs.Decimals.{decimal_short}
use Rattle.karma_rule.specs.declared.row.Row.{Row}
use Rattle.karma_rule.specs.declared.row.Share.{Share}
use Rattle.karma_rule.specs.declared.shape.Shape.{Shape}
use Rattle.karma_rule.specs.Limits.{IsPlan}
use Rattle.demand_book.specs.Book.{BookView, opening_book}
use Rattle.quantum_text.specs.declared.line_kind.LineKind.{LineKind}
use Rattle.quantum_text.specs.declared.line_kind.LineKind.TheVariants.{Quantum, Demand, Slices, Credits}
use Rattle.quantum_text.specs.LineKind.{limit_of, count_of, word_of, is_first}
use Rattle.quantum_text.specs.Block.{line_text}
use Rattle.quantum_text.specs.Shares.{shares_text}
use Rattle.quantum_text.proofs.Words.{numbers_fit}
use Rattle.run_end.specs.declared.TheConstants.{MOST_LINE}
use Rattle.run_end.specs.declared.status.Status.TheVariants.{Done}
use Rattle.plan_run.specs.Ending.{Ending}
use Rattle.plan_run.specs.SharesLine.{same_roster, is_roster}
use Rattle.plan_run.specs.AuditText.{due_numbers, wanted, AuditState, audit_state, audit_one, audit_end, audited, next_kind, with_seats, after_demands}
use Rattle.plan_run.specs.Auditing.{IsLeft}
use Rattle.plan_run.specs.KarmaLog.{Cause, IsCause, after_cause, shares_lines, log_lines, IsKarmaLog}
use Rattle.plan_run.proofs.SharesLines.{same_roster-Decides, roster_good, roster_parts, shares_fit}
use Rattle.plan_run.proofs.AuditLines.{line_good, due_left, compared_one, no_shares_here, shares_here, shares_at_demand, demands_are_no_shares, one_good, one_roster}
use Rattle.plan_run.proofs.AuditBooks.{inside_next, inside_told, its_slices, its_credits, opens}
use Rattle.plan_run.proofs.KarmaLogs.{demand_lines}

spaced_short : (numbers : List ℕ) → All (λ n. n < 2 ^ 64) numbers → length (spaced numbers) ≤ 21 * length numbers
unfolding spaced
spaced_short [] fit = omega arith
spaced_short (n ∷ ns) fit =
    let first : length (decimal n) ≤ 20 = decimal_short n (All-head (λ n. n < 2 ^ 64) n ns fit) in
    let others : length (spaced ns) ≤ 21 * length ns = spaced_short ns (All-tail (λ n. n < 2 ^ 64) n ns fit) in
    let long : length ((32 ∷ decimal n) ++ spaced ns) ≡ length (32 ∷ decimal n) + length (spaced ns) = length-append (32 ∷ decimal n) (spaced ns) in
    omega arith

word_short : (kind : LineKind) → length (word_of kind) ≤ 7
word_short Quantum = omega arith
word_short Demand = omega arith
word_short Slices = omega arith
word_short Credits = omega arith

line_fits : (kind : LineKind) (numbers : List ℕ) → length numbers ≤ 1024 → All (λ n. n ≤ limit_of kind) numbers → length (line_text kind numbers) ≤ MOST_LINE
unfolding line_text
line_fits kind numbers few within =
    let word : length (word_of kind) ≤ 7 = word_short kind in
    let short : length (spaced numbers) ≤ 21 * length numbers = spaced_short numbers (numbers_fit kind numbers within) in
    let long : length (word_of kind ++ spaced numbers) ≡ length (word_of kind) + length (spaced numbers) = length-append (word_of kind) (spaced numbers) in
    omega arith

pub due_good : (book : BookView) (kind : LineKind) (numbers : List ℕ) → length numbers ≤ 1024 → length numbers ≡ count_of kind book.shape.users → All (λ n. n ≤ limit_of kind) numbers
    → (is_first kind && nat_le (2 ^ 28) book.quanta) ≡ false → due_numbers book kind (line_text kind numbers) ≡ Some numbers
due_good book kind numbers few many within left =
    due_left book kind (line_text kind numbers) false (sym left) refl
    ∙ line_good kind book.shape.users (line_text kind numbers) numbers (line_fits kind numbers few within) (record { spelled = refl; many = many; within = within })

-- the line that is wanted passes
pub passes : (book : BookView) (kind : LineKind) (shares_read : Bool) (lines : ℕ) (numbers : List ℕ) (others : AuditState → Ending) → (kind ≡ Demand → ⊥) → numbers ≡ wanted kind book → due_numbers book kind (line_text kind numbers) ≡ Some numbers
    → audit_one (audit_state book kind shares_read lines) (line_text kind numbers) others ≡ others (audit_state book (next_kind kind) false (lines + 1))
passes book kind shares_read lines numbers others other is due =
    one_good book kind shares_read (line_text kind numbers) lines numbers (no_shares_here book kind shares_read (line_text kind numbers) (shares_at_demand kind shares_read other)) due others
    ∙ compared_one kind other (audit_state book kind shares_read lines) (line_text kind numbers) numbers others
    ∙ cond-true _ _ _ ((bytes_eq-Decides numbers (wanted kind book)).1 is)

-- ---- the lines of a quantum pass
module _ (book : BookView) (demands : List ℕ) (changes : Bool) (inside : IsLeft book changes) (more : book.quanta < 2 ^ 28) (long : length demands ≡ book.shape.users) (low : All (λ demand. demand ≤ 2 ^ 42) demands) where
  abbrev made : BookView
  made = after_demands book demands

  slices_due : due_numbers made Slices (line_text Slices (wanted Slices made)) ≡ Some (wanted Slices made)
  slices_due =
      let next : IsLeft made false = inside_next book demands changes inside low more in
      let few : book.shape.users ≤ 1024 = inside.plan.users.1 in
      let many : length (wanted Slices made) ≡ book.shape.users = length-map made.rows (λ (row : Row). row.given) ∙ next.users in
      due_good made Slices (wanted Slices made) (omega arith) many (its_slices book demands changes inside low more) refl

  credits_due : due_numbers made Credits (line_text Credits (wanted Credits made)) ≡ Some (wanted Credits made)
  credits_due =
      let next : IsLeft made false = inside_next book demands changes inside low more in
      let few : book.shape.users ≤ 1024 = inside.plan.users.1 in
      let many : length (wanted Credits made) ≡ book.shape.users = length-map made.rows (λ (row : Row). row.credits) ∙ next.users in
      due_good made Credits (wanted Credits made) (omega arith) many (its_credits made false next) refl

  -- from the line of demands on
  pub demands_pass : (shares_read : Bool) (number : ℕ) (lines : List (List ℕ)) → audit_end (audit_state book Demand shares_read number) (demand_lines book demands ++ lines) ≡ audit_end (audit_state made Quantum false (number + 1 + 1 + 1)) lines
  unfolding audit_end
  demands_pass shares_read number lines =
      let few : book.shape.users ≤ 1024 = inside.plan.users.1 in
      let third : List (List ℕ) = line_text Slices (wanted Slices made) ∷ line_text Credits (wanted Credits made) ∷ lines in
      let fourth : List (List ℕ) = line_text Credits (wanted Credits made) ∷ lines in
      one_good book Demand shares_read (line_text Demand demands) number demands (demands_are_no_shares book shares_read demands) (due_good book Demand demands (omega arith) long low refl) (λ state. audit_end state third)
      ∙ passes made Slices false (number + 1) (wanted Slices made) (λ state. audit_end state fourth) (λ e. absurd (cc)) refl slices_due
      ∙ passes made Credits false (number + 1 + 1) (wanted Credits made) (λ state. audit_end state lines) (λ e. absurd (cc)) refl credits_due

quantum_passes : (book : BookView) (number : ℕ) (lines : List (List ℕ)) → book.quanta < 2 ^ 28 → audit_end (audit_state book Quantum false number) (line_text Quantum (wanted Quantum book) ∷ lines) ≡ audit_end (audit_state book Demand false (number + 1)) lines
unfolding audit_end
quantum_passes book number lines more =
    passes book Quantum false number (wanted Quantum book) (λ state. audit_end state lines) (λ e. absurd (cc)) refl
    (due_good book Quantum (wanted Quantum book) (omega arith) refl (All-cons (λ n. n ≤ 2 ^ 32 - 1) book.quanta [] (omega arith) (All-nil (λ n. n ≤ 2 ^ 32 - 1))) (lt-leb (2 ^ 28) book.quanta more))

shares_pass : (book : BookView) (roster : List (Option Share)) (number : ℕ) (lines : List (List ℕ)) → IsLeft book false → is_roster book.shape roster ≡ true → same_roster roster book.roster ≡ false
    → audit_end (audit_state book Demand false number) (shares_text roster ∷ lines) ≡ audit_end (audit_state (with_seats book roster) Demand true (number + 1)) lines
unfolding audit_end
shares_pass book roster number lines inside is another =
    let parts = roster_parts book.shape roster is in
    let few : book.shape.users ≤ 1024 = inside.plan.users.1 in
    let fits : length (shares_text roster) ≤ MOST_LINE = shares_fit roster (omega (arith, parts.many)) parts.within in
    one_roster book Demand false (shares_text roster) number roster
    (shares_here book Demand false (shares_text roster) refl ∙ roster_good book.shape book.roster (shares_text roster) roster fits is refl another) (λ state. audit_end state lines)

-- all lines of a quantum pass, and so does what follows where it does after so many lines
module _ (book : BookView) (cause : Cause) (inside : IsLeft book false) (more : book.quanta < 2 ^ 28) (is_cause : IsCause book.shape cause) where
  told : IsLeft (with_seats book cause.roster) true
  told = inside_told book false cause.roster inside is_cause.roster

  pub inside_after : IsLeft (after_cause book cause) false
  inside_after = inside_next (with_seats book cause.roster) cause.demands true (inside_told book false cause.roster inside is_cause.roster) is_cause.within more

  after_number : (number : ℕ) (lines : List (List ℕ)) (same : Bool) → same_roster cause.roster book.roster ≡ same
      → (later : ℕ) × (audit_end (audit_state book Demand false number) ((if same then [] else shares_text cause.roster ∷ []) ++ (demand_lines (with_seats book cause.roster) cause.demands ++ lines)) ≡ audit_end (audit_state (after_cause book cause) Quantum false later) lines)
  after_number number lines true is =
      let is_book : with_seats book cause.roster ≡ book = ap (λ roster. with_seats book roster) ((same_roster-Decides cause.roster book.roster).0 is) in (
        number + 1 + 1 + 1,
        ap (λ (b : BookView). audit_end (audit_state b Demand false number) (demand_lines (with_seats book cause.roster) cause.demands ++ lines)) (sym is_book)
            ∙ demands_pass (with_seats book cause.roster) cause.demands true told more is_cause.users is_cause.within false number lines,
      )
  after_number number lines false is = (
    number + 1 + 1 + 1 + 1,
    shares_pass book cause.roster number (demand_lines (with_seats book cause.roster) cause.demands ++ lines) inside is_cause.roster is
        ∙ demands_pass (with_seats book cause.roster) cause.demands true told more is_cause.users is_cause.within true (number + 1) lines,
  )

  cause_passes : (number : ℕ) (lines : List (List ℕ)) → (later : ℕ) × (audit_end (audit_state book Quantum false number)
      (line_text Quantum (wanted Quantum book) ∷ (shares_lines book.roster cause.roster ++ (demand_lines (with_seats book cause.roster) cause.demands ++ lines))) ≡ audit_end (audit_state (after_cause book cause) Quantum false later) lines)
  cause_passes number lines =
      let rest = after_number (number + 1) lines (same_roster cause.roster book.roster) refl in
      (rest.0, quantum_passes book number (shares_lines book.roster cause.roster ++ (demand_lines (with_seats book cause.roster) cause.demands ++ lines)) more ∙ rest.1)

all_pass : (causes : List Cause) (book : BookView) (number : ℕ) → IsLeft book false → book.quanta + length causes ≤ 2 ^ 28 → All (IsCause book.shape) causes
    → (audit_end (audit_state book Quantum false number) (log_lines book causes)).end.status ≡ Done
unfolding audit_end log_lines
all_pass [] book number inside many within = refl
all_pass (cause ∷ causes) book number inside many within =
    let is_cause : IsCause book.shape cause = All-head (IsCause book.shape) cause causes within in
    let more : book.quanta < 2 ^ 28 = omega arith in
    let after = after_cause book cause in
    let passed = cause_passes book cause inside more is_cause number (log_lines after causes) in
    ap (λ (ending : Ending). ending.end.status) passed.1
    ∙ all_pass causes after passed.0 (inside_after book cause inside more is_cause) (omega arith) (All-tail (IsCause book.shape) cause causes within)

-- a log of Karma is accepted
pub accepted : (shape : Shape) (lines : List (List ℕ)) → IsPlan shape → IsKarmaLog shape lines → (audited shape lines).end.status ≡ Done
accepted shape lines plan log =
    let many : length log.causes ≤ 2 ^ 28 = log.many in
    ap (λ (ls : List (List ℕ)). (audited shape ls).end.status) log.lines_are
    ∙ all_pass log.causes (opening_book shape) 0 (opens shape plan) (omega arith) log.within
