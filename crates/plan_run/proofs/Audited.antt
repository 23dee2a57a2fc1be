-- What a run of `audit` came to.
use Rattle.std.proofs.Common.{◌≡◌, ℕ, ◌+◌, ◌-◌, ◌<◌, ◌≤◌, ◌^◌, ◌&&◌, Bool, true, false, cond, nat_le, List, [], ◌++◌, length, map, replicate, Option, Some, None, refl, sym, ◌∙◌, ap, subst, inl, inr, lit<, arith}
use Rattle.std.specs.Prelude.{Contains}
use Rattle.std.specs.List.{All}
use Rattle.std.specs.Str.{bytes_eq}
use Rattle.std.proofs.lemmas.List.{length-map, length-replicate}
use Rattle.std.proofs.lemmas.List.Elements.{All-replicate, All-map}
use Rattle.far_io.specs.Faults.{Faults}
use Rattle.far_io.specs.Left.{IsAtEnd}
use Rattle.far_io.specs.Lines.{lines_of}
use Rattle.far_io.proofs.Adds.{adds_nothing}
use Rattle.far_io.proofs.Faults.{follows_itself}
use Rattle.karma_rule.specs.declared.row.Row.{Row}
use Rattle.karma_rule.specs.declared.row.Share.{Share}
use Rattle.karma_rule.specs.declared.shape.Shape.{Shape}
use Rattle.karma_rule.specs.Limits.{IsPlan}
use Rattle.demand_book.specs.Book.{BookView, opening_book}
use Rattle.quantum_text.specs.LineKind.{is_first}
use Rattle.quantum_text.specs.declared.line_kind.LineKind.{LineKind}
use Rattle.quantum_text.specs.declared.line_kind.LineKind.TheVariants.{Quantum, Demand, Slices, Credits}
use Rattle.run_end.specs.Status.{IsWhole}
use Rattle.run_end.specs.Why.{End}
use Rattle.run_end.specs.declared.status.Status.{Status}
use Rattle.run_end.specs.declared.status.Status.TheVariants.{Done, BadWords, BadLine, ReadFault, WriteFault, NoMemory, Spent, NotKarma}
use Rattle.line_run.specs.Chunks.{Chunk, lines_taken}
use Rattle.line_run.specs.Runs.{Reading, reading, EndsAfter, RunsTo}
use Rattle.plan_run.specs.declared.audit.Audit.{Audit}
use Rattle.plan_run.specs.Ending.{Ending, ends_as, ends_at}
use Rattle.plan_run.specs.AuditText.{AuditState, audit_state, audit_one, audit_over, audit_end, audited, bad_ending, judged, read_as, taken_as, due_numbers, due_roster, wanted, not_karma, after_demands}
use Rattle.plan_run.specs.Auditing.{IsLeft, auditing, audit_rules, IsFit}
use Rattle.plan_run.specs.KarmaLog.{IsKarmaLog}
use Rattle.plan_run.specs.Writes.{WritesText, EndsAs, WritesPrefix, Seen}
use Rattle.plan_run.specs.Runs.{audit_statuses, IsAudited}
use Rattle.plan_run.proofs.AuditLines.{audit_line_is, audit_over_is}
use Rattle.plan_run.proofs.Endings.{path_is, fits_last, whole_text, whole_ends, whole_part, fault_part, break_part}
use Rattle.plan_run.proofs.KarmaLogs.{accepts, credits_line, slices_lines, demand_lines}
use Rattle.plan_run.proofs.AuditBooks.{its_credits, opens}
use Rattle.plan_run.proofs.LogsPass.{accepted, passes, due_good, demands_pass}

abbrev IsAuditEnd : Status → Type 0
IsAuditEnd Done = Unit {0}
IsAuditEnd BadWords = ⊥
IsAuditEnd BadLine = Unit {0}
IsAuditEnd ReadFault = ⊥
IsAuditEnd WriteFault = ⊥
IsAuditEnd NoMemory = ⊥
IsAuditEnd Spent = Unit {0}
IsAuditEnd NotKarma = Unit {0}

abbrev IsNotDone : Status → Type 0
IsNotDone Done = ⊥
IsNotDone status = Unit {0}

after_as : Status → Ending
after_as status = record { text = []; end = ends_as status }

cond_case : (P : Ending → Type 0) (test : Bool) (one other : Ending) → P one → P other → P (cond test one other)
cond_case P true one other first second = first
cond_case P false one other first second = second

-- what comes of a line, where this comes of the lines after it
module _ (P : Ending → Type 0) (after : Ending) (state : AuditState) (line : List ℕ) (bad : P (bad_ending state.book state.kind state.lines)) (next : P after)
    (differs : P (record { text = not_karma (state.lines + 1) state.kind (wanted state.kind state.book) line; end = ends_at NotKarma (state.lines + 1) })) where
  by_kind : (kind : LineKind) → state.kind ≡ kind → (numbers : List ℕ) → P (judged state.kind state line numbers (λ _. after))
  by_kind Quantum is numbers = subst (λ k. P (record { text = not_karma (state.lines + 1) k (wanted k state.book) line; end = ends_at NotKarma (state.lines + 1) }) → P (judged k state line numbers (λ _. after))) (sym is)
      (λ other. cond_case P (bytes_eq numbers (wanted Quantum state.book)) after _ next other) differs
  by_kind Demand is numbers = subst (λ k. P (judged k state line numbers (λ _. after))) (sym is) next
  by_kind Slices is numbers = subst (λ k. P (record { text = not_karma (state.lines + 1) k (wanted k state.book) line; end = ends_at NotKarma (state.lines + 1) }) → P (judged k state line numbers (λ _. after))) (sym is)
      (λ other. cond_case P (bytes_eq numbers (wanted Slices state.book)) after _ next other) differs
  by_kind Credits is numbers = subst (λ k. P (record { text = not_karma (state.lines + 1) k (wanted k state.book) line; end = ends_at NotKarma (state.lines + 1) }) → P (judged k state line numbers (λ _. after))) (sym is)
      (λ other. cond_case P (bytes_eq numbers (wanted Credits state.book)) after _ next other) differs

  by_due : (due : Option (List ℕ)) → P (read_as state line due (λ _. after))
  by_due None = bad
  by_due (Some numbers) = by_kind state.kind refl numbers

  by_roster : (roster : Option (List (Option Share))) → P (taken_as state line roster (λ _. after))
  by_roster None = by_due (due_numbers state.book state.kind line)
  by_roster (Some roster) = next

  one_case : P (audit_one state line (λ _. after))
  one_case = by_roster (due_roster state.book state.kind state.shares_read line)

one_end : (P : Status → Type 0) (state : AuditState) (line : List ℕ) (after : Ending) → P BadLine → P Spent → P NotKarma → P after.end.status → P (audit_one state line (λ _. after)).end.status
one_end P state line after bad spent differs next =
    one_case (λ e. P e.end.status) after state line (cond_case (λ e. P e.end.status) (is_first state.kind && nat_le (2 ^ 28) state.book.quanta) _ _ spent bad) next differs

over_end : (P : Status → Type 0) (state : AuditState) → P Done → P BadLine → P (audit_over state).end.status
over_end P state done bad = cond_case (λ e. P e.end.status) (is_first state.kind) _ _ done bad

known_end : (read : Reading) (chunks : List Chunk) (last final : Audit) (end : End) (text : List ℕ) → EndsAfter audit_rules read chunks last final end text → IsAuditEnd end.status
unfolding after_as
known_end read chunks last final end text (inl at_line) =
    subst IsAuditEnd (ap (λ (e : Ending). e.end.status) (at_line.1 (λ _. after_as Done))) (one_end IsAuditEnd (auditing last) at_line.0 (after_as Done) tt tt tt tt)
known_end read chunks last final end text (inr over) = subst IsAuditEnd (ap (λ (e : Ending). e.end.status) over.0) (over_end IsAuditEnd (auditing last) tt tt)

-- no line ends an audit well
done_over : (read : Reading) (chunks : List Chunk) (last final : Audit) (end : End) (text : List ℕ) → EndsAfter audit_rules read chunks last final end text → end.status ≡ Done → IsAtEnd read.left
unfolding after_as
done_over read chunks last final end text (inl at_line) done =
    absurd (subst IsNotDone (ap (λ (e : Ending). e.end.status) (at_line.1 (λ _. after_as BadLine)) ∙ done) (one_end IsNotDone (auditing last) at_line.0 (after_as BadLine) tt tt tt tt))
done_over read chunks last final end text (inr over) done = over.2

-- ---- each log that was read so far can be completed

with_credits : (book : BookView) (changes shares_read : Bool) (lines : ℕ) → IsLeft book changes → (audit_end (audit_state book Credits shares_read lines) (credits_line book)).end.status ≡ Done
unfolding audit_end
with_credits book changes shares_read lines inside =
    let many : length (wanted Credits book) ≡ book.shape.users = length-map book.rows (λ (row : Row). row.credits) ∙ inside.users in
    let within = its_credits book changes inside in
    let small : book.shape.users ≤ 1024 = inside.plan.users.1 in
    ap (λ (e : Ending). e.end.status) (passes book Credits shares_read lines (wanted Credits book) (λ s. audit_end s []) (λ e. absurd (cc)) refl (due_good book Credits (wanted Credits book) (omega arith) many within refl))

with_slices : (book : BookView) (changes shares_read : Bool) (lines : ℕ) → IsLeft book changes → All (λ n. n ≤ 2 ^ 64 - 1) (map (λ (row : Row). row.given) book.rows)
    → (audit_end (audit_state book Slices shares_read lines) (slices_lines book)).end.status ≡ Done
unfolding audit_end
with_slices book changes shares_read lines inside within =
    let many : length (wanted Slices book) ≡ book.shape.users = length-map book.rows (λ (row : Row). row.given) ∙ inside.users in
    let small : book.shape.users ≤ 1024 = inside.plan.users.1 in
    ap (λ (e : Ending). e.end.status) (passes book Slices shares_read lines (wanted Slices book) (λ s. audit_end s (credits_line book)) (λ e. absurd (cc)) refl (due_good book Slices (wanted Slices book) (omega arith) many within refl))
    ∙ with_credits book changes false (lines + 1) inside

abbrev no_demands : BookView → List ℕ
no_demands book = replicate book.shape.users 0

with_demand : (book : BookView) (changes shares_read : Bool) (lines : ℕ) → IsLeft book changes → book.quanta < 2 ^ 28 → (audit_end (audit_state book Demand shares_read lines) (demand_lines book (no_demands book))).end.status ≡ Done
with_demand book changes shares_read lines inside more =
    let demands = no_demands book in
    let low : All (λ demand. demand ≤ 2 ^ 42) demands = All-replicate (λ demand. demand ≤ 2 ^ 42) book.shape.users 0 (omega arith) in
    ap (λ (e : Ending). e.end.status) (demands_pass book demands changes inside more (length-replicate book.shape.users 0) low shares_read lines [] ∙ audit_over_is (audit_state (after_demands book demands) Quantum false (lines + 1 + 1 + 1)))

completed : (kind : LineKind) (book : BookView) (shares_read : Bool) (lines : ℕ) → IsFit (audit_state book kind shares_read lines) → (more : List (List ℕ)) × ((audit_end (audit_state book kind shares_read lines) more).end.status ≡ Done)
completed Quantum book shares_read lines fit = ([], ap (λ (e : Ending). e.end.status) (audit_over_is (audit_state book Quantum shares_read lines)))
completed Demand book shares_read lines fit = (_, with_demand book shares_read shares_read lines fit.inside (fit.left refl))
completed Slices book shares_read lines fit = (_, with_slices book shares_read shares_read lines fit.inside fit.given)
completed Credits book shares_read lines fit = (_, with_credits book shares_read shares_read lines fit.inside)

-- an opening book fits
pub fit_opening : (shape : Shape) → IsPlan shape → IsFit (audit_state (opening_book shape) Quantum false 0)
fit_opening shape plan = record {
  inside = opens shape plan;
  given = All-map (λ n. n ≤ 2 ^ 64 - 1) (λ (row : Row). row.given) (opening_book shape).rows (All-replicate (λ (row : Row). row.given ≤ 2 ^ 64 - 1) shape.users _ (omega arith));
  shares = λ told. absurd (cc);
  left = λ is. absurd (cc);
}

listed_by : (status : Status) → (status ≡ BadWords → ⊥) → Contains audit_statuses status
listed_by Done known = (0, lit< tt, refl)
listed_by BadWords known = absurd (known refl)
listed_by BadLine known = (1, lit< tt, refl)
listed_by ReadFault known = (2, lit< tt, refl)
listed_by WriteFault known = (3, lit< tt, refl)
listed_by NoMemory known = (4, lit< tt, refl)
listed_by Spent known = (5, lit< tt, refl)
listed_by NotKarma known = (6, lit< tt, refl)

module _ {O : Type 0} (read : Reading) (took : O → O → List ℕ → Type 0) (faults : O → Faults) (before now : O) (shape : Shape) (first final : Audit) (end : End)
    (run : RunsTo audit_rules read took faults before now first final end) (opens_as : auditing first ≡ audit_state (opening_book shape) Quantum false 0) where
  pub never_short : end.status ≡ NoMemory → ⊥
  never_short is = let short = run.no_memory is in subst IsAuditEnd is (known_end read short.chunks short.last final end short.text short.ends)

  part_by : (status : Status) → end.status ≡ status → WritesPrefix took before now read.input (audit_end (auditing first))
  part_by Done is = whole_part (Unit {0}) auditing IsFit audit_one audit_over audit_end audit_over_is audit_line_is read took faults before now first final end (run.whole (subst IsWhole (sym is) tt))
  part_by BadWords is = absurd (run.known is)
  part_by BadLine is = whole_part (Unit {0}) auditing IsFit audit_one audit_over audit_end audit_over_is audit_line_is read took faults before now first final end (run.whole (subst IsWhole (sym is) tt))
  part_by ReadFault is = fault_part (Unit {0}) auditing IsFit audit_one audit_over audit_end audit_over_is audit_line_is read took faults before now first final (run.read_fault is)
  part_by WriteFault is = break_part (Unit {0}) auditing IsFit audit_one audit_over audit_end audit_over_is audit_line_is read took faults before now first final (run.write_fault is)
  part_by NoMemory is = absurd (never_short is)
  part_by Spent is = whole_part (Unit {0}) auditing IsFit audit_one audit_over audit_end audit_over_is audit_line_is read took faults before now first final end (run.whole (subst IsWhole (sym is) tt))
  part_by NotKarma is = whole_part (Unit {0}) auditing IsFit audit_one audit_over audit_end audit_over_is audit_line_is read took faults before now first final end (run.whole (subst IsWhole (sym is) tt))

  ends_as_audited : IsWhole end.status → EndsAs read.input (audited shape) end
  ends_as_audited whole = subst (λ (s : AuditState). EndsAs read.input (audit_end s) end) opens_as
      (whole_ends (Unit {0}) auditing IsFit audit_one audit_over audit_end audit_over_is audit_line_is read took faults before now first final end (run.whole whole))

  seen_at : IsPlan shape → end.status ≡ ReadFault → Seen read.input read.left (λ lines. (more : List (List ℕ)) × IsKarmaLog shape (lines ++ more))
  seen_at plan is = λ bytes told.
      let fault = run.read_fault is in
      let ended = fault.ended bytes told in
      let fit = fits_last (Unit {0}) auditing IsFit audit_one audit_over audit_end audit_over_is audit_line_is first fault.last fault.chunks fault.path (subst IsFit (sym opens_as) (fit_opening shape plan)) in
      let more = completed fault.last.kind fault.last.book fault.last.shares_read fault.last.number fit in
      let whole = path_is (Unit {0}) auditing IsFit audit_one audit_over audit_end audit_over_is audit_line_is first fault.last fault.chunks fault.path more.0 in
      let done : (audited shape (lines_taken fault.chunks ++ more.0)).end.status ≡ Done =
      ap (λ (s : AuditState). (audit_end s (lines_taken fault.chunks ++ more.0)).end.status) (sym opens_as) ∙ ap (λ (e : Ending). e.end.status) whole ∙ more.1 in (
        record { lines = lines_taken fault.chunks; rest = ended.0; left_is = ended.1; read = ended.2 },
        (more.0, accepts shape (lines_taken fault.chunks ++ more.0) plan done),
      )

  pub audited_to : IsPlan shape → IsAudited read took faults before now shape end
  audited_to plan = record {
    listed = listed_by end.status run.known;
    whole = λ whole. subst (λ (s : AuditState). WritesText took before now read.input (audit_end s)) opens_as
        (whole_text (Unit {0}) auditing IsFit audit_one audit_over audit_end audit_over_is audit_line_is read took faults before now first final end (run.whole whole));
    ends = ends_as_audited;
    part = subst (λ (s : AuditState). WritesPrefix took before now read.input (audit_end s)) opens_as (part_by end.status refl);
    seen = seen_at plan;
    unsent = λ is. (run.read_fault is).unsent tt;
    accepts = λ is bytes told. accepts shape (lines_of bytes) plan (ap (λ (e : End). e.status) (ends_as_audited (subst IsWhole (sym is) tt) bytes told) ∙ is);
    accepted = λ whole bytes told log. ap (λ (e : End). e.status) (sym (ends_as_audited whole bytes told)) ∙ accepted shape (lines_of bytes) plan log;
    at_end = λ is. let run_end = run.whole (subst IsWhole (sym is) tt) in done_over read run_end.chunks run_end.last final end run_end.text run_end.ends is;
    read_fault = λ is. (run.read_fault is).rose;
    write_fault = λ is. (run.write_fault is).rose;
    source = run.source;
    sink = run.sink;
  }

-- no memory was found before the first byte
pub audited_short : {I O : Type 0} (left : I → Option (List ℕ)) (read_faults : I → Faults) (took : O → O → List ℕ → Type 0) (faults : O → Faults) (source : I) (sink : O) (shape : Shape)
    → IsAudited (reading left read_faults source source) took faults sink sink shape (ends_as NoMemory)
audited_short left read_faults took faults source sink shape = record {
  listed = (4, lit< tt, refl);
  whole = λ whole. absurd whole;
  ends = λ whole. absurd whole;
  part = λ bytes told. record { sent = []; unsent = (audited shape (lines_of bytes)).text; whole = refl; adds = adds_nothing took sink };
  seen = λ is. absurd (cc);
  unsent = λ is. absurd (cc);
  accepts = λ is. absurd (cc);
  accepted = λ whole. absurd whole;
  at_end = λ is. absurd (cc);
  read_fault = λ is. absurd (cc);
  write_fault = λ is. absurd (cc);
  source = follows_itself (read_faults source);
  sink = follows_itself (faults sink);
}
