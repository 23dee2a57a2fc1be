-- What a run of `plan` came to.
use Rattle.std.proofs.Common.{◌≡◌, ℕ, ◌^◌, Bool, true, false, cond, nat_le, List, [], ◌++◌, Option, Some, None, refl, sym, ◌∙◌, ap, subst, inl, inr, lit<, append-nil}
use Rattle.std.specs.Prelude.{Contains}
use Rattle.far_io.specs.Adds.{Adds}
use Rattle.far_io.specs.Faults.{Faults}
use Rattle.far_io.specs.Left.{IsAtEnd}
use Rattle.far_io.specs.Lines.{lines_of}
use Rattle.far_io.proofs.Adds.{adds_nothing, adds_equal}
use Rattle.far_io.proofs.Faults.{follows_itself}
use Rattle.karma_rule.specs.declared.row.Row.{Row}
use Rattle.karma_rule.specs.declared.shape.Shape.{Shape}
use Rattle.karma_rule.specs.Limits.{IsPlan}
use Rattle.demand_book.specs.Book.{BookView, opening_book}
use Rattle.run_end.specs.Status.{IsWhole}
use Rattle.run_end.specs.Why.{End}
use Rattle.run_end.specs.declared.status.Status.{Status}
use Rattle.run_end.specs.declared.status.Status.TheVariants.{Done, BadWords, BadLine, ReadFault, WriteFault, NoMemory, Spent, NotKarma}
use Rattle.line_run.specs.Chunks.{Chunk, lines_taken, texts_of}
use Rattle.line_run.specs.Runs.{Reading, reading, EndsAfter, RunsTo}
use Rattle.plan_run.specs.declared.plan.Plan.{Plan}
use Rattle.plan_run.specs.Ending.{Ending, ends_as, after_text}
use Rattle.plan_run.specs.Planning.{plan_rules}
use Rattle.plan_run.specs.PlanText.{rows_of_line, line_end, plan_one, plan_over, plan_end, planned}
use Rattle.plan_run.specs.KarmaLog.{IsKarmaLog}
use Rattle.plan_run.specs.Writes.{WritesText, EndsAs, WritesPrefix, Seen}
use Rattle.plan_run.specs.Runs.{plan_statuses, WritesLog, IsPlanned}
use Rattle.plan_run.proofs.Endings.{chunks_are, whole_text, whole_ends, whole_part, fault_part, break_part}
use Rattle.plan_run.proofs.LineEnds.{plan_nothing, plan_line_is}
use Rattle.plan_run.proofs.PlanLogs.{plan_log}

abbrev plan_book : Plan → BookView
plan_book plan = plan.book

-- how a plan may end by itself, and how at a line
abbrev IsPlanEnd : Status → Type 0
IsPlanEnd Done = Unit {0}
IsPlanEnd BadWords = ⊥
IsPlanEnd BadLine = Unit {0}
IsPlanEnd ReadFault = ⊥
IsPlanEnd WriteFault = ⊥
IsPlanEnd NoMemory = ⊥
IsPlanEnd Spent = Unit {0}
IsPlanEnd NotKarma = ⊥

cond_end : (P : Status → Type 0) (test : Bool) (one other : Ending) → P one.end.status → P other.end.status → P (cond test one other).end.status
cond_end P true one other first second = first
cond_end P false one other first second = second

-- what comes of a line, where this comes of the lines after it
one_end : (P : Status → Type 0) (book : BookView) (rows : Option (List Row)) (after : Ending) → P BadLine → P Spent → P after.end.status → P (line_end book rows (λ _. after)).end.status
one_end P book None after bad spent next = bad
one_end P book (Some rows) after bad spent next = cond_end P (nat_le (2 ^ 28) book.quanta) _ _ spent next

after_as : Status → Ending
after_as status = record { text = []; end = ends_as status }

known_end : (read : Reading) (chunks : List Chunk) (last final : Plan) (end : End) (text : List ℕ) → EndsAfter plan_rules read chunks last final end text → IsPlanEnd end.status
unfolding after_as
known_end read chunks last final end text (inl at_line) =
    subst IsPlanEnd (ap (λ (e : Ending). e.end.status) (at_line.1 (λ _. after_as Done))) (one_end IsPlanEnd last.book (rows_of_line last.book.rows at_line.0) (after_as Done) tt tt tt)
known_end read chunks last final end text (inr over) = subst IsPlanEnd (ap (λ (e : Ending). e.end.status) over.0) tt

-- no line ends a plan well
abbrev IsNotDone : Status → Type 0
IsNotDone Done = ⊥
IsNotDone status = Unit {0}

done_over : (read : Reading) (chunks : List Chunk) (last final : Plan) (end : End) (text : List ℕ) → EndsAfter plan_rules read chunks last final end text → end.status ≡ Done → IsAtEnd read.left
unfolding after_as
done_over read chunks last final end text (inl at_line) done =
    absurd (subst IsNotDone (ap (λ (e : Ending). e.end.status) (at_line.1 (λ _. after_as BadLine)) ∙ done) (one_end IsNotDone last.book (rows_of_line last.book.rows at_line.0) (after_as BadLine) tt tt tt))
done_over read chunks last final end text (inr over) done = over.2

done_lines : (read : Reading) (chunks : List Chunk) (last final : Plan) (end : End) (text : List ℕ) → EndsAfter plan_rules read chunks last final end text → end.status ≡ Done
    → (text ≡ []) × ((bytes : List ℕ) → read.input ≡ Some bytes → lines_of bytes ≡ lines_taken chunks)
unfolding after_as
done_lines read chunks last final end text (inl at_line) done =
    absurd (subst IsNotDone (ap (λ (e : Ending). e.end.status) (at_line.1 (λ _. after_as BadLine)) ∙ done) (one_end IsNotDone last.book (rows_of_line last.book.rows at_line.0) (after_as BadLine) tt tt tt))
done_lines read chunks last final end text (inr over) done = (sym (ap (λ (e : Ending). e.text) over.0), over.1)

listed_by : (status : Status) → (status ≡ BadWords → ⊥) → (status ≡ NotKarma → ⊥) → Contains plan_statuses status
listed_by Done known own = (0, lit< tt, refl)
listed_by BadWords known own = absurd (known refl)
listed_by BadLine known own = (1, lit< tt, refl)
listed_by ReadFault known own = (2, lit< tt, refl)
listed_by WriteFault known own = (3, lit< tt, refl)
listed_by NoMemory known own = (4, lit< tt, refl)
listed_by Spent known own = (5, lit< tt, refl)
listed_by NotKarma known own = absurd (own refl)

module _ {O : Type 0} (read : Reading) (took : O → O → List ℕ → Type 0) (faults : O → Faults) (before now : O) (shape : Shape) (first final : Plan) (end : End)
    (run : RunsTo plan_rules read took faults before now first final end) (opens : first.book ≡ opening_book shape) where
  pub never_short : end.status ≡ NoMemory → ⊥
  never_short is = let short = run.no_memory is in subst IsPlanEnd is (known_end read short.chunks short.last final end short.text short.ends)

  never_differs : end.status ≡ NotKarma → ⊥
  never_differs is = let whole = run.whole (subst IsWhole (sym is) tt) in subst IsPlanEnd is (known_end read whole.chunks whole.last final end whole.text whole.ends)

  part_by : (status : Status) → end.status ≡ status → WritesPrefix took before now read.input (plan_end first.book)
  part_by Done is = whole_part ⊥ plan_book (λ _. Unit {0}) plan_one plan_over plan_end plan_nothing plan_line_is read took faults before now first final end (run.whole (subst IsWhole (sym is) tt))
  part_by BadWords is = absurd (run.known is)
  part_by BadLine is = whole_part ⊥ plan_book (λ _. Unit {0}) plan_one plan_over plan_end plan_nothing plan_line_is read took faults before now first final end (run.whole (subst IsWhole (sym is) tt))
  part_by ReadFault is = fault_part ⊥ plan_book (λ _. Unit {0}) plan_one plan_over plan_end plan_nothing plan_line_is read took faults before now first final (run.read_fault is)
  part_by WriteFault is = break_part ⊥ plan_book (λ _. Unit {0}) plan_one plan_over plan_end plan_nothing plan_line_is read took faults before now first final (run.write_fault is)
  part_by NoMemory is = absurd (never_short is)
  part_by Spent is = whole_part ⊥ plan_book (λ _. Unit {0}) plan_one plan_over plan_end plan_nothing plan_line_is read took faults before now first final end (run.whole (subst IsWhole (sym is) tt))
  part_by NotKarma is = absurd (never_differs is)

  -- what is planned for the lines of chunks that were taken
  chunks_planned : (last : Plan) (chunks : List Chunk) → plan_end first.book (lines_taken chunks) ≡ after_text (texts_of chunks) (plan_over last.book)
      → planned shape (lines_taken chunks) ≡ record { text = texts_of chunks; end = ends_as Done }
  chunks_planned last chunks is = ap (λ (b : BookView). plan_end b (lines_taken chunks)) (sym opens) ∙ is ∙ ap (λ t. record { text = t; end = ends_as Done }) (append-nil (texts_of chunks))

  seen_at : end.status ≡ ReadFault → Seen read.input read.left (λ lines. Adds took before now (planned shape lines).text × ((planned shape lines).end.status ≡ Done))
  seen_at is = λ bytes told.
      let fault = run.read_fault is in
      let ended = fault.ended bytes told in
      let whole = chunks_planned fault.last fault.chunks (chunks_are ⊥ plan_book (λ _. Unit {0}) plan_one plan_over plan_end plan_nothing plan_line_is first fault.last fault.chunks fault.path) in (
        record { lines = lines_taken fault.chunks; rest = ended.0; left_is = ended.1; read = ended.2 },
        (adds_equal took before now (texts_of fault.chunks) (planned shape (lines_taken fault.chunks)).text (sym (ap (λ (e : Ending). e.text) whole)) fault.adds, ap (λ (e : Ending). e.end.status) whole),
      )

  log_at : IsPlan shape → end.status ≡ Done → WritesLog took before now shape read.input
  log_at plan is =
      let run_end = run.whole (subst IsWhole (sym is) tt) in
      let over = done_lines read run_end.chunks run_end.last final end run_end.text run_end.ends is in
      let whole = chunks_planned run_end.last run_end.chunks (chunks_are ⊥ plan_book (λ _. Unit {0}) plan_one plan_over plan_end plan_nothing plan_line_is first run_end.last run_end.chunks run_end.path) in
      let text_is : (planned shape (lines_taken run_end.chunks)).text ≡ texts_of run_end.chunks = ap (λ (e : Ending). e.text) whole in
      record {
        text = texts_of run_end.chunks;
        adds = adds_equal took before now (texts_of run_end.chunks ++ run_end.text) (texts_of run_end.chunks) (ap (λ t. texts_of run_end.chunks ++ t) over.0 ∙ append-nil (texts_of run_end.chunks)) run_end.adds;
        is_log = subst (λ (t : List ℕ). IsKarmaLog shape (lines_of t)) text_is (plan_log shape (lines_taken run_end.chunks) plan (ap (λ (e : Ending). e.end.status) whole));
        of_input = λ bytes told. sym text_is ∙ ap (λ ls. (planned shape ls).text) (sym (over.1 bytes told));
      }

  pub planned_to : IsPlan shape → IsPlanned read took faults before now shape end
  planned_to plan = record {
    listed = listed_by end.status run.known never_differs;
    whole = λ whole. subst (λ (b : BookView). WritesText took before now read.input (plan_end b)) opens
        (whole_text ⊥ plan_book (λ _. Unit {0}) plan_one plan_over plan_end plan_nothing plan_line_is read took faults before now first final end (run.whole whole));
    ends = λ whole. subst (λ (b : BookView). EndsAs read.input (plan_end b) end) opens
        (whole_ends ⊥ plan_book (λ _. Unit {0}) plan_one plan_over plan_end plan_nothing plan_line_is read took faults before now first final end (run.whole whole));
    part = subst (λ (b : BookView). WritesPrefix took before now read.input (plan_end b)) opens (part_by end.status refl);
    seen = seen_at;
    log = log_at plan;
    at_end = λ is. let run_end = run.whole (subst IsWhole (sym is) tt) in done_over read run_end.chunks run_end.last final end run_end.text run_end.ends is;
    read_fault = λ is. (run.read_fault is).rose;
    write_fault = λ is. (run.write_fault is).rose;
    source = run.source;
    sink = run.sink;
  }

-- no memory was found before the first byte
pub planned_short : {I O : Type 0} (left : I → Option (List ℕ)) (read_faults : I → Faults) (took : O → O → List ℕ → Type 0) (faults : O → Faults) (source : I) (sink : O) (shape : Shape)
    → IsPlanned (reading left read_faults source source) took faults sink sink shape (ends_as NoMemory)
planned_short left read_faults took faults source sink shape = record {
  listed = (4, lit< tt, refl);
  whole = λ whole. absurd whole;
  ends = λ whole. absurd whole;
  part = λ bytes told. record { sent = []; unsent = (planned shape (lines_of bytes)).text; whole = refl; adds = adds_nothing took sink };
  seen = λ is. absurd (cc);
  log = λ is. absurd (cc);
  at_end = λ is. absurd (cc);
  read_fault = λ is. absurd (cc);
  write_fault = λ is. absurd (cc);
  source = follows_itself (read_faults source);
  sink = follows_itself (faults sink);
}
