-- How a run ended, of what it came to and its last text.
use Rattle.std.proofs.Common.{◌≡◌, ◌⊎◌, ℕ, List, [], refl, sym, subst, inl, inr, append-nil}
use Rattle.far_io.specs.Adds.{AddsPrefix}
use Rattle.far_io.specs.Faults.{Faults, Rose, Follows}
use Rattle.far_io.proofs.Faults.{follows_on, rose_before}
use Rattle.far_io.proofs.Adds.{adds_more}
use Rattle.run_end.specs.Status.{IsWhole}
use Rattle.run_end.specs.Why.{End, status_of, end_of}
use Rattle.run_end.specs.declared.why.Why.{Why}
use Rattle.run_end.specs.declared.why.Why.TheVariants as whys
use Rattle.run_end.specs.declared.status.Status.TheVariants.{ReadFault, WriteFault, NoMemory}
use Rattle.line_run.specs.Chunks.{texts_of}
use Rattle.line_run.specs.LineRules.{LineRules, IsOwnEnd}
use Rattle.line_run.specs.Runs.{Reading, ComesTo, PutsLast, All, Short, Broken, BreaksOff, RunsTo}
use Rattle.line_run.proofs.Writes.{prefix_more}

-- the sink failed within the last text
pub puts_less : {O : Type 0} (took : O → O → List ℕ → Type 0) (faults : O → Faults) (before now : O) (text : List ℕ) (why answer : Why) → (status_of why ≡ NoMemory → answer ≡ why)
    → ((status_of why ≡ NoMemory → ⊥) → answer ≡ whys.WriteFault) → AddsPrefix took before now text → Rose (faults before) (faults now) → PutsLast took faults before now text (end_of why) (end_of answer)
puts_less took faults before now text whys.NoMemory answer want fault part rose =
    subst (λ (w : Why). PutsLast took faults before now text (end_of whys.NoMemory) (end_of w)) (sym (want refl)) (Short refl part rose)
puts_less took faults before now text why answer want fault part rose =
    subst (λ (w : Why). PutsLast took faults before now text (end_of why) (end_of w)) (sym (fault (λ is. cc))) (Broken part rose)

-- a reason that isn't the source's
pub own_end : (why : Why) → (why ≡ whys.ReadFault → ⊥) → IsOwnEnd (status_of why) ⊎ (status_of why ≡ ReadFault) → IsOwnEnd (status_of why)
own_end why other (inl own) = own
own_end whys.ReadFault other (inr is) = absurd (other refl)
own_end why other (inr is) = absurd (cc)

module _ {R O : Type 0} (rules : LineRules R) (read : Reading) (took : O → O → List ℕ → Type 0) (faults : O → Faults) (before now later : O) (first final : R) (end : End) (text : List ℕ)
    (comes : ComesTo rules read took before now first final end text) (source : Follows read.faults read.faults_now) where
  -- the last text of an end that isn't a fault was written, or the sink failed within it
  pub runs_to : (answer : End) → IsOwnEnd end.status → PutsLast took faults now later text end answer → Follows (faults before) (faults now) → Follows (faults now) (faults later)
      → RunsTo rules read took faults before later first final answer
  runs_to answer own (All adds) sink last = record {
    known = λ is. absurd (subst IsOwnEnd is own);
    whole = λ whole. record {
      chunks = comes.chunks;
      last = comes.last;
      text = text;
      path = comes.path;
      ends = comes.ends own;
      adds = adds_more took before now later (texts_of comes.chunks) text comes.adds adds;
    };
    read_fault = λ is. absurd (subst IsOwnEnd is own);
    write_fault = λ is. absurd (subst IsOwnEnd is own);
    no_memory = λ is. record {
      chunks = comes.chunks;
      last = comes.last;
      text = text;
      path = comes.path;
      ends = comes.ends own;
      sent = text;
      unsent = [];
      whole = append-nil text;
      but_for = inl refl;
      adds = adds_more took before now later (texts_of comes.chunks) text comes.adds adds;
    };
    source = source;
    sink = follows_on _ _ _ sink last;
  }
  runs_to answer own (Short is_want fault rose) sink last = record {
    known = λ is. absurd (subst IsOwnEnd is own);
    whole = λ whole. absurd (subst IsWhole is_want whole);
    read_fault = λ is. absurd (subst IsOwnEnd is own);
    write_fault = λ is. absurd (subst IsOwnEnd is own);
    no_memory = λ is. record {
      chunks = comes.chunks;
      last = comes.last;
      text = text;
      path = comes.path;
      ends = comes.ends own;
      sent = fault.sent;
      unsent = fault.unsent;
      whole = fault.whole;
      but_for = inr (rose_before _ _ _ sink rose);
      adds = adds_more took before now later (texts_of comes.chunks) fault.sent comes.adds fault.adds;
    };
    source = source;
    sink = follows_on _ _ _ sink last;
  }
  runs_to answer own (Broken fault rose) sink last = record {
    known = λ is. absurd (cc);
    whole = λ whole. absurd whole;
    read_fault = λ is. absurd (cc);
    write_fault = λ is. record {
      chunks = comes.chunks;
      last = comes.last;
      text = text;
      path = comes.path;
      ends = inr (end, comes.ends own);
      adds = prefix_more took before now later (texts_of comes.chunks) text comes.adds fault;
      rose = rose_before _ _ _ sink rose;
    };
    no_memory = λ is. absurd (cc);
    source = source;
    sink = follows_on _ _ _ sink last;
  }

  -- the source failed
  pub runs_to_fault : end.status ≡ ReadFault → (rules.quiet → now ≡ before) → Rose read.faults read.faults_now → Follows (faults before) (faults now)
      → RunsTo rules read took faults before now first final end
  runs_to_fault is_fault unsent rose sink = record {
    known = λ is. absurd (cc);
    whole = λ whole. absurd (subst IsWhole is_fault whole);
    read_fault = λ is. record { chunks = comes.chunks; last = comes.last; path = comes.path; firsts = (comes.ended is_fault).0; ended = (comes.ended is_fault).1; stays = (comes.ended is_fault).2; adds = comes.adds; unsent = unsent; rose = rose };
    write_fault = λ is. absurd (cc);
    no_memory = λ is. absurd (cc);
    source = source;
    sink = sink;
  }

-- the sink failed before the last text
pub runs_to_break : {R O : Type 0} (rules : LineRules R) (read : Reading) (took : O → O → List ℕ → Type 0) (faults : O → Faults) (before now : O) (first final : R) (end : End) → end.status ≡ WriteFault
    → BreaksOff rules read took faults before now first final → Follows read.faults read.faults_now → Follows (faults before) (faults now) → RunsTo rules read took faults before now first final end
runs_to_break rules read took faults before now first final end is_fault breaks source sink = record {
  known = λ is. absurd (cc);
  whole = λ whole. absurd (subst IsWhole is_fault whole);
  read_fault = λ is. absurd (cc);
  write_fault = λ is. breaks;
  no_memory = λ is. absurd (cc);
  source = source;
  sink = sink;
}
