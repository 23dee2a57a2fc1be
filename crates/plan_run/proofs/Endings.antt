-- Runs of which the ending is a function of the lines.
use Rattle.std.proofs.Common.{◌≡◌, ◌⊎◌, ℕ, List, [], ◌∷◌, ◌++◌, Some, sym, ◌∙◌, ap, subst, inl, inr, append_assoc, append-nil}
use Rattle.far_io.specs.Adds.{Adds, AddsPrefix}
use Rattle.far_io.specs.Faults.{Faults}
use Rattle.far_io.specs.Lines.{lines_of}
use Rattle.far_io.proofs.Adds.{adds_equal}
use Rattle.run_end.specs.Why.{End}
use Rattle.line_run.specs.Chunks.{Chunk, lines_taken, texts_of, Path, FirstLines}
use Rattle.line_run.specs.Runs.{Reading, EndsAfter, IsLeftAfter, RunsToEnd, RunsToFault, BreaksOff}
use Rattle.line_run.proofs.Growing.{lines_none, texts_none, lines_first, texts_first}
use Rattle.plan_run.specs.Ending.{Ending, after_text, rules_of}
use Rattle.plan_run.specs.Writes.{WritesText, EndsAs, WritesPrefix}

after_both : (a b : List ℕ) (ending : Ending) → after_text a (after_text b ending) ≡ after_text (a ++ b) ending
after_both a b ending = ap (λ t. record { text = t; end = ending.end }) (sym (append_assoc a b ending.text))

-- a prefix of the first bytes
prefix_first : {O : Type 0} (took : O → O → List ℕ → Type 0) (before now : O) (first rest whole : List ℕ) → whole ≡ first ++ rest → AddsPrefix took before now first → AddsPrefix took before now whole
prefix_first took before now first rest whole parts fault = record {
  sent = fault.sent;
  unsent = fault.unsent ++ rest;
  whole = sym (append_assoc fault.sent fault.unsent rest) ∙ ap (λ t. t ++ rest) fault.whole ∙ sym parts;
  adds = fault.adds;
}

all_of : {O : Type 0} (took : O → O → List ℕ → Type 0) (before now : O) (bytes : List ℕ) → Adds took before now bytes → AddsPrefix took before now bytes
all_of took before now bytes adds = record { sent = bytes; unsent = []; whole = append-nil bytes; adds = adds }

-- `one` is what comes of a line, over what comes of those after it, and `none` what comes of the end of the input
module _ {R S : Type 0} (quiet : Type 0) (view : R → S) (fits : S → Type 0) (one : S → List ℕ → (S → Ending) → Ending) (none : S → Ending) (ending : S → List (List ℕ) → Ending) (none_is : (state : S) → ending state [] ≡ none state)
    (line_is : (state : S) (line : List ℕ) (lines : List (List ℕ)) → ending state (line ∷ lines) ≡ one state line (λ next. ending next lines)) where
  -- what comes of the lines of some chunks, and of others
  pub path_is : (first last : R) (chunks : List Chunk) → Path (rules_of quiet view fits one none).takes first chunks last → (others : List (List ℕ))
      → ending (view first) (lines_taken chunks ++ others) ≡ after_text (texts_of chunks) (ending (view last) others)
  path_is first last [] same others =
      ap (λ ls. ending (view first) (ls ++ others)) lines_none ∙ ap (λ (r : R). ending (view r) others) same ∙ ap (λ t. after_text t (ending (view last) others)) (sym texts_none)
  path_is first last (chunk ∷ chunks) path others =
      ap (λ ls. ending (view first) (ls ++ others)) (lines_first chunk chunks) ∙ line_is (view first) chunk.line (lines_taken chunks ++ others) ∙ path.1.0 (λ next. ending next (lines_taken chunks ++ others))
      ∙ ap (after_text chunk.text) (path_is path.0 last chunks path.2 others) ∙ after_both chunk.text (texts_of chunks) (ending (view last) others)
      ∙ ap (λ t. after_text t (ending (view last) others)) (sym (texts_first chunk chunks))

  -- what fits at first does at last
  pub fits_last : (first last : R) (chunks : List Chunk) → Path (rules_of quiet view fits one none).takes first chunks last → fits (view first) → fits (view last)
  fits_last first last [] same fit = subst (λ (r : R). fits (view r)) same fit
  fits_last first last (chunk ∷ chunks) path fit = fits_last path.0 last chunks path.2 (path.1.1 fit)

  -- what comes of the lines of the chunks alone
  pub chunks_are : (first last : R) (chunks : List Chunk) → Path (rules_of quiet view fits one none).takes first chunks last → ending (view first) (lines_taken chunks) ≡ after_text (texts_of chunks) (none (view last))
  chunks_are first last chunks path =
      ap (ending (view first)) (sym (append-nil (lines_taken chunks))) ∙ path_is first last chunks path [] ∙ ap (after_text (texts_of chunks)) (none_is (view last))

  module _ {O : Type 0} (read : Reading) (took : O → O → List ℕ → Type 0) (faults : O → Faults) (before now : O) (first final : R) where
    -- the run ended after these chunks
    ends_are : (chunks : List Chunk) (last : R) (end : End) (text : List ℕ) → Path (rules_of quiet view fits one none).takes first chunks last → EndsAfter (rules_of quiet view fits one none) read chunks last final end text
        → (bytes : List ℕ) → read.input ≡ Some bytes → ending (view first) (lines_of bytes) ≡ record { text = texts_of chunks ++ text; end = end }
    ends_are chunks last end text path (inl at_line) bytes told =
        let it = at_line.2 bytes told in
        ap (ending (view first)) it.1 ∙ path_is first last chunks path (at_line.0 ∷ it.0) ∙ ap (after_text (texts_of chunks)) (line_is (view last) at_line.0 it.0 ∙ at_line.1 (λ next. ending next it.0))
    ends_are chunks last end text path (inr over) bytes told =
        ap (ending (view first)) (over.1 bytes told) ∙ chunks_are first last chunks path ∙ ap (after_text (texts_of chunks)) over.0

    -- the texts of first lines are first in the whole text
    first_text : (chunks : List Chunk) (last : R) → Path (rules_of quiet view fits one none).takes first chunks last → FirstLines read.input chunks → (bytes : List ℕ) → read.input ≡ Some bytes
        → (rest : List ℕ) × ((ending (view first) (lines_of bytes)).text ≡ texts_of chunks ++ rest)
    first_text chunks last path firsts bytes told =
        let it = firsts bytes told in
        ((ending (view last) it.0).text, ap (λ ls. (ending (view first) ls).text) it.1 ∙ ap (λ (e : Ending). e.text) (path_is first last chunks path it.0))

    pub whole_text : (end : End) → RunsToEnd (rules_of quiet view fits one none) read took before now first final end → WritesText took before now read.input (ending (view first))
    whole_text end run = λ bytes told. adds_equal took before now (texts_of run.chunks ++ run.text) (ending (view first) (lines_of bytes)).text
        (sym (ap (λ (e : Ending). e.text) (ends_are run.chunks run.last end run.text run.path run.ends bytes told))) run.adds

    pub whole_ends : (end : End) → RunsToEnd (rules_of quiet view fits one none) read took before now first final end → EndsAs read.input (ending (view first)) end
    whole_ends end run = λ bytes told. ap (λ (e : Ending). e.end) (ends_are run.chunks run.last end run.text run.path run.ends bytes told)

    pub whole_part : (end : End) → RunsToEnd (rules_of quiet view fits one none) read took before now first final end → WritesPrefix took before now read.input (ending (view first))
    whole_part end run = λ bytes told. all_of took before now (ending (view first) (lines_of bytes)).text (whole_text end run bytes told)

    pub fault_part : RunsToFault (rules_of quiet view fits one none) read took before now first final → WritesPrefix took before now read.input (ending (view first))
    fault_part run = λ bytes told.
        let rest = first_text run.chunks run.last run.path run.firsts bytes told in
        prefix_first took before now (texts_of run.chunks) rest.0 (ending (view first) (lines_of bytes)).text rest.1 (all_of took before now (texts_of run.chunks) run.adds)

    break_prefix : (chunks : List Chunk) (last : R) (text : List ℕ) → Path (rules_of quiet view fits one none).takes first chunks last
        → ((text ≡ []) × FirstLines read.input chunks × IsLeftAfter (rules_of quiet view fits one none) read chunks last final) ⊎ ((end : End) × EndsAfter (rules_of quiet view fits one none) read chunks last final end text) → AddsPrefix took before now (texts_of chunks ++ text)
        → WritesPrefix took before now read.input (ending (view first))
    break_prefix chunks last text path (inl firsts) fault = λ bytes told.
        let rest = first_text chunks last path firsts.1 bytes told in
        let same : texts_of chunks ++ text ≡ texts_of chunks = ap (λ t. texts_of chunks ++ t) firsts.0 ∙ append-nil (texts_of chunks) in
        prefix_first took before now (texts_of chunks ++ text) rest.0 (ending (view first) (lines_of bytes)).text (rest.1 ∙ ap (λ t. t ++ rest.0) (sym same)) fault
    break_prefix chunks last text path (inr ends) fault = λ bytes told.
        prefix_first took before now (texts_of chunks ++ text) [] (ending (view first) (lines_of bytes)).text
        (ap (λ (e : Ending). e.text) (ends_are chunks last ends.0 text path ends.1 bytes told) ∙ sym (append-nil (texts_of chunks ++ text))) fault

    pub break_part : BreaksOff (rules_of quiet view fits one none) read took faults before now first final → WritesPrefix took before now read.input (ending (view first))
    break_part run = break_prefix run.chunks run.last run.text run.path run.ends run.adds
