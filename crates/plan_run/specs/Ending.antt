-- What a run writes for the lines of its input, and how it ends.
use Rattle.std.specs.Prelude.{◌≡◌, ℕ, List, ◌++◌, Some, None}
use Rattle.run_end.specs.declared.status.Status.{Status}
use Rattle.run_end.specs.Why.{End}
use Rattle.line_run.specs.LineRules.{LineRules}

pub record Ending : Type 0 where
  pub text : List ℕ
  pub end : End

-- with this status, and with one that tells the number of a line
abbrev pub ends_as : Status → End
ends_as status = record { status = status; line = None }

abbrev pub ends_at : Status → ℕ → End
ends_at status line = record { status = status; line = Some line }

-- these bytes first
abbrev pub after_text : List ℕ → Ending → Ending
after_text bytes ending = record { text = bytes ++ ending.text; end = ending.end }

-- The rules of a run whose ending is a function of its lines: `one` is what comes of a line, over what comes of the lines after it, and `none` is what comes of
-- the end of the input. States are seen by `view`, and what `fits` says of one stays true. Where it is `quiet`, nothing is written for a line.
abbrev pub rules_of : {R S : Type 0} → Type 0 → (R → S) → (S → Type 0) → (S → List ℕ → (S → Ending) → Ending) → (S → Ending) → LineRules R
rules_of quiet view fits one none = record {
  takes = λ state chunk next. ((others : _ → Ending) → one (view state) chunk.line others ≡ after_text chunk.text (others (view next))) × (fits (view state) → fits (view next));
  stops = λ state line final end text. (others : _ → Ending) → one (view state) line others ≡ record { text = text; end = end };
  over = λ state end text. none (view state) ≡ record { text = text; end = end };
  quiet = quiet;
}
