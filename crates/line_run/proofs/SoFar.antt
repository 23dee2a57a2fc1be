-- What the loop over lines keeps, and what comes of it at its end.
use Rattle.std.proofs.Common.{◌≡◌, ℕ, ◌<◌, ◌≤◌, Bool, false, List, [], ◌∷◌, ◌++◌, length, Option, Some, None, refl, sym, ◌∙◌, ap, subst, inl, inr, append_assoc, append-nil}
use Rattle.far_io.specs.Adds.{Adds, AddsPrefix}
use Rattle.far_io.specs.Faults.{Faults, Rose}
use Rattle.far_io.specs.Lines.{line_of, after_line, lines_of, ended_lines_of}
use Rattle.far_io.specs.Left.{in_front, IsAtEnd}
use Rattle.far_io.specs.LineView.{LineView}
use Rattle.far_io.specs.Reads.{ReadsLine, ReadsTooLong, ReadsFault}
use Rattle.far_io.proofs.Left.{in_front_none, in_front_told}
use Rattle.far_io.proofs.LineLaws.{ended_first, ended_none, lines_of_none}
use Rattle.far_io.proofs.Adds.{adds_nothing, adds_more, adds_equal}
use Rattle.run_end.specs.declared.TheConstants.{MOST_LINE}
use Rattle.run_end.specs.Why.{End}
use Rattle.run_end.specs.declared.status.Status.TheVariants.{ReadFault}
use Rattle.line_run.specs.Chunks.{Chunk, chunk_of, lines_taken, texts_of, with_ends, Path, AllLines, LinesBefore, FirstLines, EndedLines}
use Rattle.line_run.specs.LineRules.{LineRules, IsOwnEnd}
use Rattle.line_run.specs.Runs.{Reading, ComesTo, BreaksOff}
use Rattle.line_run.proofs.Growing.{lines_none, texts_none, ends_none, lines_more, texts_more, ends_more, lines_then, path_more}
use Rattle.line_run.proofs.Writes.{prefix_more, prefix_equal}

-- The chunks lead to the state, the sink took their texts, and what is left stands for the other lines. While no last line without a line end was
-- read, their lines were read with their ends.
pub record SoFar {R O : Type 0} (rules : LineRules R) (took : O → O → List ℕ → Type 0) (before now : O) (input left : Option (List ℕ)) (first state : R) (ended : Bool) : Type 0 where
  pub chunks : List Chunk
  pub path : Path rules.takes first chunks state
  pub adds : Adds took before now (texts_of chunks)
  pub rest : (bytes : List ℕ) → input ≡ Some bytes → (others : List ℕ) × (left ≡ Some others) × (lines_of bytes ≡ lines_taken chunks ++ lines_of others)
  pub seen : ended ≡ false → (bytes : List ℕ) → input ≡ Some bytes → (others : List ℕ) × (left ≡ Some others) × (bytes ≡ with_ends (lines_taken chunks) ++ others)
      × ((more : List ℕ) → ended_lines_of (with_ends (lines_taken chunks) ++ more) ≡ lines_taken chunks ++ ended_lines_of more)

no_ends : (more : List ℕ) → with_ends (lines_taken []) ++ more ≡ more
no_ends more = ap (λ t. t ++ more) (ap with_ends lines_none ∙ ends_none)

no_lines : (lines : List (List ℕ)) → lines ≡ lines_taken [] ++ lines
no_lines lines = ap (λ (ls : List (List ℕ)). ls ++ lines) (sym lines_none)

starts_with : {R O : Type 0} (rules : LineRules R) (took : O → O → List ℕ → Type 0) (sink : O) (input : Option (List ℕ)) (state : R) (ended : Bool) → SoFar rules took sink sink input input state state ended
starts_with rules took sink input state ended = record {
  chunks = [];
  path = refl;
  adds = adds_equal took sink sink [] (texts_of []) (sym texts_none) (adds_nothing took sink);
  rest = λ bytes told. (bytes, told, no_lines (lines_of bytes));
  seen = λ going bytes told. (bytes, told, sym (no_ends bytes), λ more. ap ended_lines_of (no_ends more) ∙ no_lines (ended_lines_of more));
}

-- nothing was taken from the source yet
pub starts : {R O : Type 0} (rules : LineRules R) (took : O → O → List ℕ → Type 0) (sink : O) (input : Option (List ℕ)) (state : R) (ended : Bool) (ahead : List ℕ) → ahead ≡ []
    → SoFar rules took sink sink input (in_front ahead input) state state ended
starts rules took sink input state ended ahead fresh =
    subst (λ (i : Option (List ℕ)). SoFar rules took sink sink input i state state ended) (sym (ap (λ (bytes : List ℕ). in_front bytes input) fresh ∙ in_front_none input)) (starts_with rules took sink input state ended)

-- the line was taken from what was left, with its line end or as the last
piece_of : (left now : Option (List ℕ)) (old new : LineView) → ReadsLine left now old new → new.ended ≡ false → (others : List ℕ) → left ≡ Some others
    → (rest : List ℕ) × (now ≡ Some rest) × (others ≡ (new.line ++ 10 ∷ []) ++ rest)
piece_of left now old new reads going others told = elim reads.spelled.1 [
  | inl p ↦ in_front_told (new.line ++ 10 ∷ []) others now (sym p.1 ∙ told)
  | inr p ↦ absurd (cc (p.0, going))
]

-- the next line was read
pub next_line : (left now : Option (List ℕ)) (old new : LineView) → ReadsLine left now old new → (others : List ℕ) → left ≡ Some others → (rest : List (List ℕ)) × (lines_of others ≡ new.line ∷ rest)
next_line left now old new reads others told = let got = reads.told others told in (lines_of got.0, got.2.lines)

-- a line that is too long, and comes next where what is left is told
pub long_line : (left : Option (List ℕ)) (old new : LineView) (limit : ℕ) (now : Option (List ℕ)) → ReadsTooLong left now old new limit
    → (line : List ℕ) × (limit < length line) × ((others : List ℕ) → left ≡ Some others → (rest : List (List ℕ)) × (lines_of others ≡ line ∷ rest))
long_line None old new limit now reads = (line_of new.ahead, reads.long, λ others told. absurd (cc told))
long_line (Some bytes) old new limit now reads =
    let told = reads.told bytes refl in
    (line_of bytes, told.0, λ others same. let e : bytes ≡ others = cc in (lines_of (after_line bytes), sym (ap lines_of e) ∙ told.1.lines))

module _ {R O : Type 0} (rules : LineRules R) (took : O → O → List ℕ → Type 0) (before now : O) (input left : Option (List ℕ)) (first state : R) (ended : Bool)
    (so_far : SoFar rules took before now input left first state ended) where
  pub first_lines : FirstLines input so_far.chunks
  first_lines = λ bytes told. let more = so_far.rest bytes told in (lines_of more.0, more.2)

  -- this line comes next
  pub lines_before : (line : List ℕ) → ((others : List ℕ) → left ≡ Some others → (rest : List (List ℕ)) × (lines_of others ≡ line ∷ rest)) → LinesBefore input so_far.chunks line
  lines_before line next = λ bytes told.
      let more = so_far.rest bytes told in
      let got = next more.0 more.1 in
      (got.0, more.2 ∙ ap (λ ls. lines_taken so_far.chunks ++ ls) got.1)

  -- what the sink gathered was passed on
  pub passed_on : (later : O) → Adds took now later [] → SoFar rules took before later input left first state ended
  passed_on later adds = record {
    chunks = so_far.chunks;
    path = so_far.path;
    adds = adds_equal took before later (texts_of so_far.chunks ++ []) (texts_of so_far.chunks) (append-nil (texts_of so_far.chunks)) (adds_more took before now later (texts_of so_far.chunks) [] so_far.adds adds);
    rest = so_far.rest;
    seen = so_far.seen;
  }

  -- nothing is left
  pub all_lines : IsAtEnd left → AllLines input so_far.chunks
  all_lines empty = λ bytes told.
      let more = so_far.rest bytes told in
      more.2 ∙ ap (λ t. lines_taken so_far.chunks ++ lines_of t) (empty more.0 more.1) ∙ ap (λ ls. lines_taken so_far.chunks ++ ls) lines_of_none ∙ append-nil (lines_taken so_far.chunks)

  -- the source failed
  pub ended_lines : (left_now : Option (List ℕ)) (old new : LineView) → old.limit ≡ MOST_LINE → ended ≡ false → ReadsFault left (in_front new.ahead left_now) old new → EndedLines input left_now so_far.chunks
  ended_lines left_now old new limit going fault = λ bytes told.
      let a = so_far.seen going bytes told in
      let got = in_front_told new.ahead a.0 left_now (fault.kept ∙ a.1) in (
        got.0,
        got.1,
        record {
          part = new.ahead;
          whole = a.2 ∙ ap (λ t. with_ends (lines_taken so_far.chunks) ++ t) got.2 ∙ sym (append_assoc (with_ends (lines_taken so_far.chunks)) new.ahead got.0);
          lines_are = a.3 new.ahead ∙ ap (λ ls. lines_taken so_far.chunks ++ ls) (ended_none new.ahead fault.part) ∙ append-nil (lines_taken so_far.chunks);
          part_is = fault.part;
          short = subst (λ n. length new.ahead ≤ n) limit fault.fits;
        },
      )

  -- the run ends at this line
  pub comes_to_stop : (read : Reading) (line : List ℕ) (end : End) (text : List ℕ) (final : R) → read.input ≡ input → IsOwnEnd end.status → rules.stops state line final end text
      → ((others : List ℕ) → left ≡ Some others → (rest : List (List ℕ)) × (lines_of others ≡ line ∷ rest)) → ComesTo rules read took before now first final end text
  comes_to_stop read line end text final same own stops next = record {
    chunks = so_far.chunks;
    last = state;
    path = so_far.path;
    adds = so_far.adds;
    how = inl own;
    ends = λ _. inl (line, stops, subst (λ (i : Option (List ℕ)). LinesBefore i so_far.chunks line) (sym same) (lines_before line next));
    ended = λ fault. absurd (subst IsOwnEnd fault own);
  }

  -- the same where nothing went to the sink since
  pub comes_to_stop_unsent : (read : Reading) (line : List ℕ) (end : End) (text : List ℕ) (final : R) (later : O) → later ≡ now → read.input ≡ input → IsOwnEnd end.status → rules.stops state line final end text
      → ((others : List ℕ) → left ≡ Some others → (rest : List (List ℕ)) × (lines_of others ≡ line ∷ rest)) → ComesTo rules read took before later first final end text
  comes_to_stop_unsent read line end text final later unsent same own stops next =
      subst (λ (sink : O). ComesTo rules read took before sink first final end text) (sym unsent) (comes_to_stop read line end text final same own stops next)

  -- it ends at the end of the input
  pub comes_to_over : (read : Reading) (end : End) (text : List ℕ) → read.input ≡ input → IsOwnEnd end.status → rules.over state end text → IsAtEnd left → IsAtEnd read.left
      → ComesTo rules read took before now first state end text
  comes_to_over read end text same own over empty at_end = record {
    chunks = so_far.chunks;
    last = state;
    path = so_far.path;
    adds = so_far.adds;
    how = inl own;
    ends = λ _. inr (over, subst (λ (i : Option (List ℕ)). AllLines i so_far.chunks) (sym same) (all_lines empty), at_end, refl);
    ended = λ fault. absurd (subst IsOwnEnd fault own);
  }

  -- it ends where the source failed
  pub comes_to_fault : (read : Reading) (end : End) (text : List ℕ) (old new : LineView) → read.input ≡ input → end.status ≡ ReadFault → old.limit ≡ MOST_LINE → ended ≡ false
      → ReadsFault left (in_front new.ahead read.left) old new → ComesTo rules read took before now first state end text
  comes_to_fault read end text old new same is_fault limit going fault = record {
    chunks = so_far.chunks;
    last = state;
    path = so_far.path;
    adds = so_far.adds;
    how = inr is_fault;
    ends = λ own. absurd (subst IsOwnEnd is_fault own);
    ended = λ _. subst (λ (i : Option (List ℕ)). FirstLines i so_far.chunks × EndedLines i read.left so_far.chunks × (state ≡ state)) (sym same) (first_lines, ended_lines read.left old new limit going fault, refl);
  }

  -- the sink failed before a further line was read
  pub breaks_before : (read : Reading) (faults : O → Faults) (later : O) → read.input ≡ input → Adds took now later [] → Rose (faults before) (faults later) → BreaksOff rules read took faults before later first state
  breaks_before read faults later same fault rose = record {
    chunks = so_far.chunks;
    last = state;
    text = [];
    path = so_far.path;
    ends = inl (refl, subst (λ (i : Option (List ℕ)). FirstLines i so_far.chunks) (sym same) first_lines, inl refl);
    adds = prefix_more took before now later (texts_of so_far.chunks) [] so_far.adds (record { sent = []; unsent = []; whole = refl; adds = fault });
    rose = rose;
  }

  -- one chunk more
  module _ (left_later : Option (List ℕ)) (old new : LineView) (reads : ReadsLine left left_later old new) (text : List ℕ) (next : R) (taken : rules.takes state (chunk_of new.line text) next) where
    chunks_now : List Chunk
    chunks_now = so_far.chunks ++ chunk_of new.line text ∷ []

    path_now : Path rules.takes first chunks_now next
    unfolding chunks_now
    path_now = path_more rules.takes first state next so_far.chunks (chunk_of new.line text) so_far.path taken

    rest_now : (bytes : List ℕ) → input ≡ Some bytes → (others : List ℕ) × (left_later ≡ Some others) × (lines_of bytes ≡ lines_taken chunks_now ++ lines_of others)
    unfolding chunks_now
    rest_now = λ bytes told.
        let more = so_far.rest bytes told in
        let got = reads.told more.0 more.1 in
        (got.0, got.1, more.2 ∙ ap (λ ls. lines_taken so_far.chunks ++ ls) got.2.lines ∙ lines_then so_far.chunks (chunk_of new.line text) (lines_of got.0))

    -- the sink failed within its text
    pub breaks_within : (read : Reading) (faults : O → Faults) (later : O) → read.input ≡ input → AddsPrefix took now later text → Rose (faults before) (faults later) → BreaksOff rules read took faults before later first next
    unfolding chunks_now
    breaks_within read faults later same fault rose = record {
      chunks = chunks_now;
      last = next;
      text = [];
      path = path_now;
      ends = inl (refl, subst (λ (i : Option (List ℕ)). FirstLines i chunks_now) (sym same) (λ bytes told. let more = rest_now bytes told in (lines_of more.0, more.2)), inl refl);
      adds = prefix_equal took before later (texts_of so_far.chunks ++ text) (texts_of chunks_now ++ []) (sym (texts_more so_far.chunks (chunk_of new.line text)) ∙ sym (append-nil (texts_of chunks_now)))
          (prefix_more took before now later (texts_of so_far.chunks) text so_far.adds fault);
      rose = rose;
    }

    ends_now : with_ends (lines_taken chunks_now) ≡ with_ends (lines_taken so_far.chunks) ++ (new.line ++ 10 ∷ [])
    unfolding chunks_now
    ends_now = ap with_ends (lines_more so_far.chunks (chunk_of new.line text)) ∙ ends_more (lines_taken so_far.chunks) new.line

    ended_now : (more : List ℕ) → ((rest : List ℕ) → ended_lines_of (with_ends (lines_taken so_far.chunks) ++ rest) ≡ lines_taken so_far.chunks ++ ended_lines_of rest)
        → ended_lines_of (with_ends (lines_taken chunks_now) ++ more) ≡ lines_taken chunks_now ++ ended_lines_of more
    unfolding chunks_now
    ended_now more ended_before =
        ap (λ t. ended_lines_of (t ++ more)) ends_now ∙ ap ended_lines_of (append_assoc (with_ends (lines_taken so_far.chunks)) (new.line ++ 10 ∷ []) more) ∙ ended_before ((new.line ++ 10 ∷ []) ++ more)
        ∙ ap (λ ls. lines_taken so_far.chunks ++ ls) (ap ended_lines_of (append_assoc new.line (10 ∷ []) more) ∙ ended_first new.line more reads.spelled.0)
        ∙ lines_then so_far.chunks (chunk_of new.line text) (ended_lines_of more)

    -- the sink took its text
    pub goes_on : (later : O) → ended ≡ false → Adds took now later text → SoFar rules took before later input left_later first next new.ended
    unfolding chunks_now
    goes_on later was_going sends = record {
      chunks = chunks_now;
      path = path_now;
      adds = adds_equal took before later (texts_of so_far.chunks ++ text) (texts_of chunks_now) (sym (texts_more so_far.chunks (chunk_of new.line text)))
          (adds_more took before now later (texts_of so_far.chunks) text so_far.adds sends);
      rest = rest_now;
      seen = λ going bytes told.
          let a = so_far.seen was_going bytes told in
          let got = piece_of left left_later old new reads going a.0 a.1 in (
            got.0,
            got.1,
            a.2 ∙ ap (λ t. with_ends (lines_taken so_far.chunks) ++ t) got.2 ∙ sym (append_assoc (with_ends (lines_taken so_far.chunks)) (new.line ++ 10 ∷ []) got.0)
                ∙ ap (λ t. t ++ got.0) (sym ends_now),
            λ more. ended_now more a.3,
          );
    }

-- what the sink gathered was passed on, and the buffer of lines is as before
pub after_pass : {R O : Type 0} (rules : LineRules R) (took : O → O → List ℕ → Type 0) (before now later : O) (input unread : Option (List ℕ)) (first state : R) (old new : LineView)
    → SoFar rules took before now input (in_front old.ahead unread) first state old.ended → Adds took now later [] → new ≡ old → SoFar rules took before later input (in_front new.ahead unread) first state new.ended
after_pass rules took before now later input unread first state old new so_far adds kept =
    subst (λ (line : LineView). SoFar rules took before later input (in_front line.ahead unread) first state line.ended) (sym kept)
    (passed_on rules took before now input (in_front old.ahead unread) first state old.ended so_far later adds)
