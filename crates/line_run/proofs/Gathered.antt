-- What a run over a buffer in front of a sink is to that sink.
use Rattle.std.proofs.Common.{◌≡◌, ℕ, List, [], ◌++◌, refl, sym, ◌∙◌, subst, inl, inr, append-nil}
use Rattle.far_io.specs.declared.write_buf.WriteBuf.{WriteBuf}
use Rattle.far_io.specs.Adds.{Adds}
use Rattle.far_io.specs.Faults.{Faults, Rose}
use Rattle.far_io.specs.WriteBuf.{BufTook}
use Rattle.far_io.proofs.Adds.{adds_more}
use Rattle.far_io.proofs.WriteBufs.{all_passed_on, part_passed_on}
use Rattle.run_end.specs.Why.{End}
use Rattle.line_run.specs.Chunks.{texts_of, FirstLines, lines_taken}
use Rattle.line_run.specs.LineRules.{LineRules, IsOwnEnd}
use Rattle.line_run.specs.Runs.{Reading, EndsAfter, IsLeftAfter, ComesTo, BreaksOff}
use Rattle.line_run.specs.Chunks.{Chunk}
use Rattle.run_end.specs.declared.status.Status.TheVariants.{ReadFault}
use Rattle.std.proofs.Common.{◌⊎◌, ◌∷◌}

-- the lines that were taken are the first of the input
firsts_of : {R : Type 0} (rules : LineRules R) (read : Reading) (chunks : List Chunk) (last final : R) (end : End) (text : List ℕ) → EndsAfter rules read chunks last final end text → FirstLines read.input chunks
firsts_of rules read chunks last final end text (inl at_line) = λ bytes told. let it = at_line.2 bytes told in (at_line.0 ∷ it.0, it.1)
firsts_of rules read chunks last final end text (inr over) = λ bytes told. ([], over.1 bytes told ∙ sym (append-nil (lines_taken chunks)))

firsts_by : {R : Type 0} (rules : LineRules R) (read : Reading) (chunks : List Chunk) (last final : R) (end : End) (text : List ℕ) → IsOwnEnd end.status ⊎ (end.status ≡ ReadFault)
    → (IsOwnEnd end.status → EndsAfter rules read chunks last final end text) → (end.status ≡ ReadFault → FirstLines read.input chunks) → FirstLines read.input chunks
firsts_by rules read chunks last final end text (inl own) ends ended = firsts_of rules read chunks last final end text (ends own)
firsts_by rules read chunks last final end text (inr fault) ends ended = ended fault

left_of : {R : Type 0} (rules : LineRules R) (read : Reading) (chunks : List Chunk) (last final : R) (end : End) (text : List ℕ) → EndsAfter rules read chunks last final end text → IsLeftAfter rules read chunks last final
left_of rules read chunks last final end text (inl at_line) = inr (at_line.0, end, text, at_line.1, at_line.2)
left_of rules read chunks last final end text (inr over) = inl over.3

-- and the state in which the run ended is that after them, or after the next
left_by : {R : Type 0} (rules : LineRules R) (read : Reading) (chunks : List Chunk) (last final : R) (end : End) (text : List ℕ) → IsOwnEnd end.status ⊎ (end.status ≡ ReadFault)
    → (IsOwnEnd end.status → EndsAfter rules read chunks last final end text) → (end.status ≡ ReadFault → final ≡ last) → IsLeftAfter rules read chunks last final
left_by rules read chunks last final end text (inl own) ends stays = left_of rules read chunks last final end text (ends own)
left_by rules read chunks last final end text (inr fault) ends stays = inl (stays fault)

-- what was gathered couldn't be passed on
pub breaks_at_end : {R O : Type 0} (rules : LineRules R) (read : Reading) (took : O → O → List ℕ → Type 0) (faults : O → Faults) (before now later : O) (first final : R) (end : End) (text : List ℕ)
    → ComesTo rules read took before now first final end text → Adds took now later [] → Rose (faults before) (faults later) → BreaksOff rules read took faults before later first final
breaks_at_end rules read took faults before now later first final end text comes adds rose = record {
  chunks = comes.chunks;
  last = comes.last;
  text = [];
  path = comes.path;
  ends = inl (
    refl,
    firsts_by rules read comes.chunks comes.last final end text comes.how comes.ends (λ fault. (comes.ended fault).0),
    left_by rules read comes.chunks comes.last final end text comes.how comes.ends (λ fault. (comes.ended fault).2),
  );
  adds = record { sent = texts_of comes.chunks ++ []; unsent = []; whole = append-nil (texts_of comes.chunks ++ []); adds = adds_more took before now later (texts_of comes.chunks) [] comes.adds adds };
  rose = rose;
}

-- of a buffer that held nothing as it was made, in front of a sink that was `first` then and is `last` now
module _ {R O : Type 0} (rules : LineRules R) (read : Reading) (took : O → O → List ℕ → Type 0) (faults : O → Faults) (first last : O) (begun now : WriteBuf O) (state final : R) (begun_is : begun.sink.now ≡ first)
    (now_is : now.sink.now ≡ last) (empty : begun.room.now ≡ []) where
  pub gathered_breaks : BreaksOff rules read (BufTook took) (λ (b : WriteBuf O). faults b.sink.now) begun now state final → BreaksOff rules read took faults first last state final
  gathered_breaks run = record {
    chunks = run.chunks;
    last = run.last;
    text = run.text;
    path = run.path;
    ends = run.ends;
    adds = part_passed_on took first last begun now (texts_of run.chunks ++ run.text) begun_is now_is empty run.adds;
    rose = subst (λ (a : O). Rose (faults a) (faults last)) begun_is (subst (λ (b : O). Rose (faults begun.sink.now) (faults b)) now_is run.rose);
  }

  pub gathered_comes : (end : End) (text : List ℕ) → now.room.now ≡ [] → ComesTo rules read (BufTook took) begun now state final end text → ComesTo rules read took first last state final end text
  gathered_comes end text none run = record {
    chunks = run.chunks;
    last = run.last;
    path = run.path;
    adds = all_passed_on took first last begun now (texts_of run.chunks) begun_is now_is empty none run.adds;
    how = run.how;
    ends = run.ends;
    ended = run.ended;
  }

-- what was gathered was passed on
pub comes_passed_on : {R O : Type 0} (rules : LineRules R) (read : Reading) (took : O → O → List ℕ → Type 0) (before now later : O) (first final : R) (end : End) (text : List ℕ)
    → ComesTo rules read took before now first final end text → Adds took now later [] → ComesTo rules read took before later first final end text
comes_passed_on rules read took before now later first final end text run adds = record {
  chunks = run.chunks;
  last = run.last;
  path = run.path;
  adds = subst (λ t. Adds took before later t) (append-nil (texts_of run.chunks)) (adds_more took before now later (texts_of run.chunks) [] run.adds adds);
  how = run.how;
  ends = run.ends;
  ended = run.ended;
}
