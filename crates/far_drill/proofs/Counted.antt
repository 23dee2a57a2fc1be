-- Counts over one byte more.
use Rattle.std.proofs.Common.{◌≡◌, ◌≢◌, ℕ, ◌+◌, ◌<◌, ◌≤◌, Bool, true, false, cond, List, [], ◌∷◌, ◌++◌, length, sym, ◌∙◌, ap, subst, arith}
use Rattle.std.specs.List.{count_by}
use Rattle.std.proofs.lemmas.List.{take_all, take-append-le, length-take, length-append}
use Rattle.std.proofs.lemmas.List.Sums.{sum_by-append}
use Rattle.far_io.specs.Lines.{ended_lines_of, last_part}
use Rattle.far_io.proofs.LineLaws.{last_part_none, last_part_ended}
use Rattle.far_drill.specs.Output.{is_refusal, is_quantum, told, counted_if}
use Rattle.far_drill.specs.Sink.{kept_of, Counts}
use Rattle.far_drill.specs.declared.output.Tally.{Tally}
use Rattle.far_drill.proofs.OneMore.{lines_ended, lines_kept, part_kept}
use Rattle.far_drill.proofs.FirstWords.{refusal_kept, quantum_kept}

-- a line more
count_more : (test : List ℕ → Bool) (lines : List (List ℕ)) (line : List ℕ) → count_by test (lines ++ line ∷ []) ≡ count_by test lines + cond (test line) 1 0
count_more test lines line = omega (arith, sum_by-append (λ l. cond (test l) 1 0) lines (line ∷ []))

counted_told : (is_more : Bool) (count : ℕ) → counted_if is_more (told count) ≡ told (count + cond is_more 1 0)
counted_told true count = omega arith
counted_told false count = omega arith

-- the count of lines like the one that ended
module _ (test : List ℕ → Bool) (same : (line : List ℕ) → test (kept_of line) ≡ test line) where
  pub count_ended : (count : ℕ) (kept bytes : List ℕ) → count ≡ told (count_by test (ended_lines_of bytes)) → kept ≡ kept_of (last_part bytes)
      → counted_if (test kept) count ≡ told (count_by test (ended_lines_of (bytes ++ 10 ∷ [])))
  count_ended count kept bytes counted is_kept =
      let lines = ended_lines_of bytes in
      ap (λ k. counted_if (test k) count) is_kept ∙ ap (λ b. counted_if b count) (same (last_part bytes))
      ∙ ap (counted_if (test (last_part bytes))) counted ∙ counted_told (test (last_part bytes)) (count_by test lines)
      ∙ ap told (sym (count_more test lines (last_part bytes))) ∙ ap (λ ls. told (count_by test ls)) (sym (lines_ended bytes))

pub counts_ended : (old new : Tally) (bytes : List ℕ) → new.refused ≡ counted_if (is_refusal old.kept) old.refused → new.quanta ≡ counted_if (is_quantum old.kept) old.quanta
    → new.kept ≡ [] → Counts old bytes → Counts new (bytes ++ 10 ∷ [])
counts_ended old new bytes refused quanta kept counts = record {
  refused = refused ∙ count_ended is_refusal refusal_kept old.refused old.kept bytes counts.refused counts.kept;
  quanta = quanta ∙ count_ended is_quantum quantum_kept old.quanta old.kept bytes counts.quanta counts.kept;
  kept = kept ∙ ap kept_of (sym (last_part_ended bytes));
}

-- what is kept of a line that goes on
kept_more : (line : List ℕ) (byte : ℕ) → length (kept_of line) < 16 → kept_of line ++ byte ∷ [] ≡ kept_of (line ++ byte ∷ [])
kept_more line byte short =
    let less : length line < 16 = omega (arith, length-take 16 line, short) in
    ap (λ l. l ++ byte ∷ []) (take_all 16 line (omega (arith, less))) ∙ sym (take_all 16 (line ++ byte ∷ []) (omega (arith, less, length-append line (byte ∷ []))))

kept_full : (line : List ℕ) (byte : ℕ) → 16 ≤ length (kept_of line) → kept_of line ≡ kept_of (line ++ byte ∷ [])
kept_full line byte full = sym (take-append-le 16 line (byte ∷ []) (omega (arith, length-take 16 line, full)))

module _ (old new : Tally) (bytes : List ℕ) (byte : ℕ) (other : byte ≢ 10) (refused : new.refused ≡ old.refused) (quanta : new.quanta ≡ old.quanta) (counts : Counts old bytes) where
  goes_on : new.kept ≡ kept_of (last_part bytes ++ byte ∷ []) → Counts new (bytes ++ byte ∷ [])
  goes_on kept = record {
    refused = refused ∙ counts.refused ∙ ap (λ lines. told (count_by is_refusal lines)) (sym (lines_kept bytes byte other));
    quanta = quanta ∙ counts.quanta ∙ ap (λ lines. told (count_by is_quantum lines)) (sym (lines_kept bytes byte other));
    kept = kept ∙ ap kept_of (sym (part_kept bytes byte other));
  }

  pub counts_more : new.kept ≡ old.kept ++ byte ∷ [] → length old.kept < 16 → Counts new (bytes ++ byte ∷ [])
  counts_more kept short = goes_on (kept ∙ ap (λ k. k ++ byte ∷ []) counts.kept ∙ kept_more (last_part bytes) byte (subst (λ k. length k < 16) counts.kept short))

  pub counts_full : new.kept ≡ old.kept → 16 ≤ length old.kept → Counts new (bytes ++ byte ∷ [])
  counts_full kept full = goes_on (kept ∙ counts.kept ∙ kept_full (last_part bytes) byte (subst (λ k. 16 ≤ length k) counts.kept full))

pub counts_nothing : (tally : Tally) → tally.refused ≡ 0 → tally.quanta ≡ 0 → tally.kept ≡ [] → Counts tally []
unfolding ended_lines_of
counts_nothing tally refused quanta kept = record { refused = refused; quanta = quanta; kept = kept ∙ ap kept_of (sym last_part_none) }
