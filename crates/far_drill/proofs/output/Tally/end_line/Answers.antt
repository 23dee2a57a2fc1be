use Rattle.std.proofs.Common.{◌∙◌, ap}
use Rattle.far_drill.specs.Output.{is_refusal, is_quantum, counted_if}
use Rattle.far_drill.proofs.Counted.{counts_ended}
use Rattle.far_drill.proofs.output.Tally.end_line.Goals as goal

pub returns-clause-counts : goal.returns-clause-counts
returns-clause-counts c = λ bytes counts.
    let old = c.args.self.now in
    counts_ended old _ bytes
    (c.counted-self.ensures ∙ ap (λ more. counted_if more old.refused) (c.tells_refusal.ensures ∙ ap is_refusal c.bytes.ensures))
    (c.counted-self-2.ensures ∙ ap (λ more. counted_if more old.quanta) (c.begins_quantum.ensures ∙ ap is_quantum c.bytes-2.ensures))
    c.clear.ensures counts
