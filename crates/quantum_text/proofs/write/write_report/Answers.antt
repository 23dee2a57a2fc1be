use Rattle.std.proofs.Common.{◌≡◌, ◌+◌, [], ◌++◌, take, drop, refl, sym, ◌∙◌, ap, subst, append_assoc, append-nil}
use Rattle.std.proofs.lemmas.List.{take_all}
use Rattle.std.proofs.lemmas.Result.{on_ok_weaker, on_err_weaker}
use Rattle.far_io.specs.Sends.{Sends}
use Rattle.far_io.proofs.Faults.{follows_on, on_error}
use Rattle.far_io.proofs.Sends.{sends_more, sends_equal, fault_within, all_sent}
use Rattle.quantum_text.specs.declared.line_kind.LineKind.TheVariants.{Quantum}
use Rattle.quantum_text.specs.LineKind.{numbers_of}
use Rattle.quantum_text.specs.Block.{ended_line, report_text}
use Rattle.quantum_text.proofs.Sent.{other_kinds, opening_text, kinds_text, kinds_text_more, kinds_text_parted, whole_text}
use Rattle.quantum_text.proofs.write.write_report.Goals as goal

pub returns-in_err-put_roster-clause-prefix : goal.returns-in_err-put_roster-clause-prefix
returns-in_err-put_roster-clause-prefix g c =
    let report = c.args.report.now in
    let first = subst (λ piece. Sends g.O.Sink.took c.args.sink.now c.put_block_line.new.sink piece c.put_block_line.new.piece (ended_line Quantum (numbers_of Quantum report))) c.new-piece.ensures c.in_ok-put_block_line.ensures.sends in
    on_error c.from_residual-in_err-put_roster.result
    (fault_within g.O.Sink.took _ _ _ [] _ _ _ (kinds_text report other_kinds) (report_text report) _ first c.in_err-put_roster.ensures.prefix refl (whole_text report))

pub loop-kind-init : goal.loop-kind-init
loop-kind-init g c =
    let report = c.args.report.now in
    let first = subst (λ piece. Sends g.O.Sink.took c.args.sink.now c.put_block_line.new.sink piece c.put_block_line.new.piece (ended_line Quantum (numbers_of Quantum report))) c.new-piece.ensures c.in_ok-put_block_line.ensures.sends in
    record {
      sends = sends_equal g.O.Sink.took _ _ _ _ _ _ (sym (append-nil (opening_text report))) (sends_more g.O.Sink.took _ _ _ _ _ _ _ _ first c.in_ok-put_roster.ensures.sends);
      faults = follows_on _ _ _ c.in_ok-put_block_line.ensures.cause.follows c.in_ok-put_roster.ensures.cause.follows;
    }

pub returns-in_err-put_block_line-2-clause-prefix : goal.returns-in_err-put_block_line-2-clause-prefix
returns-in_err-put_block_line-2-clause-prefix g c =
    let i = c.loop-kind.kind-index in
    let report = c.args.report.now in
    let opening = opening_text report in
    let before = kinds_text report (take i other_kinds) in
    let after = kinds_text report (drop (i + 1) other_kinds) in
    let whole = whole_text report
    ∙ ap (λ t. opening ++ t) (kinds_text_parted report other_kinds (i + 1) ∙ ap (λ t. t ++ after) (kinds_text_more report other_kinds i c.loop-kind-test.true))
    ∙ sym (append_assoc opening (before ++ _) after) ∙ ap (λ t. t ++ after) (sym (append_assoc opening before _)) in
    on_error c.from_residual-in_err-put_block_line-2.result
    (fault_within g.O.Sink.took _ _ _ [] _ (opening ++ before) _ after (report_text report) _ c.loop-kind.invariant.sends c.in_err-put_block_line-2.ensures.prefix refl whole)

pub loop-kind-preserved : goal.loop-kind-preserved
loop-kind-preserved g c =
    let i = c.loop-kind.kind-index in
    let report = c.args.report.now in
    let opening = opening_text report in
    let before = kinds_text report (take i other_kinds) in
    record {
      sends = sends_equal g.O.Sink.took _ _ _ _ _ _ (append_assoc opening before _ ∙ ap (λ t. opening ++ t) (sym (kinds_text_more report other_kinds i c.loop-kind-test.true)))
          (sends_more g.O.Sink.took _ _ _ _ _ _ (opening ++ before) _ c.loop-kind.invariant.sends c.in_ok-put_block_line-2.ensures.sends);
      faults = follows_on _ _ _ c.loop-kind.invariant.faults c.in_ok-put_block_line-2.ensures.cause.follows;
    }

pub returns-clause-all : goal.returns-clause-all
returns-clause-all g c =
    let report = c.args.report.now in
    let whole : opening_text report ++ kinds_text report (take c.loop-kind.kind-index other_kinds) ≡ report_text report =
    ap (λ kinds. opening_text report ++ kinds_text report kinds) (take_all c.loop-kind.kind-index other_kinds c.loop-kind-test.false) ∙ sym (whole_text report) in
    on_ok_weaker c.flush.result (all_sent g.O.Sink.took _ _ _ _ _ (sends_equal g.O.Sink.took _ _ _ _ _ _ whole c.loop-kind.invariant.sends)) c.flush.ensures.all

pub returns-clause-prefix : goal.returns-clause-prefix
returns-clause-prefix g c =
    let report = c.args.report.now in
    let sent = opening_text report ++ kinds_text report (take c.loop-kind.kind-index other_kinds) in
    let whole : sent ≡ report_text report =
    ap (λ kinds. opening_text report ++ kinds_text report kinds) (take_all c.loop-kind.kind-index other_kinds c.loop-kind-test.false) ∙ sym (whole_text report) in
    let twice = sym (append-nil (sent ++ []) ∙ append-nil sent ∙ whole) in
    on_err_weaker c.flush.result (λ fault. fault_within g.O.Sink.took _ _ _ [] _ sent [] [] (report_text report) _ c.loop-kind.invariant.sends fault (sym (append-nil c.loop-kind.piece)) twice) c.flush.ensures.prefix
