use Rattle.std.proofs.Common.{◌≡◌, ◌<◌, ◌≤◌, length, true, refl, sym, ◌∙◌, ap, arith}
use Rattle.far_io.specs.Left.{in_front}
use Rattle.far_io.specs.LineView.{LineView}
use Rattle.far_io.proofs.Faults.{follows_itself, follows_on}
use Rattle.far_io.proofs.ReadLaws.{reads_too_long, reads_line, reads_last, reads_end, reads_fault, piece_came, answers_none, reads_ended, end_told, end_remembered}
use Rattle.far_io.proofs.lines.read_line.Goals as goal

pub pieces-init : goal.pieces-init
pieces-init g c = record {
  same = refl;
  limit = refl;
  number = refl;
  going = sym c.ended.ensures.ended ∙ c.if-ended.false;
  faults = follows_itself (g.S.Source.faults c.args.source.now);
  at_once = λ _. (refl, refl);
}

pub returns-then-end-limit-clause-read : goal.returns-then-end-limit-clause-read
returns-then-end-limit-clause-read g c =
    let all = c.pieces.invariant in
    let is = c.end_ahead-end.ensures.same in
    reads_too_long _ _ _ _ _ _ (ap (λ (l : LineView). in_front l.ahead (g.S.Source.left c.pieces.source)) is ∙ all.same) c.limit-limit.ensures
    (ap (λ (l : LineView). l.number) is ∙ all.number) c.end_ahead-end.ensures.end c.if-end-limit.true

pub returns-then-end-limit-clause-at_once : goal.returns-then-end-limit-clause-at_once
returns-then-end-limit-clause-at_once g c = λ answers. (c.pieces.invariant.at_once answers).0

pub returns-then-end-length-clause-read : goal.returns-then-end-length-clause-read
returns-then-end-length-clause-read g c =
    let all = c.pieces.invariant in
    let is = c.end_ahead-end.ensures.same in
    let short : c.end_ahead-end.result < length c.end_ahead-end.new.self.ahead = omega (arith, c.ahead_len-length.ensures.bytes, c.if-end-length.true) in
    let fits : c.end_ahead-end.result ≤ c.args.line.now.limit = omega (arith, c.limit-limit.ensures, c.if-end-limit.false) in
    rw c.cut.ensures (reads_line _ _ _ _ _ _ _ _ (ap (λ (l : LineView). in_front l.ahead (g.S.Source.left c.pieces.source)) is ∙ all.same)
    (ap (λ (l : LineView). l.number) is ∙ all.number) (ap (λ (l : LineView). l.ended) is ∙ all.going) (sym c.ended.ensures.ended ∙ c.if-ended.false) c.end_ahead-end.ensures.end short fits)

pub returns-then-end-length-clause-at_once : goal.returns-then-end-length-clause-at_once
returns-then-end-length-clause-at_once g c = λ answers. (c.pieces.invariant.at_once answers).0

pub returns-in-Err-clause-read : goal.returns-in-Err-clause-read
returns-in-Err-clause-read g c =
    let all = c.pieces.invariant in
    let is = c.end_ahead-end.ensures.same in
    let long : length c.end_ahead-end.new.self.ahead ≤ c.end_ahead-end.result = omega (arith, c.ahead_len-length.ensures.bytes, c.if-end-length.false) in
    reads_fault _ (g.S.Source.left c.pieces.source) _ _ _ c.end_ahead-end.new.self.ahead c.limit-limit.result _ (ap (λ (l : LineView). in_front l.ahead (g.S.Source.left c.pieces.source)) is ∙ all.same)
    (c.in-Err.ensures.number ∙ ap (λ (l : LineView). l.number) is ∙ all.number) (sym c.ended.ensures.ended ∙ c.if-ended.false) c.limit-limit.ensures c.end_ahead-end.ensures.end long c.if-end-limit.false
    c.in-Err.ensures.ahead.0 c.in-Err.ensures.ahead.1

pub returns-in-Err-clause-at_once : goal.returns-in-Err-clause-at_once
returns-in-Err-clause-at_once g c = λ answers. absurd
    (answers_none _ _ _ _ c.limit-limit.result c.end_ahead-end.result c.ahead_len-length.result c.pieces.invariant.at_once c.end_ahead-end.ensures.same c.pieces.invariant.going c.limit-limit.ensures
    c.end_ahead-end.ensures.end c.ahead_len-length.ensures.bytes c.if-end-limit.false c.if-end-length.false answers)

pub returns-then-end-eq0-clause-read : goal.returns-then-end-eq0-clause-read
returns-then-end-eq0-clause-read g c =
    let all = c.pieces.invariant in
    let is = c.end_ahead-end.ensures.same in
    let long : length c.end_ahead-end.new.self.ahead ≤ c.end_ahead-end.result = omega (arith, c.ahead_len-length.ensures.bytes, c.if-end-length.false) in
    rw c.finish.ensures (reads_end _ _ _ _ (record c.fill.new.self { ended = true }) _ _ _ (ap (λ (l : LineView). in_front l.ahead (g.S.Source.left c.pieces.source)) is ∙ all.same)
    (c.in-Ok.ensures.number ∙ ap (λ (l : LineView). l.number) is ∙ all.number) refl c.end_ahead-end.ensures.end long c.if-end-eq0.true c.if-count-eq0.true c.in-Ok.ensures.ahead)

pub returns-then-end-eq0-clause-at_once : goal.returns-then-end-eq0-clause-at_once
returns-then-end-eq0-clause-at_once g c = λ answers. absurd
    (answers_none _ _ _ _ c.limit-limit.result c.end_ahead-end.result c.ahead_len-length.result c.pieces.invariant.at_once c.end_ahead-end.ensures.same c.pieces.invariant.going c.limit-limit.ensures
    c.end_ahead-end.ensures.end c.ahead_len-length.ensures.bytes c.if-end-limit.false c.if-end-length.false answers)

pub cut-requires-then-count-eq0-clause-rest : goal.cut-requires-then-count-eq0-clause-rest
cut-requires-then-count-eq0-clause-rest g c =
    let long : length c.end_ahead-end.new.self.ahead ≤ c.end_ahead-end.result = omega (arith, c.ahead_len-length.ensures.bytes, c.if-end-length.false) in
    omega (arith, piece_came _ _ _ _ c.end_ahead-end.result c.in-Ok.count c.end_ahead-end.ensures.end long c.in-Ok.ensures.ahead)

pub returns-then-count-eq0-clause-read : goal.returns-then-count-eq0-clause-read
returns-then-count-eq0-clause-read g c =
    let all = c.pieces.invariant in
    let is = c.end_ahead-end.ensures.same in
    let long : length c.end_ahead-end.new.self.ahead ≤ c.end_ahead-end.result = omega (arith, c.ahead_len-length.ensures.bytes, c.if-end-length.false) in
    let fits : c.end_ahead-end.result ≤ c.args.line.now.limit = omega (arith, c.limit-limit.ensures, c.if-end-limit.false) in
    let some : 0 < c.end_ahead-end.result = omega (arith, c.if-end-eq0.false) in
    rw (c.finish-then-count-eq0.ensures, c.cut-then-count-eq0.ensures)
    (reads_last _ _ _ _ _ _ _ _ _ _ (ap (λ (l : LineView). in_front l.ahead (g.S.Source.left c.pieces.source)) is ∙ all.same) (c.in-Ok.ensures.number ∙ ap (λ (l : LineView). l.number) is ∙ all.number)
    (sym c.ended.ensures.ended ∙ c.if-ended.false) c.end_ahead-end.ensures.end long fits some c.if-count-eq0.true c.in-Ok.ensures.ahead)

pub returns-then-count-eq0-clause-at_once : goal.returns-then-count-eq0-clause-at_once
returns-then-count-eq0-clause-at_once g c = λ answers. absurd
    (answers_none _ _ _ _ c.limit-limit.result c.end_ahead-end.result c.ahead_len-length.result c.pieces.invariant.at_once c.end_ahead-end.ensures.same c.pieces.invariant.going c.limit-limit.ensures
    c.end_ahead-end.ensures.end c.ahead_len-length.ensures.bytes c.if-end-limit.false c.if-end-length.false answers)

pub pieces-preserved : goal.pieces-preserved
pieces-preserved g c =
    let all = c.pieces.invariant in
    let got = c.in-Ok.ensures in
    let is = c.end_ahead-end.ensures.same in
    record {
      same = got.ahead.same ∙ ap (λ (l : LineView). in_front l.ahead (g.S.Source.left c.pieces.source)) is ∙ all.same;
      limit = got.limit ∙ ap (λ (l : LineView). l.limit) is ∙ all.limit;
      number = got.number ∙ ap (λ (l : LineView). l.number) is ∙ all.number;
      going = got.ended ∙ ap (λ (l : LineView). l.ended) is ∙ all.going;
      faults = follows_on _ _ _ all.faults got.cause.follows;
      at_once = λ answers. absurd
          (answers_none _ _ _ _ c.limit-limit.result c.end_ahead-end.result c.ahead_len-length.result all.at_once is all.going c.limit-limit.ensures
          c.end_ahead-end.ensures.end c.ahead_len-length.ensures.bytes c.if-end-limit.false c.if-end-length.false answers);
    }

pub returns-then-ended-clause-read : goal.returns-then-ended-clause-read
returns-then-ended-clause-read g c =
    let over : c.args.line.now.ended ≡ true = sym c.ended.ensures.ended ∙ c.if-ended.true in
    reads_ended _ _ (c.ended.ensures.ahead over) over

pub returns-then-ended-clause-end : goal.returns-then-ended-clause-end
returns-then-ended-clause-end g c =
    let over : c.args.line.now.ended ≡ true = sym c.ended.ensures.ended ∙ c.if-ended.true in
    λ _ agrees. end_remembered _ _ (c.ended.ensures.ahead over) (agrees over)

pub returns-then-end-eq0-clause-end : goal.returns-then-end-eq0-clause-end
returns-then-end-eq0-clause-end g c =
    let all = c.pieces.invariant in
    let is = c.end_ahead-end.ensures.same in
    let long : length c.end_ahead-end.new.self.ahead ≤ c.end_ahead-end.result = omega (arith, c.ahead_len-length.ensures.bytes, c.if-end-length.false) in
    λ _ _. end_told _ _ _ _ _ _ _ (ap (λ (l : LineView). in_front l.ahead (g.S.Source.left c.pieces.source)) is ∙ all.same) c.end_ahead-end.ensures.end long c.if-end-eq0.true c.if-count-eq0.true c.in-Ok.ensures.ahead
