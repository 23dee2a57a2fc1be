use Rattle.std.proofs.Common.{◌≡◌, length, ap, sym, Ok, ◌∙◌, arith}
use Rattle.std.proofs.lemmas.Result.{err_from_is_err_and}
use Rattle.table_block.proofs.Spelling.{no_unfit}
use Rattle.table_block.proofs.Reading.{read_unfit}
use Rattle.table_block.proofs.Finding.{walked_first, walked_past, walked_other, walked_all, found_in, found_place, found_within}
use Rattle.table_block.proofs.spots.find.Goals as goal
use Rattle.table_block.proofs.spots.find.Goals.{else-is_none-via-then-is_none+else-has_key, else-is_none-via-else-is_none}

pub returns-in_err-spot-clause-unfit : goal.returns-in_err-spot-clause-unfit
returns-in_err-spot-clause-unfit c =
    let p = err_from_is_err_and c.from_residual.result c.from_residual.ensures.1 in
    let read = c.in_err-spot.ensures.reads in
    rw (p.1, p.2) (read_unfit c.args.bytes.now c.loop-spot.invariant.walked.before c.loop-spot.at c.loop-spot.invariant.walked.read c.in_err-spot.field-0.0.place read.0 read.1 read.2)

pub returns-in_err-spot-clause-reads : goal.returns-in_err-spot-clause-reads
returns-in_err-spot-clause-reads c = λ records is.
    let read = c.in_err-spot.ensures.reads in
    absurd (no_unfit c.args.bytes.now records c.in_err-spot.field-0.0.place is
    (read_unfit c.args.bytes.now c.loop-spot.invariant.walked.before c.loop-spot.at c.loop-spot.invariant.walked.read c.in_err-spot.field-0.0.place read.0 read.1 read.2))

pub returns-in_default-clause-ok : goal.returns-in_default-clause-ok
returns-in_default-clause-ok c =
    let end : c.loop-spot.at ≡ length c.args.bytes.now = rw c.in_default.is at c.in_ok-spot.ensures.reads in
    walked_all c.args.bytes.now c.args.key.now c.loop-spot.at c.loop-spot.found c.loop-spot.invariant.walked end

pub returns-in_default-clause-reads : goal.returns-in_default-clause-reads
returns-in_default-clause-reads c = λ records is.
    ap Ok (found_in c.args.bytes.now c.args.key.now c.loop-spot.found (returns-in_default-clause-ok c) records is)

pub returns-in_default-clause-spot : goal.returns-in_default-clause-spot
returns-in_default-clause-spot c = found_place c.args.bytes.now c.args.key.now c.loop-spot.found (returns-in_default-clause-ok c)

pub returns-in_default-clause-within : goal.returns-in_default-clause-within
returns-in_default-clause-within c = found_within c.args.bytes.now c.loop-spot.found (returns-in_default-clause-spot c)

pub loop-spot-preserved-then-has_key : goal.loop-spot-preserved-then-has_key
loop-spot-preserved-then-has_key c =
    let within = rw c.in-Some.is at c.in_ok-spot.ensures.within in
    let begins = rw c.in-Some.is at c.in_ok-spot.ensures.reads in
    record {
      within = omega (arith, within.end);
      walked = walked_first c.args.bytes.now c.args.key.now c.loop-spot.at c.loop-spot.found c.loop-spot.invariant.walked c.in-Some.spot begins c.if-is_none.ensures (sym c.has_key.ensures ∙ c.if-has_key.true);
    }

pub loop-spot-preserved : goal.loop-spot-preserved
loop-spot-preserved c =
    let within = rw c.in-Some.is at c.in_ok-spot.ensures.within in
    let begins = rw c.in-Some.is at c.in_ok-spot.ensures.reads in
    record {
      within = omega (arith, within.end);
      walked = elim c.else-is_none.branch [
        | else-is_none-via-then-is_none+else-has_key w ↦ walked_other c.args.bytes.now c.args.key.now c.loop-spot.at c.loop-spot.found c.loop-spot.invariant.walked c.in-Some.spot begins (sym w.if-has_key.ensures)
        | else-is_none-via-else-is_none w ↦ walked_past c.args.bytes.now c.args.key.now c.loop-spot.at c.loop-spot.found c.loop-spot.invariant.walked c.in-Some.spot begins w.if-is_none.ensures
      ];
    }
