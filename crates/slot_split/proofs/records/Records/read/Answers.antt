use Rattle.std.proofs.Common.{◌≡◌, ◌++◌, [], ◌∷◌, List, length, sym, subst, ◌∙◌, arith}
use Rattle.std.proofs.lemmas.Result.{err_from_is_err_and}
use Rattle.table_block.specs.Records.{Record}
use Rattle.table_block.proofs.Reading.{HasRead, read_none, read_more, read_all, read_unfit, key_at, value_at}
use Rattle.slot_split.proofs.records.Records.read.Goals as goal

pub loop-records-init : goal.loop-records-init
loop-records-init c = record {
  within = omega arith;
  read = subst (λ (rs : List Record). HasRead c.args.bytes.now rs 0) (sym c.new-records.ensures) (read_none c.args.bytes.now);
}

pub returns-in_err-next_spot-clause-unfit : goal.returns-in_err-next_spot-clause-unfit
returns-in_err-next_spot-clause-unfit c =
    let p = err_from_is_err_and c.from_residual.result c.from_residual.ensures.1 in
    let seen = c.in_err-next_spot.ensures.reads in
    rw (p.1, p.2)
    (read_unfit c.args.bytes.now c.loop-records.records c.loop-records.at c.loop-records.invariant.read c.in_err-next_spot.field-0.0.place seen.0 seen.1 seen.2)

pub returns-in-None-clause-ok : goal.returns-in-None-clause-ok
returns-in-None-clause-ok c =
    let end : c.loop-records.at ≡ length c.args.bytes.now = rw c.in-None.is at c.in_ok-next_spot.ensures.reads in
    read_all c.args.bytes.now c.loop-records.records c.loop-records.at c.loop-records.invariant.read end

pub loop-records-preserved : goal.loop-records-preserved
loop-records-preserved c =
    let bytes = c.args.bytes.now in
    let at = c.loop-records.at in
    let spot = c.in-Some.spot in
    let within = rw c.in-Some.is at c.in_ok-next_spot.ensures.within in
    let begins = rw c.in-Some.is at c.in_ok-next_spot.ensures.reads in
    let pushed : c.push.new.self ≡ c.loop-records.records ++ begins.this ∷ [] =
    c.in_ok-push-in-Some.ensures.ok ∙ (λ i. c.loop-records.records ++ (key_at bytes at spot begins i, value_at bytes at spot begins i) ∷ []) in
    record {
      within = omega (arith, within.end);
      read =
          subst (λ (rs : List Record). HasRead bytes rs spot.end) (sym pushed)
          (read_more bytes c.loop-records.records at c.loop-records.invariant.read spot begins);
    }
