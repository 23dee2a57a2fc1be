use Rattle.std.proofs.Common.{◌≡◌, ◌+◌, ◌-◌, ℕ, List, take, drop, None, Some, Ok, refl, subst, arith}
use Rattle.queue_block.specs.Items.{BeginsAt}
use Rattle.queue_block.proofs.Places.{no_count, no_text, begins_at, only_read}
use Rattle.queue_block.proofs.next_item.Goals as goal

pub returns-then-left-eq0-clause-only : goal.returns-then-left-eq0-clause-only
returns-then-left-eq0-clause-only c = only_read (λ (item : List ℕ). item) c.args.bytes.now c.args.at (Ok None) (omega arith)

pub returns-then-left-lt-HEAD-clause-reads : goal.returns-then-left-lt-HEAD-clause-reads
returns-then-left-lt-HEAD-clause-reads c = (omega arith, refl, no_count c.args.bytes.now c.args.at (omega arith))

pub returns-then-left-lt-HEAD-clause-only : goal.returns-then-left-lt-HEAD-clause-only
returns-then-left-lt-HEAD-clause-only c = no_count c.args.bytes.now c.args.at (omega arith)

pub returns-then-left-len-clause-reads : goal.returns-then-left-len-clause-reads
returns-then-left-len-clause-reads c =
    (omega arith, refl, no_text c.args.bytes.now c.args.at c.count_at-len.result c.count_at-len.ensures c.count_at-len.type_inv (omega arith))

pub returns-then-left-len-clause-only : goal.returns-then-left-len-clause-only
returns-then-left-len-clause-only c =
    no_text c.args.bytes.now c.args.at c.count_at-len.result c.count_at-len.ensures c.count_at-len.type_inv (omega arith)

pub returns-clause-reads : goal.returns-clause-reads
returns-clause-reads c =
    let n = c.count_at-len.result in
    let same : n ≡ c.args.at + 4 + n - (c.args.at + 4) = omega arith in
    subst (λ (k : ℕ). BeginsAt c.args.bytes.now c.args.at (take k (drop (c.args.at + 4) c.args.bytes.now))) same
    (begins_at c.args.bytes.now c.args.at n c.count_at-len.ensures c.count_at-len.type_inv (omega arith))

pub returns-clause-only : goal.returns-clause-only
returns-clause-only c =
    let n = c.count_at-len.result in
    let same : n ≡ c.args.at + 4 + n - (c.args.at + 4) = omega arith in
    subst (λ (k : ℕ). (item : List ℕ) → BeginsAt c.args.bytes.now c.args.at item → take k (drop (c.args.at + 4) c.args.bytes.now) ≡ item) same
    (only_read (λ (item : List ℕ). item) c.args.bytes.now c.args.at (Ok (Some (take n (drop (c.args.at + 4) c.args.bytes.now))))
    (begins_at c.args.bytes.now c.args.at n c.count_at-len.ensures c.count_at-len.type_inv (omega arith)))
