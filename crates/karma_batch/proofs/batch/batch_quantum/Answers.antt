use Rattle.std.proofs.Common.{◌≡◌, ℕ, ◌+◌, ◌<◌, ◌≤◌, min, List, length, map, sum_by, sym, ap, ◌∙◌, arith}
use Rattle.karma_rule.specs.declared.limits.TheConstants.{MOST_USERS, MOST_DEMAND}
use Rattle.karma_batch.specs.declared.ramp.TheConstants.{MOST_MOVED}
use Rattle.karma_rule.specs.declared.row.Row.{Row}
use Rattle.karma_batch.specs.declared.side.Side.TheVariants.{Borrowers, Donors}
use Rattle.karma_rule.specs.Karma.{if_present, surplus, opening, closing, row_of}
use Rattle.karma_rule.specs.Laws.{row_at}
use Rattle.karma_rule.specs.OpenRow.{user_of, quantum_of}
use Rattle.karma_batch.specs.Levels.{movable_of}
use Rattle.karma_rule.proofs.OneLoan.{quantum}
use Rattle.karma_rule.proofs.Walks.{map-map}
use Rattle.karma_rule.proofs.Laws.{karma_keeps}
use Rattle.karma_batch.proofs.LevelRows.{total_bound}
use Rattle.karma_batch.proofs.BatchRows.{IsOpened, opened_rows, spread_open, room_spread, batch_ends, shared_bound}
use Rattle.karma_batch.proofs.batch.batch_quantum.Goals as goal

pub overflow_add-rooms : goal.overflow_add-rooms
overflow_add-rooms c =
    let lengths : length c.open_all-rooms.new.rows ≡ length c.args.rows.now = c.open_all-rooms.auto.rows in
    let few : length c.open_all-rooms.new.rows ≤ MOST_USERS = omega (arith, c.requires.users) in
    let donated : sum_by (movable_of Donors) c.open_all-rooms.new.rows ≤ MOST_MOVED = total_bound Donors c.open_all-rooms.new.rows few c.open_all-rooms.ensures.rows_open in
    let shared : sum_by (if_present surplus) c.args.rows.now ≤ MOST_DEMAND = shared_bound c.args.rows.now c.requires.users c.requires.ready in
    omega (arith, c.open_all-rooms.ensures.donated, c.open_all-rooms.ensures.shared)

pub spread_count-requires-2-clause-rows_open : goal.spread_count-requires-2-clause-rows_open
spread_count-requires-2-clause-rows_open c =
    spread_open c.open_all-rooms.new.rows c.spread_count.new.rows (opened_rows c.open_all-rooms.new.rows c.args.rows.now c.requires.ready c.open_all-rooms.ensures.users c.open_all-rooms.ensures.rows_open) c.min-loans.result c.spread_count.ensures

pub spread_count-requires-2-clause-total : goal.spread_count-requires-2-clause-total
spread_count-requires-2-clause-total c =
    c.open_all-rooms.ensures.donated
    ∙ sym (room_spread c.open_all-rooms.new.rows c.spread_count.new.rows (opened_rows c.open_all-rooms.new.rows c.args.rows.now c.requires.ready c.open_all-rooms.ensures.users c.open_all-rooms.ensures.rows_open) c.min-loans.result c.spread_count.ensures)

pub returns : goal.returns
returns c =
    let rows0 : List Row = c.open_all-rooms.new.rows in
    let shared : ℕ = c.open_all-rooms.result.shared in
    let is_opened : (place : ℕ) → place < length rows0 → IsOpened (row_at rows0 place) = opened_rows rows0 c.args.rows.now c.requires.ready c.open_all-rooms.ensures.users c.open_all-rooms.ensures.rows_open in
    let loans : c.min-loans.result ≡ min (sum_by (movable_of Borrowers) rows0) (sum_by (movable_of Donors) rows0 + shared) = omega (arith, c.min-loans.ensures, c.open_all-rooms.ensures.wanted, c.open_all-rooms.ensures.donated) in
    let lent : c.min-lent.result ≡ min c.min-loans.result (sum_by (movable_of Donors) rows0) = omega (arith, c.min-lent.ensures, c.open_all-rooms.ensures.donated) in
    let users : map user_of c.spread_count-2.new.rows ≡ (closing (quantum_of rows0 shared)).users =
    batch_ends rows0 c.spread_count.new.rows is_opened c.min-loans.result c.spread_count.ensures c.min-lent.result c.spread_count-2.new.rows c.spread_count-2.ensures shared loans lent in
    let start : quantum_of rows0 shared ≡ opening c.args.rows.now =
    ap (λ us. quantum us shared) c.open_all-rooms.ensures.users ∙ ap (quantum (opening c.args.rows.now).users) c.open_all-rooms.ensures.shared in
    karma_keeps _ _ c.requires.ready
    (c.close_rows.ensures
    ∙ sym (map-map row_of user_of c.spread_count-2.new.rows)
    ∙ ap (map row_of) (users ∙ ap (λ q. (closing q).users) start))
