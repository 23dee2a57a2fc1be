use Rattle.std.proofs.Common.{refl}
use Rattle.demand_book.specs.declared.as_object.BookAsk.TheVariants.{Report, Join, Leave, Share, Tick}
use Rattle.demand_book.specs.declared.as_object.BookTell.TheVariants.{Report as Reported, Join as Joined, Leave as Left, Share as Shared, Tick as Ticked}
use Rattle.demand_book.proofs.Grows.{stands_more, report_leaves, join_leaves, leave_leaves, tick_leaves, tick_answers}
use Rattle.demand_book.proofs.as_object.BookObject.apply.Goals as goal

pub returns-in-Report-clause-stands : goal.returns-in-Report-clause-stands
returns-in-Report-clause-stands c h s =
    let b = c.args.self.now in
    let now = report_leaves b c.report.new.self c.in-Report.user c.in-Report.demand c.report.result c.report.ensures.stands c.report.ensures.kept in
    rw c.in-Report.is (stands_more b c.report.new.self (Report c.in-Report.user c.in-Report.demand) (Reported c.report.result) h s now
    (record { absent = c.report.ensures.absent; too_much = c.report.ensures.too_much; taken = c.report.ensures.taken }))

pub returns-in-Join-clause-stands : goal.returns-in-Join-clause-stands
returns-in-Join-clause-stands c h s =
    let b = c.args.self.now in
    let now = join_leaves b c.join.new.self c.in-Join.user c.in-Join.fair c.in-Join.floor c.join.result c.join.ensures.joins c.join.ensures.kept in
    rw c.in-Join.is (stands_more b c.join.new.self (Join c.in-Join.user c.in-Join.fair c.in-Join.floor) (Joined c.join.result) h s now
    (record { absent = c.join.ensures.absent; too_much = c.join.ensures.too_much; taken = c.join.ensures.taken }))

pub returns-in-Leave-clause-stands : goal.returns-in-Leave-clause-stands
returns-in-Leave-clause-stands c h s =
    let b = c.args.self.now in
    let now = leave_leaves b c.leave.new.self c.in-Leave.user c.leave.result c.leave.ensures.leaves c.leave.ensures.kept in
    rw c.in-Leave.is (stands_more b c.leave.new.self (Leave c.in-Leave.user) (Left c.leave.result) h s now
    (record { absent = c.leave.ensures.absent; taken = c.leave.ensures.taken }))

pub returns-in-Share-clause-stands : goal.returns-in-Share-clause-stands
returns-in-Share-clause-stands c h s =
    let b = c.args.self.now in
    rw c.in-Share.is (stands_more b b (Share c.in-Share.user) (Shared c.share.result) h s refl (record { absent = c.share.ensures.absent; row = c.share.ensures.row }))

pub returns-in-Tick-clause-stands : goal.returns-in-Tick-clause-stands
returns-in-Tick-clause-stands c h s =
    let b = c.args.self.now in
    let now = tick_leaves b c.tick.new.self c.in-Tick.report c.tick.new.out c.tick.result c.tick.ensures.made c.tick.ensures.kept in
    let right = tick_answers b c.tick.new.self c.in-Tick.report c.tick.new.out c.tick.result c.tick.ensures.spent c.tick.ensures.made c.tick.ensures.untold c.tick.ensures.told c.tick.ensures.changed in
    rw (c.in-Tick.is, c.is_err-spent.ensures.value) (stands_more b c.tick.new.self (Tick c.in-Tick.report) (Ticked c.tick.new.out _) h s now right)
