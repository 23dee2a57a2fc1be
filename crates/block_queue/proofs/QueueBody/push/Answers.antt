use Rattle.std.proofs.Common.{◌≡◌, ◌++◌, ◌≤◌, ℕ, List, length, sym, ap, subst, ◌∙◌, arith}
use Rattle.std.specs.Prelude.{IsTrue}
use Rattle.shelf_link.specs.Told.{Told, tells}
use Rattle.block_seats.specs.Seatings.{SeatingView}
use Rattle.block_home.specs.Homes.{HomeView, room_of}
use Rattle.block_list.specs.Growth.{Grows, with_numbers}
use Rattle.block_list.proofs.Named.{holds_as}
use Rattle.queue_block.specs.Items.{Fits, item_size}
use Rattle.queue_block.specs.Queues.{pushed}
use Rattle.queue_block.proofs.Spelling.{length-item_bytes}
use Rattle.block_queue.specs.Queues.{QueueView, IsQueue, numbers_of, target_of, needed_of, added_of, need_of}
use Rattle.block_queue.specs.Changes.{IsHeldAs}
use Rattle.block_queue.proofs.Sounds.{number_kept}
use Rattle.block_queue.proofs.QueueBody.push.Goals as goal

pub item_piece-requires : goal.item_piece-requires
item_piece-requires g c = omega (arith, c.requires.fits, c.target-target.ensures.limit)

pub place_item-requires-clause-target : goal.place_item-requires-clause-target
place_item-requires-clause-target g c =
    let home = c.args.home.now in
    let mid = c.prepare.new.self in
    let queue = c.self.inside.marks.items in
    let bytes = item_size c.args.item.now in
    let seats_is : mid.seats ≡ with_numbers home.seats mid.seats.numbers = ap (λ (h : HomeView g.row.K.Denot). h.seats) c.prepare.ensures.rest in
    let size_is : length c.items.result.now ≡ bytes = ap (λ (xs : List ℕ). length xs) (c.items.ensures ∙ c.in-Ok.ensures) ∙ length-item_bytes c.args.item.now in
    c.target-target.ensures.target
    ∙ sym (ap (λ (s : SeatingView). target_of s queue bytes) seats_is)
    ∙ (λ i. target_of mid.seats (sym c.make_room.ensures.marks i) (sym size_is i))

pub place_item-requires-clause-some : goal.place_item-requires-clause-some
place_item-requires-clause-some g c =
    let size_is : length c.items.result.now ≡ item_size c.args.item.now = ap (λ (xs : List ℕ). length xs) (c.items.ensures ∙ c.in-Ok.ensures) ∙ length-item_bytes c.args.item.now in
    omega (arith, size_is)

pub place_item-requires-clause-fits : goal.place_item-requires-clause-fits
place_item-requires-clause-fits g c =
    let size_is : length c.items.result.now ≡ item_size c.args.item.now = ap (λ (xs : List ℕ). length xs) (c.items.ensures ∙ c.in-Ok.ensures) ∙ length-item_bytes c.args.item.now in
    let same : c.prepare.new.self.seats.size ≡ c.args.home.now.seats.size = ap (λ (h : HomeView g.row.K.Denot). h.seats.size) c.prepare.ensures.rest in
    omega (arith, size_is, same, c.requires.fits)

pub place_item-requires-clause-prepared : goal.place_item-requires-clause-prepared
place_item-requires-clause-prepared g c =
    let home = c.args.home.now in
    let mid = c.prepare.new.self in
    let bytes = item_size c.args.item.now in
    let seats_is : mid.seats ≡ with_numbers home.seats mid.seats.numbers = ap (λ (h : HomeView g.row.K.Denot). h.seats) c.prepare.ensures.rest in
    let size_is : length c.items.result.now ≡ bytes = ap (λ (xs : List ℕ). length xs) (c.items.ensures ∙ c.in-Ok.ensures) ∙ length-item_bytes c.args.item.now in
    let queue_is : c.make_room.new.marks.items ≡ c.args.self.now = c.make_room.ensures.marks ∙ c.self.view_is in
    let need_is : need_of mid.seats c.make_room.new.marks.items (length c.items.result.now) ≡ c.need-need.result =
    (λ i. need_of mid.seats (queue_is i) (size_is i))
    ∙ ap (λ (s : SeatingView). need_of s c.args.self.now bytes) seats_is
    ∙ sym c.need-need.ensures.need in
    subst (λ (n : ℕ). n ≤ room_of mid.seats) (sym need_is) c.in_default.ensures.ready

pub returns-in-Err-place_item-clause-telling : goal.returns-in-Err-place_item-clause-telling
returns-in-Err-place_item-clause-telling g c = λ tell m holds.
    let home = c.args.home.now in
    let mid = c.prepare.new.self in
    let told = g.K.Shelf.told in
    let rest = c.prepare.ensures.rest in
    let told_is : told mid.shelf ≡ told home.shelf = ap (λ (h : HomeView g.row.K.Denot). told h.shelf) rest in
    let user_is : mid.user ≡ home.user = ap (λ (h : HomeView g.row.K.Denot). h.user) rest in
    c.in-Err-place_item.ensures.telling (subst (λ (t : Told). IsTrue (tells t)) (sym told_is) tell) m
    (holds_as m (told home.shelf) (told mid.shelf) home.user mid.user home.seats.blocks mid.seats.blocks (sym told_is) (sym user_is) (sym (ap (λ (h : HomeView g.row.K.Denot). h.seats.blocks) rest)) holds)

pub returns-clause-items : goal.returns-clause-items
returns-clause-items g c = λ m old number holds is new.
    let home = c.args.home.now in
    let mid = c.prepare.new.self in
    let now = c.place_item.new.home in
    let queue = c.place_item.new.marks.items in
    let told = g.K.Shelf.told in
    let rest = c.prepare.ensures.rest in
    let told_is : told mid.shelf ≡ told home.shelf = ap (λ (h : HomeView g.row.K.Denot). told h.shelf) rest in
    let user_is : mid.user ≡ home.user = ap (λ (h : HomeView g.row.K.Denot). h.user) rest in
    let size_is : mid.seats.size ≡ home.seats.size = ap (λ (h : HomeView g.row.K.Denot). h.seats.size) rest in
    let blocks_are = ap (λ (h : HomeView g.row.K.Denot). h.seats.blocks) rest in
    let queue_is : c.make_room.new.marks.items ≡ c.args.self.now = c.make_room.ensures.marks ∙ c.self.view_is in
    let held = holds_as m (told home.shelf) (told mid.shelf) home.user mid.user home.seats.blocks mid.seats.blocks (sym told_is) (sym user_is) (sym blocks_are) holds in
    let fits : Fits c.args.item.now = omega (arith, c.requires.fits, c.target-target.ensures.limit) in
    subst (λ (u : ℕ). IsHeldAs m (told now.shelf) u now.seats queue (pushed home.seats.size number old c.args.item.now) (numbers_of queue)) user_is
    (subst (λ (s : ℕ). IsHeldAs m (told now.shelf) mid.user now.seats queue (pushed s number old c.args.item.now) (numbers_of queue)) size_is
    (c.in_default-place_item.ensures.items m old number c.args.item.now held (subst (λ (q : QueueView). IsQueue m q old) (sym queue_is) is)
    (number_kept home.seats mid.seats number blocks_are new) (c.items.ensures ∙ c.in-Ok.ensures) fits))

pub returns-clause-numbers : goal.returns-clause-numbers
returns-clause-numbers g c = λ number new.
    let home = c.args.home.now in
    let mid = c.prepare.new.self in
    let bytes = item_size c.args.item.now in
    let seats_is : mid.seats ≡ with_numbers home.seats mid.seats.numbers = ap (λ (h : HomeView g.row.K.Denot). h.seats) c.prepare.ensures.rest in
    let size_is : length c.items.result.now ≡ bytes = ap (λ (xs : List ℕ). length xs) (c.items.ensures ∙ c.in-Ok.ensures) ∙ length-item_bytes c.args.item.now in
    let queue_is : c.make_room.new.marks.items ≡ c.args.self.now = c.make_room.ensures.marks ∙ c.self.view_is in
    c.in_default-place_item.ensures.numbers number (number_kept home.seats mid.seats number (ap (λ (h : HomeView g.row.K.Denot). h.seats.blocks) c.prepare.ensures.rest) new)
    ∙ (λ i. numbers_of (queue_is i) ++ added_of mid.seats (queue_is i) (size_is i) number)
    ∙ ap (λ (s : SeatingView). numbers_of c.args.self.now ++ added_of s c.args.self.now bytes number) seats_is

pub returns-clause-grows : goal.returns-clause-grows
returns-clause-grows g c = λ number new.
    let home = c.args.home.now in
    let mid = c.prepare.new.self in
    let now = c.place_item.new.home in
    let bytes = item_size c.args.item.now in
    let place = c.in_default-place_item.ensures in
    let queue = c.make_room.new.marks.items in
    let seats_is : mid.seats ≡ with_numbers home.seats mid.seats.numbers = ap (λ (h : HomeView g.row.K.Denot). h.seats) c.prepare.ensures.rest in
    let size_is : length c.items.result.now ≡ bytes = ap (λ (xs : List ℕ). length xs) (c.items.ensures ∙ c.in-Ok.ensures) ∙ length-item_bytes c.args.item.now in
    let queue_is : queue ≡ c.args.self.now = c.make_room.ensures.marks ∙ c.self.view_is in
    let numbers_are : now.seats.numbers ≡ mid.seats.numbers = ap (λ (s : SeatingView). s.numbers) place.alike in
    let mid_is : mid.seats ≡ with_numbers home.seats now.seats.numbers = seats_is ∙ ap (λ (n : ℕ). with_numbers home.seats n) (sym numbers_are) in
    let needed_is : needed_of mid.seats queue (length c.items.result.now) ≡ needed_of home.seats c.args.self.now bytes =
    (λ i. needed_of mid.seats (queue_is i) (size_is i)) ∙ ap (λ (s : SeatingView). needed_of s c.args.self.now bytes) seats_is in
    let added_is : added_of mid.seats queue (length c.items.result.now) number ≡ added_of home.seats c.args.self.now bytes number =
    (λ i. added_of mid.seats (queue_is i) (size_is i) number) ∙ ap (λ (s : SeatingView). added_of s c.args.self.now bytes number) seats_is in
    subst (λ (s : SeatingView). Grows s (needed_of home.seats c.args.self.now bytes) (added_of home.seats c.args.self.now bytes number) now.seats) mid_is
    (subst (λ (needed : List ℕ). Grows mid.seats needed (added_of home.seats c.args.self.now bytes number) now.seats) needed_is
    (subst (λ (added : List ℕ). Grows mid.seats (needed_of mid.seats queue (length c.items.result.now)) added now.seats) added_is
    (place.grows number (number_kept home.seats mid.seats number (ap (λ (h : HomeView g.row.K.Denot). h.seats.blocks) c.prepare.ensures.rest) new))))

pub returns-clause-void : goal.returns-clause-void
returns-clause-void g c = λ v needed.
    let home = c.args.home.now in
    let mid = c.prepare.new.self in
    let told = g.K.Shelf.told in
    let bytes = item_size c.args.item.now in
    let seats_is : mid.seats ≡ with_numbers home.seats mid.seats.numbers = ap (λ (h : HomeView g.row.K.Denot). h.seats) c.prepare.ensures.rest in
    let size_is : length c.items.result.now ≡ bytes = ap (λ (xs : List ℕ). length xs) (c.items.ensures ∙ c.in-Ok.ensures) ∙ length-item_bytes c.args.item.now in
    let queue_is : c.make_room.new.marks.items ≡ c.args.self.now = c.make_room.ensures.marks ∙ c.self.view_is in
    let told_is : told mid.shelf ≡ told home.shelf = ap (λ (h : HomeView g.row.K.Denot). told h.shelf) c.prepare.ensures.rest in
    let needed_is : needed_of mid.seats c.make_room.new.marks.items (length c.items.result.now) ≡ needed_of home.seats c.args.self.now bytes =
    (λ i. needed_of mid.seats (queue_is i) (size_is i)) ∙ ap (λ (s : SeatingView). needed_of s c.args.self.now bytes) seats_is in
    c.in_default-place_item.ensures.void (subst (λ (t : Told). IsTrue t.void) (sym told_is) v) (λ none. needed (sym needed_is ∙ none))
