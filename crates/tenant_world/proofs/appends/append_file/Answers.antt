use Rattle.std.proofs.Common.{◌≡◌, ◌/◌, ◌≤◌, ◌++◌, ℕ, List, [], length, drop, refl, sym, ap, subst, ◌∙◌, arith, Err}
use Rattle.far_asks.specs.declared.request.Reply.{Reply}
use Rattle.slice_seq.specs.Purses.{open_slices}
use Rattle.far_history.specs.Legal.{slices_of}
use Rattle.shelf_link.specs.Blocks as map
use Rattle.block_seats.specs.Noted.{NotedView}
use Rattle.block_seats.specs.Seatings.{SeatingView}
use Rattle.block_home.specs.Homes.{HomeView, room_of}
use Rattle.block_home.specs.Holding.{Holds}
use Rattle.block_home.specs.Stored.{FaultRose}
use Rattle.block_file.specs.Files.{FileView, IsFile, need_of, needed_last}
use Rattle.block_file.specs.Growth.{IsGrown}
use Rattle.block_list.specs.Growth.{Grows}
use Rattle.block_list.specs.Lists.{KeepsOthers}
use Rattle.block_list.specs.Ends.{NamesBlock, IsNeverDamaged}
use Rattle.tenant_world.specs.Rows.{rows_of}
use Rattle.tenant_world.specs.Keeping.{Keeping, IsKept, readied}
use Rattle.tenant_world.specs.Appending.{HasRoomFor, IsAppended}
use Rattle.tenant_world.specs.declared.names.Content.TheVariants.{File}
use Rattle.tenant_world.proofs.Grew.{GrewIn, placed_count, grown_rows, numbers_after, blocks_after, grown_moves, grown_many, grown_own, grown_bytes}
use Rattle.tenant_world.proofs.Served.{slices_none}
use Rattle.tenant_world.proofs.Ended.{prepared, names_before, appended_end}
use Rattle.tenant_world.proofs.appends.append_file.Goals as goal

pub push_rows-requires-clause-room : goal.push_rows-requires-clause-room
push_rows-requires-clause-room g c =
    let home : HomeView g.row.K.Denot = c.args.home.now in
    let old : SeatingView = home.seats in
    let file : FileView = c.args.file.now in
    let file' : FileView = c.append.new.self in
    let more : ℕ = length c.args.bytes.now in
    let new : SeatingView = c.append.new.home.seats in
    let numbers : ℕ = c.prepare.new.self.seats.numbers in
    let ens = c.in-Ok-append.ensures in
    let is = prepared home c.clear_moves.new.self c.prepare.new.self c.clear_moves.ensures c.prepare.ensures.rest in
    let need_is : c.need-need.result ≡ need_of old file more = c.need-need.ensures ∙ ap (λ (h : HomeView g.row.K.Denot). need_of h.seats file more) c.clear_moves.ensures in
    let ready : c.need-need.result ≤ room_of (readied old numbers) = subst (λ (h : HomeView g.row.K.Denot). c.need-need.result ≤ room_of h.seats) is c.in_default.ensures.ready in
    let room : need_of old file more ≤ length (open_slices old.purse) = omega (arith, need_is, ready) in
    let grew : GrewIn old numbers file file' more new = record {
      ordered = c.requires.ready.ordered;
      noted = c.requires.ready.noted;
      some = subst (λ (h : HomeView g.row.K.Denot). 1 ≤ h.seats.size) is c.size.ensures.some;
      before = c.requires.sound;
      long = ens.long;
      after = ens.sound;
      stay = ens.stay;
      grows = subst (λ (h : HomeView g.row.K.Denot). Grows h.seats (needed_last h.seats file more) (drop (length file.blocks) file'.blocks) new) is ens.grows;
      room = room;
    } in
    let count = placed_count old numbers file file' more new grew in
    let placed : length c.placed.result.now ≡ length new.moves.placed = ap length (c.placed.ensures ∙ ap (λ (m : NotedView). m.placed) c.moves.ensures) in
    omega (arith, count, placed, need_is, c.in-Ok.ensures.exact, c.in-Ok.ensures.len)

pub returns-in-Ok-append-clause-appended : goal.returns-in-Ok-append-clause-appended
returns-in-Ok-append-clause-appended g c =
    let home : HomeView g.row.K.Denot = c.args.home.now in
    let old : SeatingView = home.seats in
    let file : FileView = c.args.file.now in
    let file' : FileView = c.append.new.self in
    let bytes : List ℕ = c.args.bytes.now in
    let more : ℕ = length bytes in
    let path : List ℕ = c.args.path.now in
    let new : SeatingView = c.append.new.home.seats in
    let numbers : ℕ = c.prepare.new.self.seats.numbers in
    let told = g.K.Shelf.told in
    let ens = c.in-Ok-append.ensures in
    let is = prepared home c.clear_moves.new.self c.prepare.new.self c.clear_moves.ensures c.prepare.ensures.rest in
    let need_is : c.need-need.result ≡ need_of old file more = c.need-need.ensures ∙ ap (λ (h : HomeView g.row.K.Denot). need_of h.seats file more) c.clear_moves.ensures in
    let ready : c.need-need.result ≤ room_of (readied old numbers) = subst (λ (h : HomeView g.row.K.Denot). c.need-need.result ≤ room_of h.seats) is c.in_default.ensures.ready in
    let room : need_of old file more ≤ length (open_slices old.purse) = omega (arith, need_is, ready) in
    let grows : Grows (readied old numbers) (needed_last old file more) (drop (length file.blocks) file'.blocks) new =
    subst (λ (h : HomeView g.row.K.Denot). Grows h.seats (needed_last h.seats file more) (drop (length file.blocks) file'.blocks) new) is ens.grows in
    let grew : GrewIn old numbers file file' more new = record {
      ordered = c.requires.ready.ordered;
      noted = c.requires.ready.noted;
      some = subst (λ (h : HomeView g.row.K.Denot). 1 ≤ h.seats.size) is c.size.ensures.some;
      before = c.requires.sound;
      long = ens.long;
      after = ens.sound;
      stay = ens.stay;
      grows = grows;
      room = room;
    } in
    let mine : GrewIn old new.numbers file file' more new = subst (λ (n : ℕ). GrewIn old n file file' more new) (sym (numbers_after old numbers file file' more new grew)) grew in
    let others = subst (λ (h : HomeView g.row.K.Denot). KeepsOthers h.seats.blocks new.blocks file'.blocks) is ens.others in
    let grown = subst (λ (h : HomeView g.row.K.Denot). (m : map.Blocks) (b : List ℕ) → Holds m (told h.shelf) h.user h.seats.blocks → IsFile h.seats.size m file b
    → IsGrown m (told c.append.new.home.shelf) h.user new file' (b ++ bytes)) is ens.bytes in
    let size : c.from-size.result ≡ old.size = c.from-size.ensures ∙ c.size.ensures.value ∙ ap (λ (h : HomeView g.row.K.Denot). h.seats.size) is in
    let first : c.length-old.result / c.from-size.result ≡ file.length / old.size = λ i. c.length-old.ensures i / size i in
    let rows : c.push_rows.new.rows.items ≡ rows_of path (file.length / old.size) (drop (file.length / old.size) file'.blocks) new.moves.placed =
    c.push_rows.ensures ∙ (λ i. c.in-Ok.ensures.items i ++ rows_of path (first i) (drop (first i) file'.blocks) ((c.placed.ensures ∙ ap (λ (m : NotedView). m.placed) c.moves.ensures) i)) in
    let none : c.args.moves.now.freed ≡ slices_of old.purse [] = c.requires.ready.freed ∙ sym (slices_none old.purse) in (
      record { is_file = refl; room = omega (arith, c.saturating_add.ensures, c.length-old.ensures) },
      record {
        is_file = refl;
        number_is = ens.length;
        long = ens.long;
        added = drop (length file.blocks) file'.blocks;
        blocks = blocks_after old new.numbers file file' more new mine;
        adds = mine.grows.adds;
        moves = record {
          sound = ens.sound;
          own = grown_own old new.numbers file file' more new mine others;
          alters = λ m k b held is. grown_bytes old new.numbers file file' more new mine (told c.append.new.home.shelf) home.user bytes m k b is (grown m is.0 held is.3);
          slices = grown_moves old new.numbers file file' more new mine;
          many = grown_many old new.numbers file file' more new mine;
          moves =
              c.set_placed.ensures
              ∙ (λ i. record c.args.moves.now { freed = none i; placed = (rows ∙ grown_rows old numbers file file' more new grew path) i });
        };
      },
    )

pub returns-in-Err-append-clause-appended : goal.returns-in-Err-append-clause-appended
returns-in-Err-append-clause-appended g c =
    let home : HomeView g.row.K.Denot = c.args.home.now in
    let old : SeatingView = home.seats in
    let file : FileView = c.args.file.now in
    let bytes : List ℕ = c.args.bytes.now in
    let numbers : ℕ = c.prepare.new.self.seats.numbers in
    let told = g.K.Shelf.told in
    let faults = g.K.Shelf.faults in
    let shelf = c.append.new.home.shelf in
    let ens = c.in-Err-append.ensures in
    let end = c.in-Err-append.end in
    let is = prepared home c.clear_moves.new.self c.prepare.new.self c.clear_moves.ensures c.prepare.ensures.rest in
    let before : Keeping g.row.K.Denot = record { content = File file; home = home; moves = c.args.moves.now } in
    let after : Keeping g.row.K.Denot = record { content = File c.append.new.self; home = c.append.new.home; moves = c.args.moves.now } in
    let fits : HasRoomFor before bytes = record { is_file = refl; room = omega (arith, c.saturating_add.ensures, c.length-old.ensures) } in
    let seats : c.append.new.home.seats ≡ readied old numbers = ens.seats_stay ∙ ap (λ (h : HomeView g.row.K.Denot). h.seats) is in
    let kept : IsKept told before after = record {
      content = ap (λ (f : FileView). File f) ens.file_stays;
      seats = seats ∙ ap (readied old) (sym (ap (λ (s : SeatingView). s.numbers) seats));
      shelf = ens.told ∙ ap (λ (h : HomeView g.row.K.Denot). told h.shelf) is;
      moves = refl;
    } in
    subst (λ (r : Reply). IsAppended told faults before c.args.path.now bytes r after) (sym c.reply_of-in-Err-append.ensures)
    (appended_end told faults ℕ before after c.args.path.now bytes end ens.ends (record {
      rose = subst (λ (h : HomeView g.row.K.Denot). FaultRose {T = ℕ} (faults h.shelf) (faults shelf) (Err end)) is ens.cause.rose;
      names = names_before ℕ old numbers file.blocks end (subst (λ (h : HomeView g.row.K.Denot). NamesBlock {T = ℕ} h.seats file.blocks (Err end)) is ens.names);
      never = subst (λ (h : HomeView g.row.K.Denot). IsNeverDamaged {T = ℕ} (told h.shelf) h.user h.seats (Err end)) is ens.telling;
    }) fits kept)
