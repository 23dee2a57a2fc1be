use Rattle.std.proofs.Common.{◌≡◌, ◌+◌, ◌-◌, ◌*◌, ◌≤◌, ◌++◌, ℕ, List, [], length, take, drop, vec_len, vec_capacity, min, sym, ap, ◌∙◌, subst, arith}
use Rattle.std.specs.Int.{div_ceil}
use Rattle.block_home.specs.Homes.{HomeView, room_of}
use Rattle.block_home.specs.Holding.{Holds}
use Rattle.block_file.specs.Files.{file_in, IsSound, HoldsBytes, new_blocks}
use Rattle.block_file.specs.Growth.{IsGrown}
use Rattle.block_list.proofs.Growing.{come-append, come-blocks, adds-after}
use Rattle.block_file.proofs.Pieces.{ceil_above}
use Rattle.block_file.proofs.Appending.{left_need, filled_full, joined, grown_then, rest_long}
use Rattle.block_list.proofs.Listed.{All-front}
use Rattle.block_file.proofs.blocks.extend_blocks.Goals as goal

-- the blocks are as many as their bytes take
count_is : (size used : ℕ) (blocks items : List ℕ) → blocks ≡ items → length items ≡ div_ceil used size → length blocks ≡ div_ceil used size
count_is size used blocks items same count = ap length same ∙ count

pub add_blocks-requires-clause-sound : goal.add_blocks-requires-clause-sound
add_blocks-requires-clause-sound g c =
    let fill = c.fill_last-filled in
    subst (λ bs. IsSound fill.new.home.seats (file_in (c.args.used + fill.result) bs)) c.deref.ensures.value fill.ensures.sound

pub add_blocks-requires-clause-full : goal.add_blocks-requires-clause-full
add_blocks-requires-clause-full g c = λ some.
    let fill = c.fill_last-filled in
    let size = c.args.home.now.seats.size in
    let size_same : fill.new.home.seats.size ≡ size = ap (λ (h : HomeView g.row.K.Denot). h.seats.size) fill.ensures.rest in
    let items = c.args.blocks.now.items in
    let above : c.args.used ≤ length items * size = subst (λ n. c.args.used ≤ n * size) (sym c.requires.sound.count) (ceil_above c.args.used size fill.ensures.some) in
    let filled_is = fill.ensures.count ∙ (λ i. min (length c.args.bytes.now) (length (c.deref.ensures.value i) * size - c.args.used)) in
    let many : length items ≡ vec_len c.args.blocks.now = omega (arith, c.args.blocks.now.ok.0) in
    filled_full (length items) size c.args.used fill.result c.args.bytes.now above filled_is some ∙ (λ i. many i * sym size_same i)

pub add_blocks-requires-clause-room : goal.add_blocks-requires-clause-room
add_blocks-requires-clause-room g c =
    let fill = c.fill_last-filled in
    let size = c.args.home.now.seats.size in
    let size_same : fill.new.home.seats.size ≡ size = ap (λ (h : HomeView g.row.K.Denot). h.seats.size) fill.ensures.rest in
    let count = count_is size c.args.used c.deref.result.now c.args.blocks.now.items c.deref.ensures.value c.requires.sound.count in
    let left = left_need size c.args.used fill.result c.deref.result.now c.args.bytes.now fill.ensures.some count fill.ensures.count in
    let need = ap (div_ceil (length (take (length c.args.bytes.now - fill.result) (drop fill.result c.args.bytes.now)))) size_same ∙ left in
    subst (λ n. n ≤ room_of fill.new.home.seats) (sym need) (subst (λ r. new_blocks size c.args.used (length c.args.bytes.now) ≤ r) (sym fill.ensures.room) c.requires.room)

pub add_blocks-requires-clause-space : goal.add_blocks-requires-clause-space
add_blocks-requires-clause-space g c =
    let fill = c.fill_last-filled in
    let size = c.args.home.now.seats.size in
    let size_same : fill.new.home.seats.size ≡ size = ap (λ (h : HomeView g.row.K.Denot). h.seats.size) fill.ensures.rest in
    let count = count_is size c.args.used c.deref.result.now c.args.blocks.now.items c.deref.ensures.value c.requires.sound.count in
    let left = left_need size c.args.used fill.result c.deref.result.now c.args.bytes.now fill.ensures.some count fill.ensures.count in
    let need = ap (div_ceil (length (take (length c.args.bytes.now - fill.result) (drop fill.result c.args.bytes.now)))) size_same ∙ left in
    subst (λ n. vec_len c.args.blocks.now + n ≤ vec_capacity c.args.blocks.now) (sym need) c.requires.space

pub returns-clause-sound : goal.returns-clause-sound
returns-clause-sound g c =
    let fill = c.fill_last-filled in
    let count = fill.ensures.count in
    let within : fill.result ≤ length c.args.bytes.now = omega arith in
    subst (λ n. IsSound c.add_blocks.new.home.seats (file_in n c.add_blocks.new.blocks.items)) (rest_long fill.result c.args.used c.args.bytes.now within) c.add_blocks.ensures.sound

pub returns-clause-bytes : goal.returns-clause-bytes
returns-clause-bytes g c = λ m old holds used_is held.
    let fill = c.fill_last-filled in
    let home = c.args.home.now in
    let mid = fill.new.home in
    let new = c.add_blocks.new.home in
    let items = c.args.blocks.now.items in
    let bytes = c.args.bytes.now in
    let told = g.K.Shelf.told in
    let added = c.add_blocks.ensures.added in
    let count = fill.ensures.count in
    let within : fill.result ≤ length bytes = omega arith in
    let user_is : mid.user ≡ home.user = ap (λ (h : HomeView g.row.K.Denot). h.user) fill.ensures.rest in
    let first : IsGrown m (told mid.shelf) home.user mid.seats (file_in (c.args.used + fill.result) items) (old ++ take fill.result bytes) =
    subst (λ bs. IsGrown m (told mid.shelf) home.user mid.seats (file_in (c.args.used + fill.result) bs) (old ++ take fill.result bytes)) c.deref.ensures.value
    (fill.ensures.bytes m old holds used_is (subst (λ bs. HoldsBytes home.seats.size m bs old) (sym c.deref.ensures.value) held)) in
    let second : IsGrown first.now (told new.shelf) home.user new.seats (file_in (c.args.used + fill.result + length (take (length bytes - fill.result) (drop fill.result bytes))) c.add_blocks.new.blocks.items) ((old ++ take fill.result bytes) ++ take (length bytes - fill.result) (drop fill.result bytes)) =
    subst (λ u. IsGrown first.now (told new.shelf) u new.seats (file_in (c.args.used + fill.result + length (take (length bytes - fill.result) (drop fill.result bytes))) c.add_blocks.new.blocks.items) ((old ++ take fill.result bytes) ++ take (length bytes - fill.result) (drop fill.result bytes))) user_is
    (c.add_blocks.ensures.bytes first.now (old ++ take fill.result bytes) (subst (λ u. Holds first.now (told mid.shelf) u mid.seats.blocks) (sym user_is) first.held) first.is.size_is first.is.holds) in
    subst (λ n. IsGrown m (told new.shelf) home.user new.seats (file_in n c.add_blocks.new.blocks.items) (old ++ bytes)) (rest_long fill.result c.args.used bytes within)
    (subst (λ bs. IsGrown m (told new.shelf) home.user new.seats (file_in (c.args.used + fill.result + length (take (length bytes - fill.result) (drop fill.result bytes))) c.add_blocks.new.blocks.items) bs) (joined old bytes fill.result)
    (grown_then m (told mid.shelf) (told new.shelf) home.user mid.seats new.seats (file_in (c.args.used + fill.result) items) _ (old ++ take fill.result bytes) _
    (λ q apart. All-front q items added.0 c.add_blocks.new.blocks.items added.1 apart) first second))

pub returns-clause-added : goal.returns-clause-added
returns-clause-added g c =
    let fill = c.fill_last-filled in
    let old = c.args.home.now.seats in
    let mid = fill.new.home.seats in
    let new = c.add_blocks.new.home.seats in
    let added = c.add_blocks.ensures.added in
    let same : mid ≡ record old { blocks = mid.blocks } = ap (λ (h : HomeView g.row.K.Denot). h.seats) fill.ensures.rest in (
      added.0,
      added.1,
      come-append [] added.0 old mid new (come-blocks old mid same) added.2,
      adds-after old mid added.0 new fill.ensures.numbers added.3,
    )

pub returns-clause-others : goal.returns-clause-others
returns-clause-others g c =
    let fill = c.fill_last-filled in
    let added = c.add_blocks.ensures.added in
    let blocks = c.deref.result.now in
    let parts : c.add_blocks.new.blocks.items ≡ blocks ++ added.0 = added.1 ∙ ap (λ bs. bs ++ added.0) (sym c.deref.ensures.value) in
    record {
      others = λ block apart.
          c.add_blocks.ensures.others.others block apart
          ∙ fill.ensures.others.others block (All-front block blocks added.0 c.add_blocks.new.blocks.items parts apart);
    }
