use Rattle.std.proofs.Common.{◌≡◌, ◌+◌, ◌++◌, ℕ, length, drop, sym, ap, subst, ◌∙◌}
use Rattle.std.proofs.lemmas.List.{drop_at}
use Rattle.std.proofs.lemmas.Result.{err_from_is_err_and}
use Rattle.block_seats.specs.Seatings.{SeatingView}
use Rattle.block_home.specs.Homes.{HomeView}
use Rattle.block_home.specs.Holding.{Holds}
use Rattle.block_file.specs.Files.{file_in, FileView, HoldsBytes, IsSound, needed_last}
use Rattle.block_file.specs.Growth.{IsGrown}
use Rattle.block_list.specs.Growth.{ComeIn, Grows}
use Rattle.block_list.proofs.Listed.{All-front}
use Rattle.block_list.proofs.Ended.{undamaged_again}
use Rattle.block_file.proofs.Holding.{sound_kept}
use Rattle.block_list.proofs.Growing.{come-append, adds-after}
use Rattle.block_file.proofs.FileBody.append.Goals as goal

pub extend_blocks-requires-clause-sound : goal.extend_blocks-requires-clause-sound
extend_blocks-requires-clause-sound g c =
    let old = c.args.home.now.seats in
    let mid = c.load_last.new.home.seats in
    let file_is : file_in c.self.inside.length c.reserve.new.self.items ≡ c.args.self.now = ap (λ bs. file_in c.self.inside.length bs) c.reserve.ensures.items ∙ c.self.view_is in
    let came = c.in_ok-load_last.ensures.came in
    sound_kept (file_in c.self.inside.length c.reserve.new.self.items) old mid (ap (λ (s : SeatingView). s.size) came.alike) c.in_ok-load_last.ensures.lengths
    (subst (λ f. IsSound old f) (sym file_is) c.requires.sound)

pub returns-clause-grows : goal.returns-clause-grows
returns-clause-grows g c =
    let old = c.args.home.now.seats in
    let mid = c.load_last.new.home.seats in
    let new = c.extend_blocks.new.home.seats in
    let more = length c.args.bytes.now in
    let added = c.extend_blocks.ensures.added in
    let file_is : file_in c.self.inside.length c.deref.result.now ≡ c.args.self.now = ap (λ bs. file_in c.self.inside.length bs) (c.deref.ensures.value ∙ c.reserve.ensures.items) ∙ c.self.view_is in
    let items_are : c.reserve.new.self.items ≡ c.args.self.now.blocks = c.reserve.ensures.items ∙ ap (λ (f : FileView). f.blocks) c.self.view_is in
    let rest_is : drop (length c.args.self.now.blocks) c.extend_blocks.new.blocks.items ≡ added.0 = ap (drop (length c.args.self.now.blocks)) added.1 ∙ drop_at c.reserve.new.self.items added.0 (length c.args.self.now.blocks) (ap length items_are) in
    let came : ComeIn (needed_last old c.args.self.now more) old mid = subst (λ f. ComeIn (needed_last old f more) old mid) file_is c.in_ok-load_last.ensures.came in
    subst (λ l. Grows old (needed_last old c.args.self.now more) l new) (sym rest_is)
    (record {
      comes = come-append (needed_last old c.args.self.now more) added.0 old mid new came added.2;
      adds = adds-after old mid added.0 new c.in_ok-load_last.ensures.lengths.there added.3;
    })

pub returns-clause-bytes : goal.returns-clause-bytes
returns-clause-bytes g c = λ m old holds is.
    let start = c.args.home.now in
    let mid = c.load_last.new.home in
    let new = c.extend_blocks.new.home in
    let told = g.K.Shelf.told in
    let load = c.in_ok-load_last.ensures in
    let size_is : mid.seats.size ≡ start.seats.size = ap (λ (s : SeatingView). s.size) load.came.alike in
    let user_is : mid.user ≡ start.user = ap (λ (h : HomeView g.row.K.Denot). h.user) load.rest in
    let items_are : c.reserve.new.self.items ≡ c.args.self.now.blocks = c.reserve.ensures.items ∙ ap (λ (f : FileView). f.blocks) c.self.view_is in
    let used_is : c.self.inside.length ≡ length old = ap (λ (f : FileView). f.length) c.self.view_is ∙ is.size_is in
    let held : HoldsBytes mid.seats.size m c.reserve.new.self.items old = subst (λ s. HoldsBytes s m c.reserve.new.self.items old) (sym size_is) (subst (λ bs. HoldsBytes start.seats.size m bs old) (sym items_are) is.holds) in
    subst (λ u. IsGrown m (told new.shelf) u new.seats (file_in (c.self.inside.length + length c.args.bytes.now) c.extend_blocks.new.blocks.items) (old ++ c.args.bytes.now)) user_is
    (c.extend_blocks.ensures.bytes m old (subst (λ u. Holds m (told mid.shelf) u mid.seats.blocks) (sym user_is) (load.holds m holds)) used_is held)

pub returns-clause-others : goal.returns-clause-others
returns-clause-others g c =
    let added = c.extend_blocks.ensures.added in
    let blocks = c.deref.result.now in
    let parts : c.extend_blocks.new.blocks.items ≡ blocks ++ added.0 = added.1 ∙ ap (λ bs. bs ++ added.0) (sym c.deref.ensures.value) in
    record {
      others = λ q apart.
          c.extend_blocks.ensures.others.others q apart
          ∙ c.in_ok-load_last.ensures.others.others q (All-front q blocks added.0 c.extend_blocks.new.blocks.items parts apart);
    }

pub returns-in_err-load_last-clause-telling : goal.returns-in_err-load_last-clause-telling
returns-in_err-load_last-clause-telling g c = λ tells m holds.
    let p = err_from_is_err_and c.from_residual.result c.from_residual.ensures.1 in
    rw (p.1, p.2) (undamaged_again (Unit {0}) ℕ _ (c.in_err-load_last.ensures.telling tells m holds))
