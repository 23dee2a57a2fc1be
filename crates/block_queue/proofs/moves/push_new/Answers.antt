use Rattle.std.proofs.Common.{◌≡◌, ◌≢◌, ℕ, is_some, false, sym, ap, subst, ◌∙◌}
use Rattle.std.specs.Prelude.{All}
use Rattle.std.specs.Ordering.{nat_cmp}
use Rattle.std.specs.FinMap.{find, put}
use Rattle.block_seats.specs.Blocks.{InSlice}
use Rattle.block_home.proofs.Held.{put_other}
use Rattle.queue_block.specs.Queues.{pushed}
use Rattle.block_queue.specs.declared.marks.Mark.{Mark}
use Rattle.block_queue.specs.Queues.{QueueView, IsSound, numbers_of}
use Rattle.block_queue.specs.Changes.{IsHeldAs}
use Rattle.block_queue.proofs.Sounds.{number_one, sound_after, away_last}
use Rattle.block_queue.proofs.Pushed.{queue_after}
use Rattle.block_queue.proofs.moves.push_new.Goals as goal

pub returns-clause-items : goal.returns-clause-items
returns-clause-items g c = λ m old number item holds is new piece_is fits.
    let home = c.args.home.now in
    let queue = c.args.marks.now.items in
    let added = c.add-block in
    let told = g.K.Shelf.told in
    let same : number ≡ added.result = number_one home.seats number added.result new added.ensures.number in
    let mark : Mark = record { block = added.result; put = 1; read = 0; at = 0 } in
    subst (λ (n : ℕ). IsHeldAs m (told added.new.self.shelf) home.user added.new.self.seats c.push_back_reserved.new.self.items (pushed home.seats.size n old item) (numbers_of c.push_back_reserved.new.self.items)) (sym same)
    (subst (λ (q : QueueView). IsHeldAs m (told added.new.self.shelf) home.user added.new.self.seats q (pushed home.seats.size added.result old item) (numbers_of q)) (sym c.push_back_reserved.ensures.items)
    (queue_after m (told home.shelf) (told added.new.self.shelf) home.user home.seats added.new.self.seats queue mark old added.result item c.args.piece.now
    c.requires.sound is holds piece_is fits c.requires.target added.ensures.number.fresh (λ i. mark) (added.ensures.holds m holds)))

pub returns-clause-adds : goal.returns-clause-adds
returns-clause-adds g c = λ number new.
    let home = c.args.home.now in
    let added = c.add-block in
    let same : added.result ≡ number = number_one home.seats added.result number added.ensures.number new in
    (InSlice c.args.piece.now false, new, λ block. ap (λ bs. is_some (find nat_cmp block bs)) (added.ensures.blocks ∙ ap (λ (n : ℕ). put nat_cmp n (InSlice c.args.piece.now false) home.seats.blocks) same))

pub returns-clause-sound : goal.returns-clause-sound
returns-clause-sound g c =
    let home = c.args.home.now in
    let added = c.add-block in
    let mark : Mark = record { block = added.result; put = 1; read = 0; at = 0 } in
    subst (IsSound added.new.self.seats) (sym c.push_back_reserved.ensures.items)
    (sound_after home.seats added.new.self.seats c.args.marks.now.items added.result c.args.piece.now mark added.ensures.blocks added.ensures.number.fresh c.requires.some (λ i. mark) c.requires.sound)

pub returns-clause-others : goal.returns-clause-others
returns-clause-others g c =
    let added = c.add-block in
    let mark : Mark = record { block = added.result; put = 1; read = 0; at = 0 } in
    record {
      others = λ q away.
          let apart : q ≢ added.result = away_last c.args.marks.now.items mark q (subst (λ (queue : QueueView). All (λ b. q ≢ b) (numbers_of queue)) c.push_back_reserved.ensures.items away) in
          ap (find nat_cmp q) added.ensures.blocks ∙ put_other c.args.home.now.seats.blocks added.result (InSlice c.args.piece.now false) q apart;
    }
