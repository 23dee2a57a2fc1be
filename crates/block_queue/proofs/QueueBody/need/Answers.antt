use Rattle.std.proofs.Common.{◌≡◌, true, false, Some, Option, is_some, ℕ, sym, ap, ◌∙◌}
use Rattle.block_seats.specs.Purses.{place_of}
use Rattle.queue_block.specs.Items.{item_size}
use Rattle.block_queue.specs.Queues.{QueueView, target_of}
use Rattle.block_queue.proofs.Behind.{need_at, need_parts}
use Rattle.block_queue.proofs.Pushed.{into_target}
use Rattle.block_queue.proofs.QueueBody.need.Goals as goal

pub returns-in-Some-clause-need : goal.returns-in-Some-clause-need
returns-in-Some-clause-need g c =
    let seats = c.args.home.now.seats in
    let bytes = item_size c.args.item.now in
    let target : target_of seats c.args.self.now bytes ≡ Some c.in-Some.block = ap (λ (q : QueueView). target_of seats q bytes) (sym c.self.view_is) ∙ sym c.target.ensures.target ∙ c.in-Some.is in
    let here : is_some (place_of seats.purse c.in-Some.block) ≡ true = ap (λ (o : Option (ℕ × ℕ)). is_some o) (sym c.place.ensures.place) ∙ sym c.is_some.ensures ∙ c.if-is_some.true in
    sym (need_at seats c.args.self.now bytes c.in-Some.block true target here)

pub returns-in_default-clause-need : goal.returns-in_default-clause-need
returns-in_default-clause-need g c =
    let seats = c.args.home.now.seats in
    let bytes = item_size c.args.item.now in
    let target : target_of seats c.args.self.now bytes ≡ Some c.in-Some.block = ap (λ (q : QueueView). target_of seats q bytes) (sym c.self.view_is) ∙ sym c.target.ensures.target ∙ c.in-Some.is in
    let here : is_some (place_of seats.purse c.in-Some.block) ≡ false = ap (λ (o : Option (ℕ × ℕ)). is_some o) (sym c.place.ensures.place) ∙ sym c.is_some.ensures ∙ c.if-is_some.false in
    sym (need_at seats c.args.self.now bytes c.in-Some.block false target here)

pub returns-in-Some-clause-parts : goal.returns-in-Some-clause-parts
returns-in-Some-clause-parts g c = λ number.
    let seats = c.args.home.now.seats in
    let bytes = item_size c.args.item.now in
    let target : target_of seats c.args.self.now bytes ≡ Some c.in-Some.block = ap (λ (q : QueueView). target_of seats q bytes) (sym c.self.view_is) ∙ sym c.target.ensures.target ∙ c.in-Some.is in
    let here : is_some (place_of seats.purse c.in-Some.block) ≡ true = ap (λ (o : Option (ℕ × ℕ)). is_some o) (sym c.place.ensures.place) ∙ sym c.is_some.ensures ∙ c.if-is_some.true in
    sym (need_at seats c.args.self.now bytes c.in-Some.block true target here) ∙ need_parts seats c.args.self.now bytes number

pub returns-in_default-clause-parts : goal.returns-in_default-clause-parts
returns-in_default-clause-parts g c = λ number.
    let seats = c.args.home.now.seats in
    let bytes = item_size c.args.item.now in
    let target : target_of seats c.args.self.now bytes ≡ Some c.in-Some.block = ap (λ (q : QueueView). target_of seats q bytes) (sym c.self.view_is) ∙ sym c.target.ensures.target ∙ c.in-Some.is in
    let here : is_some (place_of seats.purse c.in-Some.block) ≡ false = ap (λ (o : Option (ℕ × ℕ)). is_some o) (sym c.place.ensures.place) ∙ sym c.is_some.ensures ∙ c.if-is_some.false in
    sym (need_at seats c.args.self.now bytes c.in-Some.block false target here) ∙ need_parts seats c.args.self.now bytes number

pub returns-in-Some-clause-into : goal.returns-in-Some-clause-into
returns-in-Some-clause-into g c = λ m old number holds is.
    into_target m _ c.args.home.now.user c.args.home.now.seats c.args.self.now old number c.args.item.now c.requires.sound holds is

pub returns-in_default-clause-into : goal.returns-in_default-clause-into
returns-in_default-clause-into g c = λ m old number holds is.
    into_target m _ c.args.home.now.user c.args.home.now.seats c.args.self.now old number c.args.item.now c.requires.sound holds is

pub returns-in_default-2-clause-into : goal.returns-in_default-2-clause-into
returns-in_default-2-clause-into g c = λ m old number holds is.
    into_target m _ c.args.home.now.user c.args.home.now.seats c.args.self.now old number c.args.item.now c.requires.sound holds is
