use Rattle.std.proofs.Common.{refl}
use Rattle.shelf_link.proofs.calls.Calls.begin.Goals as goal

pub returns-then-take_off-clause-listed : goal.returns-then-take_off-clause-listed
returns-then-take_off-clause-listed c = rw (← c.self.view_is) (λ _. c.if-take_off.ensures.listed.0 refl, λ _. refl)
