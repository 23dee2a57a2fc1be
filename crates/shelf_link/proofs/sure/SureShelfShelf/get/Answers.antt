use Rattle.shelf_link.proofs.sure.SureShelfShelf.get.Goals as goal

pub returns-in-Err-clause-gives : goal.returns-in-Err-clause-gives
returns-in-Err-clause-gives c = record { held = λ _. c.in-Err.ensures.absent; void = λ void. absurd (cc) }
