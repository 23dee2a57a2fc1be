use Rattle.script_text.proofs.outcome.push_reply.Goals as goal

pub returns-in-AbsentUser : goal.returns-in-AbsentUser
returns-in-AbsentUser c = rw c.in-AbsentUser.is c.push_numbered-in-AbsentUser.ensures
