-- The digits stand behind what was filled.
use Rattle.reply.proofs.Laid.{wrote-behind}
use Rattle.reply.proofs.Output.number.Goals as goal

pub returns-in-Some-clause-room : goal.returns-in-Some-clause-room
returns-in-Some-clause-room g c = λ _. wrote-behind _ _ _ _ _ c.in-Some.ensures
