-- Field by field.
use Rattle.tim.specs.Change.{restarted}
use Rattle.tim.proofs.Timer.restart.Goals as goal

pub returns : goal.returns
unfolding restarted
returns c = cc
