-- Field by field.
use Rattle.tim.specs.Change.{reset_state}
use Rattle.tim.proofs.Timer.fresh.Goals as goal

pub returns : goal.returns
unfolding reset_state
returns c = rw (c.max-top.ensures, c.step_cycles.ensures)
