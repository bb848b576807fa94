-- The match leaves what is done, and the channel is done.
use Rattle.tim.specs.Change.{compared, matched}
use Rattle.tim.proofs.Timer.compare.Goals as goal

pub returns : goal.returns
unfolding compared matched
returns c = rw c.matched-m.ensures
