-- The reference by the mode, and the flag.
use Rattle.tim.specs.Change.{matched}
use Rattle.tim.proofs.Timer.matched.Goals as goal

pub returns : goal.returns
unfolding matched
returns c = rw (c.cc_flag.ensures, c.at_match.ensures, c.oc_mode.ensures)
