-- Synced, and not running.
use Rattle.std.proofs.Common.{ap, false}
use Rattle.tim.specs.Change.{stopped, with_running}
use Rattle.tim.proofs.Timer.stop.Goals as goal

pub returns : goal.returns
unfolding stopped
returns c = ap (λ t. with_running t false) c.sync-t.ensures
