-- The line cleared.
use Rattle.control.proofs.Laws.{pending-cleared}
use Rattle.control.proofs.clear_pending.Goals as goal

pub returns : goal.returns
returns c = λ x. pending-cleared _ _ _ _ c.served.ensures _ (c.clear_pending.ensures x)
