-- Above 0 it is below infinity or is not, else it is not above 0. Assumes nothing.
use Rattle.std.proofs.Common.{sym, ◌∙◌}
use Rattle.real.proofs.Laws.{below-infinity, not-above}
use Rattle.real.proofs.is_positive.Goals as goal

pub returns-then-f : goal.returns-then-f
returns-then-f c = below-infinity _ c.if-f.true

pub returns-else-f : goal.returns-else-f
returns-else-f c = c.if-f.false ∙ sym (not-above _ c.if-f.false)
