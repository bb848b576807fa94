-- The steps, one after the other.
use Rattle.mmio.proofs.Laws.{follows}
use Rattle.mmio.proofs.follow.Goals as goal

pub returns-clause-leaves : goal.returns-clause-leaves
returns-clause-leaves c = follows _ _ _ _ _ c.args.i.n c.args.cycle c.args.drive c.args.lined c.args.booked _ _ c.drive_if.ensures.driven_if (c.settle_line_if.ensures _) (c.rebook_if.ensures _) (c.set_last.ensures _)
