-- Synced, it fits.
use Rattle.tim.proofs.Fit.{fit-synced}
use Rattle.regs.proofs.write_ccmr.Goals as goal

pub cnt_at-requires : goal.cnt_at-requires
cnt_at-requires c = (rw c.sync-t.ensures (fit-synced c.args.timer c.requires.0 c.args.now c.requires.1), c.requires.1)
