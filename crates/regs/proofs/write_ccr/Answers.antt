-- Synced, it fits.
use Rattle.tim.proofs.Fit.{fit-synced}
use Rattle.regs.proofs.write_ccr.Goals as goal

pub cnt_at-cnt-requires : goal.cnt_at-cnt-requires
cnt_at-cnt-requires c = (rw c.sync-t.ensures (fit-synced c.args.timer c.requires.0 c.args.now c.requires.1), c.requires.1)
