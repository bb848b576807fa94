-- Synced, it fits.
use Rattle.tim.proofs.Fit.{fit-synced}
use Rattle.regs.proofs.egr_update.Goals as goal

pub generate_update-requires : goal.generate_update-requires
generate_update-requires c = rw c.sync-s.ensures (fit-synced c.args.timer c.requires.fit c.args.now c.requires.now-lt)
