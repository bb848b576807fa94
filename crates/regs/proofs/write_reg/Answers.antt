-- After EGR, it fits.
use Rattle.regs.proofs.Fit.{fit-egr}
use Rattle.regs.proofs.write_reg.Goals as goal

pub cnt_at-requires : goal.cnt_at-requires
cnt_at-requires c = (rw c.write_egr-t.ensures (fit-egr c.args.timer c.requires.fit c.args.v c.args.now c.args.div.n c.requires.now-lt c.requires.div-pos c.requires.div-le), c.requires.now-lt)
