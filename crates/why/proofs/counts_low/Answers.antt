-- By the mode and CCxP.
use Rattle.why.proofs.Laws.{low-pwm}
use Rattle.why.proofs.counts_low.Goals as goal

pub returns-then-oc_mode-ge6 : goal.returns-then-oc_mode-ge6
returns-then-oc_mode-ge6 c = low-pwm c.args.t c.args.ch.n c.args.cycle _ c.oc_mode.ensures c.if-oc_mode-ge6.true _ c.cnt_at.ensures _ c.ocref.ensures
