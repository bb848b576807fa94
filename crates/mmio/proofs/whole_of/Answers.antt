-- The counter, or another register.
use Rattle.mmio.proofs.Laws.{counter-read}
use Rattle.mmio.proofs.whole_of.Goals as goal

pub returns-in-36 : goal.returns-in-36
returns-in-36 c = λ x. counter-read _ c.args.offset c.args.cycle _ c.in-36.is (c.count_of.ensures x)

pub returns-in_default : goal.returns-in_default
returns-in_default c = c.lane_of.ensures
