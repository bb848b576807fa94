-- `merge` gives `merged`: the shifts lose nothing in 64 bits.
use native.Mathlib.Omega.{arith}
use Rattle.periph.specs.Lane.{merged}
use Rattle.periph.proofs.Laws.{cut, cut-le, below, up, up_lt}
use Rattle.periph.proofs.merge.Goals as goal

pub overflow_sub-below : goal.overflow_sub-below
overflow_sub-below c = cut-le c.args.old c.args.sh c.ranges.old.fits

pub overflow_add-result : goal.overflow_add-result
overflow_add-result c = omega (arith, up_lt c.args.lane c.args.sh c.requires.1.1 c.requires.0)

pub overflow_add-result-2 : goal.overflow_add-result-2
overflow_add-result-2 c = omega (arith, up_lt c.args.lane c.args.sh c.requires.1.1 c.requires.0, cut-le c.args.old c.args.end c.ranges.old.fits)

pub returns : goal.returns
unfolding merged
returns c = rw (below c.args.old c.args.sh c.ranges.old.fits, cut c.args.old c.args.end c.ranges.old.fits, up c.args.lane c.args.sh c.requires.1.1 c.requires.0)
