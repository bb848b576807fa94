-- By the channel.
use Rattle.tim.specs.Timer.{ccr_in_use}
use mathlib.Core.Path.{ap, sym, ◌∙◌}
use native.Mathlib.Omega.{arith}
use Rattle.delivery.proofs.compare_value.Goals as goal

pub returns-in-0 : goal.returns-in-0
returns-in-0 c = ap (ccr_in_use c.args.t) (sym c.in-0.is)

pub returns-in-1 : goal.returns-in-1
returns-in-1 c = ap (ccr_in_use c.args.t) (sym c.in-1.is)

pub returns-in-2 : goal.returns-in-2
returns-in-2 c = ap (ccr_in_use c.args.t) (sym c.in-2.is)
