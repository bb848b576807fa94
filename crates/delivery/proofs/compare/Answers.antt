-- By the channel.
use Rattle.tim.specs.Change.{compared}
use mathlib.Core.Path.{ap, sym, ◌∙◌}
use native.Mathlib.Omega.{arith}
use Rattle.delivery.proofs.compare.Goals as goal

pub returns-in-0 : goal.returns-in-0
returns-in-0 c = c.compare.ensures ∙ ap (compared c.args.t) (sym c.in-0.is)

pub returns-in-1 : goal.returns-in-1
returns-in-1 c = c.compare-in-1.ensures ∙ ap (compared c.args.t) (sym c.in-1.is)

pub returns-in-2 : goal.returns-in-2
returns-in-2 c = c.compare-in-2.ensures ∙ ap (compared c.args.t) (sym c.in-2.is)
