-- The line driven by the flags that are enabled.
use Rattle.machine.specs.Deliver.{line_settled}
use Rattle.context.proofs.settle_line.Goals as goal

pub returns : goal.returns
unfolding line_settled
returns c = λ x. c.set_line.ensures x
