-- By the flag.
use Rattle.mmio.proofs.settle_line_if.Goals as goal

pub returns-then-on : goal.returns-then-on
returns-then-on c =
    λ x. rw c.if-on.true (c.settle_line_at.ensures x)

pub returns-else-on : goal.returns-else-on
returns-else-on c =
    λ x. rw c.if-on.false
