-- By the flag.
use Rattle.mmio.proofs.rebook_if.Goals as goal

pub returns-then-on : goal.returns-then-on
returns-then-on c =
    λ x. rw c.if-on.true (c.rebook.ensures x)

pub returns-else-on : goal.returns-else-on
returns-else-on c =
    λ x. rw c.if-on.false
