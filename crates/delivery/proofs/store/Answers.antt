-- By the number of events.
use borrow.Author.Tests.{eq-eqb, ne_eqb}
use Rattle.delivery.proofs.store.Goals as goal

pub returns-then-events-eq0 : goal.returns-then-events-eq0
returns-then-events-eq0 c = λ x. rw (eq-eqb _ _ c.if-events-eq0.true)

pub returns : goal.returns
returns c = λ x. rw (ne_eqb _ _ c.if-events-eq0.false) (c.store_live.ensures x)
