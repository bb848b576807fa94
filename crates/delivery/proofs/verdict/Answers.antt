-- By the tests, in their order.
use Rattle.delivery.specs.Delivery.{verdict_of}
use borrow.Author.Tests.{lt-ltb, le-ltb, le-leb, lt-leb}
use Rattle.delivery.proofs.verdict.Goals.{then-events-ge100001-via-then-events-ge100001, then-events-ge100001-via-else-events-ge100001+then-left-lt4}
use Rattle.delivery.proofs.verdict.Goals as goal

pub returns-then-at-cycle : goal.returns-then-at-cycle
unfolding verdict_of
returns-then-at-cycle c = simp (lt-leb _ _ c.if-at-cycle.true)

pub returns-then-events-ge100001 : goal.returns-then-events-ge100001
unfolding verdict_of
returns-then-events-ge100001 c = elim c.then-events-ge100001.branch [
  | then-events-ge100001-via-then-events-ge100001 w ↦ simp (le-leb _ _ c.if-at-cycle.false, le-leb _ _ w.if-events-ge100001.true)
  | then-events-ge100001-via-else-events-ge100001+then-left-lt4 w ↦ simp (le-leb _ _ c.if-at-cycle.false, lt-leb _ _ w.if-events-ge100001.false, lt-ltb _ _ w.if-left-lt4.true)
]

pub returns : goal.returns
unfolding verdict_of
returns c = simp (le-leb _ _ c.if-at-cycle.false, lt-leb _ _ c.if-events-ge100001.false, le-ltb _ _ c.if-left-lt4.false)
