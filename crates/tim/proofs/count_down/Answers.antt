-- The count after a number of steps downward.
use Prim.Native.Nat.{◌+◌, ◌-◌}
use Rattle.tim.specs.Count.{down_from}
use borrow.Author.Tests.{le-leb, lt-leb}
use native.Mathlib.Nat.{mod-lt}
use native.Mathlib.Omega.{arith}
use Rattle.tim.proofs.count_down.Goals as goal

pub returns-then-ticks-from : goal.returns-then-ticks-from
unfolding down_from
returns-then-ticks-from c = rw (le-leb _ _ c.if-ticks-from.true)

pub overflow_sub-result-4 : goal.overflow_sub-result-4
overflow_sub-result-4 c = omega (arith, mod-lt (c.args.ticks - c.args.cnt - 1) {m = c.args.reload + 1} (omega arith))

pub returns : goal.returns
unfolding down_from
returns c = rw (lt-leb _ _ c.if-ticks-from.false)
