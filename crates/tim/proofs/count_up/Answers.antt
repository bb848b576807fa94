use Prim.Native.Nat.{◌+◌}
use Rattle.tim.specs.Count.{up_from}
use borrow.Author.Tests.{le-leb, lt-leb}
use native.Mathlib.Nat.{mod-eq-sub-mod, mod-lt}
use native.Mathlib.Omega.{arith}
use Rattle.tim.proofs.count_up.Goals as goal

-- src/lib.rt:91:9
pub returns-then-sum-last : goal.returns-then-sum-last
unfolding up_from
returns-then-sum-last c =
    rw (le-leb _ _ c.if-sum-last.true)

-- src/lib.rt:93:5
pub overflow_cast-result-2 : goal.overflow_cast-result-2
overflow_cast-result-2 c =
    omega (arith, mod-lt (c.args.cnt + c.args.ticks) {m = c.args.reload + 1} (omega arith))

-- src/lib.rt:84:1
pub returns : goal.returns
unfolding up_from
returns c =
    rw (lt-leb _ _ c.if-sum-last.false) (mod-eq-sub-mod (omega arith))
