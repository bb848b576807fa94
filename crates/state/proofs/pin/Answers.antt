-- Below the count, which is at most the places that there are.
use Rattle.state.proofs.InRange.{bounded}
use mathlib.Core.List.{[]}
use native.Mathlib.Omega.{arith}
use Rattle.state.proofs.pin.Goals as goal

pub invariant_of-result : goal.invariant_of-result
invariant_of-result c =
    record { below = omega (arith, c.pin_count.ensures [], (bounded c.args.words.now []).pins-le, c.if-n-pin_count.false) }
