-- The number is split twice: its lowest digit, the next one, and what is left, at most 1.
use Prim.Native.Nat.{◌/◌}
use native.Mathlib.Omega.{arith}
use Rattle.digits.proofs.Laws.{digits}
use Rattle.digits.proofs.by_digit.Goals as goal

pub returns-clause-exact : goal.returns-clause-exact
returns-clause-exact c = omega (arith, digits c.args.n c.args.d, digits (c.args.n / 65536) c.args.d)
