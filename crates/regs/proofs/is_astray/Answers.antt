-- By the three tests.
use Rattle.std.proofs.lemmas.Grind.{common_steps}
use native.Mathlib.Omega.{arith}
use Rattle.regs.specs.Regs.{astray}
use Rattle.regs.proofs.is_astray.Goals as goal

pub returns-then-not-down : goal.returns-then-not-down
unfolding astray
returns-then-not-down c = grind (arith, common_steps)

pub returns-else-not-down : goal.returns-else-not-down
unfolding astray
returns-else-not-down c = grind (arith, common_steps)
