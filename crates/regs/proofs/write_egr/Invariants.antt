use Rattle.regs.proofs.Cases.{egr_matches}
use Rattle.regs.specs.Regs.{egr_update}
use mathlib.Core.Path.{◌≡◌}
use Rattle.regs.proofs.write_egr.Given as goal

abbrev pub invariant-loop-n : goal.invariant-loop-n
invariant-loop-n l = l.t ≡ egr_matches l.v (egr_update l.fn.timer l.v l.now l.fn.div.n) l.n
