-- The pins so far have their figures.
use Rattle.shift.specs.Kept.{Written}
use Rattle.shift.proofs.write_figures.Given as goal

abbrev pub invariant-loop-pin : goal.invariant-loop-pin
invariant-loop-pin l = Written l.kept l.pin l.figures
