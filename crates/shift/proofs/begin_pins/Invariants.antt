-- The pins so far are fresh.
use Rattle.shift.specs.Kept.{Fresh}
use Rattle.shift.proofs.begin_pins.Given as goal

abbrev pub invariant-loop-pin : goal.invariant-loop-pin
invariant-loop-pin l = Fresh l.words l.span.from l.span.to l.pin l.kept
