-- What the timers that are left give is what all give.
use mathlib.Core.List.{List}
use mathlib.Core.Path.{◌≡◌}
use Prim.Native.Nat.{◌-◌}
use lib.Ieee.{Float}
use Rattle.machine.specs.Why.{feeder_from}
use Rattle.state.specs.View.{view}
use Rattle.why.proofs.feeder.Given as goal

abbrev pub invariant-loop-i : goal.invariant-loop-i
invariant-loop-i l = (x : List Float) → feeder_from (l.n - l.i) l.i (view l.words x) l.s ≡ feeder_from l.n 0 (view l.words x) l.s
