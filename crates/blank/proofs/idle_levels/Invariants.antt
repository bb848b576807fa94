-- The loop has set the first s levels.
use Rattle.sig.specs.Signal.{idle_level}
use Rattle.state.specs.Parts.{listed}
use lib.Seq.{paste}
use mathlib.Core.Path.{◌≡◌}
use Rattle.blank.proofs.idle_levels.Given as goal

abbrev pub invariant-loop-s : goal.invariant-loop-s
invariant-loop-s l = l.words ≡ paste l.initial.words 604 (listed idle_level 0 256) l.s
