-- What is left to feed leads to the same words.
use Rattle.std.proofs.Common.{◌≡◌, ◌-◌}
use Rattle.shift.specs.Shift.{piece, unsourced_from}
use Rattle.shift.specs.Kept.{fed}
use Rattle.shift.proofs.shift_feed.Given as goal

abbrev pub invariant-loop-i : goal.invariant-loop-i
invariant-loop-i l = fed l.kept (unsourced_from l.i (l.n - l.i) (piece l.pins l.levels l.cycles)) ≡ fed l.initial.kept (unsourced_from 0 l.n (piece l.pins l.levels l.cycles))
