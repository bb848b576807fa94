-- The word's set bits are the high pins so far.
use Rattle.std.proofs.Common.{◌≡◌, ◌+◌, ◌^◌, ◌<◌}
use lib.Count.{ones}
use Rattle.shift.specs.Kept.{high_tracks}
use Rattle.shift.proofs.level_word.Given as goal

abbrev pub invariant-loop-j : goal.invariant-loop-j
invariant-loop-j l = (l.word < 2 ^ l.j) × (ones l.word + high_tracks l.kept l.first ≡ high_tracks l.kept (l.first + l.j))
