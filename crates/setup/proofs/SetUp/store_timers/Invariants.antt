-- The loop has stored the first i timers.
use Rattle.setup.proofs.Laws.{Storing}
use Rattle.setup.proofs.SetUp.store_timers.Given as goal

abbrev pub invariant-loop-i : goal.invariant-loop-i
invariant-loop-i l = Storing l.self.manual l.self.timers.now l.i l.initial.words l.words
