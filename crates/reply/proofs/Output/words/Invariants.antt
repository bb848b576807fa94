-- Bytes that are put in change nothing of how the writes have gone.
use Rattle.std.proofs.Common.{◌≡◌}
use Rattle.reply.proofs.Output.words.Given as goal

abbrev pub invariant-loop-b : goal.invariant-loop-b
invariant-loop-b g l = l.self.written ≡ l.initial.self.written
