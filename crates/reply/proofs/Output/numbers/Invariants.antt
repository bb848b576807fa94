-- The loop goes on only while no write has failed.
use Rattle.std.proofs.Common.{◌≡◌}
use Rattle.reply.proofs.Output.numbers.Given as goal

abbrev pub invariant-loop-x : goal.invariant-loop-x
invariant-loop-x g l = l.self.written ≡ l.initial.self.written
