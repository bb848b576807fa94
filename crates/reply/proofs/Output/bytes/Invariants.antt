-- The loop goes on only while no write has failed.
use Rattle.std.proofs.Common.{◌≡◌}
use Rattle.reply.proofs.Output.bytes.Given as goal

abbrev pub invariant-loop-b : goal.invariant-loop-b
invariant-loop-b g l = l.self.written ≡ l.initial.self.written
