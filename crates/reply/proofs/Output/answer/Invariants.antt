-- The loop goes on only while no write has failed.
use Rattle.std.proofs.Common.{◌≡◌}
use Rattle.reply.proofs.Output.answer.Given as goal

abbrev pub invariant-loop-i : goal.invariant-loop-i
invariant-loop-i g l = l.self.written ≡ l.initial.self.written
