use Rattle.outputs.proofs.Laws.{at-timer}
use Rattle.outputs.proofs.drive_outputs.Goals as goal

pub returns-clause-driven : goal.returns-clause-driven
returns-clause-driven c = at-timer _ _ _ _ _ _ _ _ (c.load_timer-t.ensures c.args.board.now.reals.now) c.drive_timer.ensures.driven
