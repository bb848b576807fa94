use Rattle.outputs.proofs.Laws.{one-driven}
use Rattle.outputs.proofs.move_channel.Goals as goal

pub returns-clause-driven : goal.returns-clause-driven
returns-clause-driven c = one-driven _ _ _ _ _ _ _ c.move_signal-change.ensures.moves c.append.ensures.entered
