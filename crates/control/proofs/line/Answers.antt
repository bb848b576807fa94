-- The line's state.
use Rattle.control.proofs.Laws.{line-told}
use Rattle.control.proofs.line.Goals as goal

pub returns : goal.returns
returns c = λ x. line-told _ _ _ _ _ (c.line_state-s.ensures x) c.served.ensures
