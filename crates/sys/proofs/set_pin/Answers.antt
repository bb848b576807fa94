-- Configured, then refreshed.
use Rattle.machine.specs.Board.{Pads}
use Rattle.machine.specs.Sys.{refresh_pin, set_pin}
use Rattle.sys.proofs.Laws.{then-moves}
use Rattle.sys.proofs.set_pin.Goals as goal

pub returns-clause-moves : goal.returns-clause-moves
unfolding set_pin
returns-clause-moves c = then-moves _ _ _ _ (λ (p : Pads). refresh_pin p c.args.i.n) _ c.select_af.ensures.board c.refresh_pin.ensures.moves
