-- Connected, then resolved.
use Rattle.gpio.proofs.Fits.{connected-fit}
use Rattle.machine.specs.Board.{Pads}
use Rattle.machine.specs.Sys.{drive_pin, update_pin}
use Rattle.state.proofs.InRange.{bounded}
use Rattle.sys.proofs.Laws.{then-moves}
use mathlib.Core.Path.{◌∙◌}
use Rattle.sys.proofs.drive_pin.Goals as goal

pub store_gpio-requires : goal.store_gpio-requires
store_gpio-requires c = rw (c.connect.ensures, c.load_gpio-g.ensures) (connected-fit _ ((bounded c.args.board.now.words.now c.args.board.now.reals.now).gpio-fit c.args.i.n) _)

pub returns-clause-moves : goal.returns-clause-moves
unfolding drive_pin
returns-clause-moves c = then-moves _ _ _ _ (λ (p : Pads). update_pin p c.args.i.n) _ (c.store_gpio.ensures.board ∙ rw (c.connect.ensures, c.load_gpio-g.ensures)) c.update_pin.ensures.moves
