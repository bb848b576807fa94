use Rattle.gpio.proofs.Fits.{configured-fit}
use Rattle.state.proofs.InRange.{bounded}
use Rattle.machine.specs.Board.{Pads}
use Rattle.machine.specs.Sys.{refresh_pin, reset_pin}
use Rattle.sys.proofs.Laws.{then-moves}
use Rattle.sys.proofs.Small.{plain}
use mathlib.Core.Path.{◌∙◌}
use native.Mathlib.Omega.{arith}
use Rattle.sys.proofs.reset_pin.Goals as goal

pub store_gpio-requires : goal.store_gpio-requires
store_gpio-requires c =
    rw (c.configure.ensures, plain c.default.result c.default.ensures, c.load_gpio-g.ensures) (configured-fit _ ((bounded c.args.board.now.words.now c.args.board.now.reals.now).gpio-fit c.args.i.n) _ _ (omega arith) (omega arith))

pub returns-clause-moves : goal.returns-clause-moves
unfolding reset_pin
returns-clause-moves c =
    then-moves _ _ _ _ (λ (p : Pads). refresh_pin p c.args.i.n) _ (c.store_gpio.ensures.board ∙ rw (c.configure.ensures, plain c.default.result c.default.ensures, c.load_gpio-g.ensures)) c.refresh_any.ensures.moves
