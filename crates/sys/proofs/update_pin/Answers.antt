-- The pin loaded, resolved and stored.
use Rattle.gpio.proofs.Fits.{updated-fit}
use Rattle.state.proofs.InRange.{bounded}
use Rattle.sys.proofs.Laws.{update-moves}
use Rattle.sys.proofs.update_pin.Goals as goal

pub store_gpio-requires : goal.store_gpio-requires
store_gpio-requires c = rw (c.update-m.ensures, c.load_gpio-g.ensures) (updated-fit _ _ _ ((bounded c.args.board.now.words.now c.args.board.now.reals.now).gpio-fit c.args.i.n))

pub returns-clause-moves : goal.returns-clause-moves
returns-clause-moves c = update-moves _ _ c.args.i.n _ _ _ c.load_gpio-g.ensures (c.vcc-vcc.ensures c.args.board.now.words.now) c.store_gpio.ensures.board c.update-m.ensures
