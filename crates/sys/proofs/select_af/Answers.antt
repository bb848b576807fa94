-- The pin configured, the old route left, the new one taken.
use Rattle.gpio.proofs.Fits.{configured-fit}
use Rattle.state.proofs.InRange.{bounded}
use Rattle.sys.proofs.Laws.{select-sets}
use Rattle.sys.proofs.select_af.Goals as goal

pub store_gpio-requires : goal.store_gpio-requires
store_gpio-requires c = rw (c.configure.ensures, c.load_gpio-g.ensures) (configured-fit _ ((bounded c.args.board.now.words.now c.args.board.now.reals.now).gpio-fit c.args.i.n) _ _ c.requires c.selected-new.ensures.range)

pub leave-requires : goal.leave-requires
leave-requires c = rw c.load_gpio-g.ensures ((bounded c.args.board.now.words.now c.args.board.now.reals.now).gpio-fit c.args.i.n).sig

pub take-requires : goal.take-requires
take-requires c = c.selected-new.ensures.range

pub returns-clause-board : goal.returns-clause-board
returns-clause-board c = select-sets _ _ _ _ c.args.i.n _ _ c.args.c c.args.f _ c.load_gpio-g.ensures (c.selected-new.ensures.signal c.args.board.now.reals.now) c.configure.ensures c.store_gpio.ensures.board (c.leave.ensures _) (c.take.ensures _)
