-- The pin loaded, its side made anew, resolved and stored.
use Rattle.gpio.proofs.Fits.{refreshed-fit}
use Rattle.state.proofs.InRange.{bounded}
use Rattle.sys.proofs.Laws.{loaded-moves}
use Rattle.sys.proofs.Small.{loaded-small, level-small}
use native.Mathlib.Omega.{arith}
use Rattle.sys.proofs.refresh_any.Goals as goal

pub sig_level-level-requires : goal.sig_level-level-requires
sig_level-level-requires c = omega (arith, loaded-small c.args.board.now.words.now c.args.board.now.reals.now c.args.i.n c.load_gpio-g.ensures c.signal_of-s.ensures)

pub store_gpio-requires : goal.store_gpio-requires
store_gpio-requires c = rw (c.refresh-m.ensures, c.load_gpio-g.ensures) (refreshed-fit _ _ _ _ ((bounded c.args.board.now.words.now c.args.board.now.reals.now).gpio-fit c.args.i.n) (level-small c.args.board.now.words.now c.args.board.now.reals.now _ (c.sig_level-level.ensures c.args.board.now.reals.now)))

pub returns-clause-moves : goal.returns-clause-moves
returns-clause-moves c = loaded-moves _ _ c.args.i.n _ _ _ c.load_gpio-g.ensures (c.vcc-vcc.ensures c.args.board.now.words.now) c.store_gpio.ensures.board _ _ c.signal_of-s.ensures (c.sig_level-level.ensures c.args.board.now.reals.now) c.refresh-m.ensures
