-- The block of words and the two reals, decoded.
use Rattle.state.proofs.Places.{gpio-read}
use mathlib.Core.Path.{sym}
use Rattle.state.proofs.SeenBoard.load_gpio.Goals as goal

pub returns : goal.returns
returns c = rw (c.unpack_gpio.ensures, c.get.ensures) (sym (gpio-read c.args.self.words.now c.args.self.reals.now c.args.p.n c.args.p.below))
