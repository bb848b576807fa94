-- A block of words and two reals that decode to the pin.
use Rattle.state.proofs.Stores.{gpio-set}
use Rattle.codec.specs.Pin.{ext_volts}
use borrow.Author.Rules.{rules}
use Rattle.state.proofs.LentBoard.store_gpio.Goals as goal

pub returns-clause-board : goal.returns-clause-board
returns-clause-board c = rw (c.put.ensures, c.ext_volts.ensures) (gpio-set c.args.self.now.words.now c.args.self.now.reals.now c.known_lengths.ensures.words c.known_lengths.ensures.reals c.args.p.n c.pack_gpio-b.result c.args.g.pin.volts (ext_volts c.args.g.pin.ext) c.args.g c.args.p.below (search rules) c.pack_gpio-b.ensures)
