-- The word and the two reals of the clock.
use Rattle.state.proofs.Places.{clock-read}
use mathlib.Core.Path.{sym}
use Rattle.state.proofs.SeenBoard.clock.Goals as goal

pub returns : goal.returns
returns c = sym (clock-read c.args.self.words.now c.args.self.reals.now)
