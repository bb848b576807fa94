-- The real of the supply.
use Rattle.state.proofs.Places.{vcc-read}
use mathlib.Core.Path.{sym}
use Rattle.state.proofs.vcc.Goals as goal

pub returns : goal.returns
returns c = λ w. sym (vcc-read w c.args.reals.now)
