-- The word of the cycle.
use Rattle.state.proofs.Places.{last-read}
use mathlib.Core.Path.{sym}
use Rattle.state.proofs.last_cycle.Goals as goal

pub returns : goal.returns
returns c = λ x. sym (last-read c.args.words.now x)
