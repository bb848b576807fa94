-- The word of the signal.
use Rattle.state.proofs.Places.{pin-signal}
use mathlib.Core.Path.{sym, ◌∙◌}
use native.Mathlib.Omega.{arith}
use Rattle.levels.proofs.signal.Goals as goal

pub returns : goal.returns
returns c = record { signal = λ x. c.from.ensures ∙ (c.low_8.ensures ∙ sym (pin-signal c.args.words.now x c.args.p.n c.args.p.below)); range = omega arith }
