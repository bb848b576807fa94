-- The word of the count.
use Rattle.state.proofs.Places.{timers-read}
use mathlib.Core.Path.{◌∙◌, sym}
use Rattle.state.proofs.timer_count.Goals as goal

pub returns : goal.returns
returns c = λ x. c.min.ensures ∙ sym (timers-read c.args.words.now x)
