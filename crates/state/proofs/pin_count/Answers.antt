-- The word of the count.
use Rattle.state.proofs.Places.{pins-read}
use mathlib.Core.Path.{◌∙◌, sym}
use Rattle.state.proofs.pin_count.Goals as goal

pub returns : goal.returns
returns c = λ x. c.min.ensures ∙ sym (pins-read c.args.words.now x)
