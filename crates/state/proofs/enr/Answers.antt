-- The enable word.
use Rattle.state.proofs.Places.{enr-read}
use mathlib.Core.Path.{sym, ◌∙◌}
use Rattle.state.proofs.enr.Goals as goal

pub returns : goal.returns
returns c = λ x. c.low_32.ensures ∙ sym (enr-read c.args.words.now x c.args.i c.requires)
