-- The word of the level.
use Rattle.state.proofs.Places.{level-read}
use mathlib.Core.Path.{sym, ◌∙◌}
use Rattle.state.proofs.sig_level.Goals as goal

pub returns : goal.returns
returns c = λ x. c.lowest.ensures ∙ sym (level-read c.args.words.now x c.args.s c.requires)
