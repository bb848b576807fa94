-- The word of the level.
use Rattle.state.proofs.Places.{pin_level_lem}
use mathlib.Core.Path.{sym, ◌∙◌}
use Rattle.levels.proofs.level.Goals as goal

pub returns : goal.returns
returns c = λ x. c.lowest.ensures ∙ sym (pin_level_lem c.args.words.now x c.args.p.n c.args.p.below)
