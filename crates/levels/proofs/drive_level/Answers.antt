-- The words and the real of the pin that change.
use Rattle.levels.proofs.Pushed.{stored, driven-set}
use mathlib.Core.Path.{◌∙◌}
use Rattle.levels.proofs.drive_level.Goals as goal

pub returns-clause-board : goal.returns-clause-board
unfolding stored
returns-clause-board c = rw c.level_word.ensures (driven-set c.args.board.now.words.now c.args.board.now.reals.now c.known_lengths.ensures.words c.known_lengths.ensures.reals c.args.p.n c.args.p.below c.args.level c.requires c.supply_at-v.result (c.supply_at-v.ensures ∙ rw (c.vcc.ensures c.args.board.now.words.now)))
