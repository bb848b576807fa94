-- Zeros, and the three parts that are not zero.
use Rattle.blank.proofs.Blank.{blank-words}
use Rattle.blank.proofs.clear_words.Goals as goal

pub returns : goal.returns
returns c = blank-words c.args.words.now _ _ _ _ c.told-words c.fill.ensures c.fill-2.ensures c.fill-3.ensures c.idle_levels.ensures
