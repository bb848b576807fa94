-- A word stored in the levels.
use Rattle.state.proofs.Stores.{level-set}
use Rattle.state.proofs.set_sig_level.Goals as goal

pub returns : goal.returns
returns c = λ x. level-set _ x c.told-words c.args.s c.args.level c.requires.0 c.requires.1
