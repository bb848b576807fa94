-- The three words stored.
use Rattle.state.proofs.Stores.{sizes-set}
use Rattle.state.proofs.set_sizes.Goals as goal

pub returns : goal.returns
returns c = λ x. sizes-set _ x c.told-words c.args.timers c.args.pins c.args.lines c.requires.0 c.requires.1.0 c.requires.1.1
