-- The word of the cycle stored.
use Rattle.state.proofs.Stores.{last_set}
use Rattle.state.proofs.set_last.Goals as goal

pub returns : goal.returns
returns c = λ x. last_set _ x c.told-words c.args.cycle
