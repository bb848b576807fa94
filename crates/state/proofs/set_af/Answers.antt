-- A word stored in the table.
use Rattle.state.proofs.Stores.{af-set}
use Rattle.state.proofs.set_af.Goals as goal

pub returns : goal.returns
returns c = λ x. af-set _ x c.told-words c.args.k c.args.s c.requires.0 c.requires.1
