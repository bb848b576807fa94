-- A word stored in the enable words.
use Rattle.state.proofs.Stores.{enr-set}
use native.Mathlib.Omega.{arith}
use Rattle.state.proofs.set_enr.Goals as goal

pub returns : goal.returns
returns c = λ x. enr-set _ x c.told-words c.args.i c.args.v c.requires (omega arith)
