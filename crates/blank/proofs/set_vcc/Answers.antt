-- A real stored for the supply.
use Rattle.state.proofs.Stores.{vcc-set}
use Rattle.blank.proofs.set_vcc.Goals as goal

pub returns : goal.returns
returns c = λ w. vcc-set w _ c.told-reals c.args.v
