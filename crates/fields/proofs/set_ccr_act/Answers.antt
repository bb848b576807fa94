-- A compare's word stored.
use Rattle.fields.proofs.Stored.{ccr-act-set}
use native.Mathlib.Omega.{arith}
use Rattle.fields.proofs.set_ccr_act.Goals as goal

pub returns : goal.returns
returns c = ccr-act-set c.args.words.now c.args.i.n c.told-words c.args.i.below c.args.ch.n c.args.v c.args.ch.below (omega arith)
