-- Two words of the counter stored.
use Rattle.fields.proofs.Stored.{at_set}
use native.Mathlib.Omega.{arith}
use Rattle.fields.proofs.set_at.Goals as goal

pub returns : goal.returns
returns c = at_set c.args.words.now c.args.i.n c.told-words c.args.i.below c.args.cnt c.args.base (omega arith) c.requires
