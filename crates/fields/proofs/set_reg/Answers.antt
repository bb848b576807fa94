-- A register's word stored.
use Rattle.fields.proofs.Stored.{reg-set}
use mathlib.Core.Path.{sym}
use native.Mathlib.Omega.{arith}
use Rattle.fields.proofs.set_reg.Goals as goal

pub returns : goal.returns
returns c = rw (sym c.place.ensures.0) (reg-set c.args.words.now c.args.i.n c.told-words c.args.i.below c.place.result c.args.v c.place.ensures.1 (omega (arith, c.place.ensures.1)))
