-- By the event; a compare is of one of four channels.
use Rattle.delivery.specs.Delivery.{OfFour}
use mathlib.Core.Path.{subst}
use Rattle.delivery.proofs.apply.Goals as goal

pub invariant_of-compare : goal.invariant_of-compare
invariant_of-compare c = record { below = subst OfFour c.in-Compare.is c.requires.0 }

pub returns-in-Update : goal.returns-in-Update
returns-in-Update c = rw c.in-Update.is c.update.ensures

pub returns-in-Compare : goal.returns-in-Compare
returns-in-Compare c = rw c.in-Compare.is c.compare.ensures
