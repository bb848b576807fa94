-- By the event.
use Rattle.machine.specs.Deliver.{booking_of}
use Rattle.context.proofs.Laws.{at-booking}
use Rattle.tim.specs.declared.Due.{Due}
use mathlib.Core.Path.{◌∙◌, ap, sym}
use Rattle.context.proofs.booking_of.Goals as goal

pub returns-in-At : goal.returns-in-At
returns-in-At c = c.max.ensures ∙ at-booking _ _ _ c.args.cycle c.in-At.is

pub returns-in-Stopped : goal.returns-in-Stopped
returns-in-Stopped c = sym (ap (λ (x : Due). booking_of x c.args.cycle) c.in-Stopped.is)
