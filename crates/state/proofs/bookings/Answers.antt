-- The eight words of the bookings.
use Rattle.scheduler.specs.Booking.{holding}
use Rattle.state.proofs.Places.{booking-all}
use mathlib.Core.Path.{◌∙◌, ap, sym}
use Rattle.state.proofs.bookings.Goals as goal

pub returns : goal.returns
returns c = λ x. c.from.ensures ∙ ap holding (c.get.ensures ∙ sym (booking-all c.args.words.now x))
