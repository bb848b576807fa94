-- The event's cycle, and its booking.
use mathlib.Core.Path.{◌∙◌}
use Rattle.context.proofs.book_due.Goals as goal

pub returns : goal.returns
returns c = λ x. c.book.ensures x ∙ rw c.booking_of-at.ensures
