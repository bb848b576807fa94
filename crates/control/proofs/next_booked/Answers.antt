-- The least of the bookings.
use Rattle.control.proofs.Laws.{next-told}
use Rattle.control.proofs.next_booked.Goals as goal

pub returns : goal.returns
returns c = λ x. next-told _ _ _ _ (c.next_booked-next.ensures x) c.served.ensures
