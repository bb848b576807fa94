-- The word that the booking changed, stored in the bookings.
use Rattle.scheduler.specs.declared.Scheduler.{Scheduler}
use mathlib.Core.Path.{◌∙◌, ap}
use Rattle.state.specs.Board.{booking_set}
use Rattle.state.specs.View.{view}
use Rattle.state.proofs.Places.{booked-word}
use Rattle.state.proofs.Stores.{booking-set}
use Rattle.state.proofs.book.Goals as goal

pub returns : goal.returns
returns c =
    let o = c.args.owner.n in
    let table = λ (s : Scheduler). s.cycles in
    λ x. booking-set _ x c.told-words o _ c.args.owner.below
    ∙ ap (booking_set (view c.args.words.now x) o)
    (booked-word c.args.words.now x _ _ o c.args.cycle c.args.owner.below (ap table (c.bookings-scheduler.ensures x)) (ap table c.book.ensures))
