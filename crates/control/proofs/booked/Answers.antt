-- No such timer, or the timer's booking.
use Rattle.control.proofs.Laws.{no-timer, booked-told}
use Rattle.state.proofs.Asked.{found, missing}
use Rattle.std.proofs.lemmas.Result.{err_from_is_err_and}
use mathlib.Core.Path.{refl}
use Rattle.control.proofs.booked.Goals as goal

pub returns-in_err-i : goal.returns-in_err-i
returns-in_err-i c =
    λ x. let p = err_from_is_err_and c.from_residual.result c.from_residual.ensures.1 in
    let q = missing _ _ _ _ _ (c.timer.ensures x) c.ok_or.ensures.value c.in_err-i.was in
    rw (p.1, p.2, q.0) (no-timer _ _ _ _ q.1 refl)

pub returns : goal.returns
returns c =
    λ x. let q = found _ _ _ _ _ (c.timer.ensures x) c.ok_or.ensures.value c.in_ok-i.was in
    booked-told _ _ _ _ _ q.1 (rw q.0 at c.booked-cycle.ensures x) c.served.ensures
