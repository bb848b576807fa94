-- No such pin, or the pin's own.
use Rattle.control.proofs.Laws.{no-volts, volts-told}
use Rattle.state.proofs.Asked.{found, missing}
use Rattle.std.proofs.lemmas.Result.{err_from_is_err_and}
use mathlib.Core.Path.{refl}
use Rattle.control.proofs.volts.Goals as goal

pub returns-in_err-p : goal.returns-in_err-p
returns-in_err-p c =
    let p = err_from_is_err_and c.from_residual.result c.from_residual.ensures.1 in
    let q = missing _ _ _ _ _ (c.pin.ensures c.args.board.reals.now) c.ok_or.ensures.value c.in_err-p.was in
    rw (p.1, p.2, q.0) (no-volts _ _ _ _ q.1 refl)

pub returns : goal.returns
returns c =
    let q = found _ _ _ _ _ (c.pin.ensures c.args.board.reals.now) c.ok_or.ensures.value c.in_ok-p.was in
    volts-told _ _ _ _ _ _ q.1 (rw q.0 at c.load_gpio-g.ensures) c.bits.ensures c.served.ensures
