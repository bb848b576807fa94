-- No such pin, or the pin and what the rest says.
use Rattle.machine.specs.Refusals.{first}
use Rattle.state.proofs.Asked.{found, missing}
use Rattle.std.proofs.lemmas.Result.{err_from_is_err_and}
use mathlib.Core.List.{[]}
use Rattle.pads.proofs.check_drive.Goals as goal

pub returns-in_err-p-clause-refusal : goal.returns-in_err-p-clause-refusal
unfolding first
returns-in_err-p-clause-refusal c =
    λ x. let p = err_from_is_err_and c.from_residual.result c.from_residual.ensures.1 in
    let q = missing _ _ _ _ _ (c.pin.ensures x) c.ok_or.ensures.value c.in_err-p.was in
    rw (p.1, p.2, q.0, q.1)

pub returns-in_err-check-clause-refusal : goal.returns-in_err-check-clause-refusal
unfolding first
returns-in_err-check-clause-refusal c =
    λ x. let p = err_from_is_err_and c.from_residual-in_err-check.result c.from_residual-in_err-check.ensures.1 in
    rw (p.1, p.2, (found _ _ _ _ _ (c.pin.ensures x) c.ok_or.ensures.value c.in_ok-p.was).1) (c.in_err-check.ensures x)

pub returns-clause-refusal : goal.returns-clause-refusal
unfolding first
returns-clause-refusal c = λ x. rw (found _ _ _ _ _ (c.pin.ensures x) c.ok_or.ensures.value c.in_ok-p.was).1 (c.in_ok-check.ensures x)

pub returns-clause-index : goal.returns-clause-index
returns-clause-index c = (found _ _ _ _ _ (c.pin.ensures []) c.ok_or.ensures.value c.in_ok-p.was).0
