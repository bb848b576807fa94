use mathlib.Core.Path.{sym, ◌∙◌}
use mathlib.Core.List.{[]}
use Rattle.machine.specs.Refusals.{first}
use Rattle.state.proofs.Asked.{found, missing}
use Rattle.std.proofs.lemmas.Result.{err_from_is_err_and}
use Rattle.answer.proofs.check_timer.Goals as goal

pub returns-in_err-i-clause-refusal : goal.returns-in_err-i-clause-refusal
unfolding first
returns-in_err-i-clause-refusal c =
    λ x. let p = err_from_is_err_and c.from_residual.result c.from_residual.ensures.1 in
    let q = missing _ _ _ _ _ (c.timer.ensures x) c.ok_or.ensures.value c.in_err-i.was in
    rw (p.1, p.2, q.0, q.1)

pub returns-then-odd_size-clause-refusal : goal.returns-then-odd_size-clause-refusal
unfolding first
returns-then-odd_size-clause-refusal c =
    λ x. rw ((found _ _ _ _ _ (c.timer.ensures x) c.ok_or.ensures.value c.in_ok-i.was).1, sym c.odd_size.ensures ∙ c.if-odd_size.true)

pub returns-then-is_astray-clause-refusal : goal.returns-then-is_astray-clause-refusal
unfolding first
returns-then-is_astray-clause-refusal c =
    λ x. rw ((found _ _ _ _ _ (c.timer.ensures x) c.ok_or.ensures.value c.in_ok-i.was).1, sym c.odd_size.ensures ∙ c.if-odd_size.false, sym (c.is_astray.ensures x) ∙ c.if-is_astray.true)

pub returns-clause-refusal : goal.returns-clause-refusal
unfolding first
returns-clause-refusal c =
    λ x. rw ((found _ _ _ _ _ (c.timer.ensures x) c.ok_or.ensures.value c.in_ok-i.was).1, sym c.odd_size.ensures ∙ c.if-odd_size.false, sym (c.is_astray.ensures x) ∙ c.if-is_astray.false)

pub returns-clause-index : goal.returns-clause-index
returns-clause-index c = (found _ _ _ _ _ (c.timer.ensures []) c.ok_or.ensures.value c.in_ok-i.was).0
