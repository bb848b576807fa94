-- Whether it waits, and whether its compare lies ahead.
use Rattle.tim.proofs.Laws.{shut, steps-none, steps-some}
use mathlib.Core.Path.{◌∙◌, sym}
use Rattle.tim.proofs.Timer.consider.Goals as goal

pub returns-then-not-is_waiting : goal.returns-then-not-is_waiting
returns-then-not-is_waiting c = sym (shut _ _ _ (sym c.is_waiting.ensures ∙ c.if-not-is_waiting.true))

pub returns-in-Some : goal.returns-in-Some
returns-in-Some c =
    c.or_compare.ensures ∙ rw c.from.ensures (sym (steps-some _ _ _ _ (sym c.is_waiting.ensures ∙ c.if-not-is_waiting.false) (sym c.steps_to.ensures ∙ c.in-Some.is)))

pub returns-in-None : goal.returns-in-None
returns-in-None c = sym (steps-none _ _ _ (sym c.is_waiting.ensures ∙ c.if-not-is_waiting.false) (sym c.steps_to.ensures ∙ c.in-None.is))
