-- The three tests in order.
use Rattle.machine.specs.Refusals.{first}
use borrow.Author.Tests.{lt-ltb, le-ltb}
use mathlib.Core.Path.{◌∙◌, sym}
use Rattle.pads.proofs.check.Goals as goal

pub returns-then-is_astray : goal.returns-then-is_astray
unfolding first
returns-then-is_astray c = λ x. rw (sym (c.is_astray.ensures x) ∙ c.if-is_astray.true)

pub returns-then-taken : goal.returns-then-taken
unfolding first
returns-then-taken c = λ x. rw (sym (c.is_astray.ensures x) ∙ c.if-is_astray.false, c.if-taken.true)

pub returns-then-places-need : goal.returns-then-places-need
unfolding first
returns-then-places-need c =
    λ x. rw (sym (c.is_astray.ensures x) ∙ c.if-is_astray.false, c.if-taken.false, sym c.places.ensures, lt-ltb _ _ c.if-places-need.true)

pub returns : goal.returns
unfolding first
returns c =
    λ x. rw (sym (c.is_astray.ensures x) ∙ c.if-is_astray.false, c.if-taken.false, sym c.places.ensures, le-ltb _ _ c.if-places-need.false)
