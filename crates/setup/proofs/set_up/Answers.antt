-- Outside the limits, without a clock, or replaced.
use Rattle.setup.proofs.Given.{set-up-answers}
use Rattle.setup.proofs.Laws.{outside, no-clock, replaced}
use Rattle.setup.specs.Given.{setup_given}
use mathlib.Core.Bool.{not}
use mathlib.Core.Path.{◌∙◌, ap, sym}
use Rattle.setup.proofs.set_up.Goals as goal

pub returns-then-not-within_limits-clause-answers : goal.returns-then-not-within_limits-clause-answers
returns-then-not-within_limits-clause-answers c =
    set-up-answers _ _ _ _ _ _ (outside (setup_given c.args.s) c.args.board.now.words.now c.args.board.now.reals.now _ c.within_limits.ensures (ap not c.if-not-within_limits.true))

pub returns-then-not-is_positive-clause-answers : goal.returns-then-not-is_positive-clause-answers
returns-then-not-is_positive-clause-answers c =
    set-up-answers _ _ _ _ _ _ (no-clock (setup_given c.args.s) c.args.board.now.words.now c.args.board.now.reals.now _ c.within_limits.ensures (ap not c.if-not-within_limits.false) _ c.is_positive.ensures (ap not c.if-not-is_positive.true))

pub fill-requires : goal.fill-requires
fill-requires c = sym c.within_limits.ensures ∙ c.if-not-within_limits.false

pub returns-clause-answers : goal.returns-clause-answers
returns-clause-answers c =
    rw c.served.ensures (set-up-answers _ _ _ _ _ _ (replaced (setup_given c.args.s) c.args.board.now.words.now c.args.board.now.reals.now _ c.within_limits.ensures (ap not c.if-not-within_limits.false) _ c.is_positive.ensures (ap not c.if-not-is_positive.false) _ _ c.fill.ensures.board))
