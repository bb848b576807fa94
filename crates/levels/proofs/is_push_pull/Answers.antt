-- By the mode and the kind of output.
use Rattle.state.proofs.Places.{no_flag, push-pull, not-push-pull}
use borrow.Author.Tests.{ne_eqb}
use Rattle.std.proofs.Common.{not, ◌∙◌, sym, ap}
use Rattle.levels.proofs.is_push_pull.Goals as goal

pub returns-then-low_8-eq2 : goal.returns-then-low_8-eq2
returns-then-low_8-eq2 c = λ x. ap not c.is_odd.ensures ∙ (no_flag _ ∙ sym (push-pull c.args.words.now x c.args.p.n c.args.p.below (sym c.low_8.ensures ∙ c.if-low_8-eq2.true)))

pub returns-else-low_8-eq2 : goal.returns-else-low_8-eq2
returns-else-low_8-eq2 c = λ x. ne_eqb _ _ c.if-low_8-eq2.false ∙ sym (not-push-pull c.args.words.now x c.args.p.n c.args.p.below (λ e. c.if-low_8-eq2.false (c.low_8.ensures ∙ e)))
