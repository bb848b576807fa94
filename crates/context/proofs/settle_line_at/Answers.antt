-- The timer loaded, and its line settled.
use mathlib.Core.Path.{ap, ◌∙◌}
use Rattle.tim.specs.declared.Timer.{Timer}
use Rattle.machine.specs.Deliver.{line_settled}
use Rattle.state.specs.View.{view}
use Rattle.context.proofs.settle_line_at.Goals as goal

pub returns : goal.returns
returns c = λ x. c.settle_line.ensures x ∙ ap (λ (t : Timer). line_settled c.args.i.n t (view c.args.words.now x)) (c.load_timer-timer.ensures x)
