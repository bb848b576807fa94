-- The word of a line that there is; else 0.
use Rattle.nvic.proofs.Laws.{absent}
use Rattle.state.proofs.Places.{line_read}
use Rattle.state.specs.View.{view}
use mathlib.Core.Path.{sym}
use Rattle.state.proofs.line_state.Goals as goal

pub returns-in-Some : goal.returns-in-Some
returns-in-Some c = λ x. let p = c.in-Some.ensures.line x in rw (line_read c.args.words.now x c.args.irq p.1) (rw p.0 at c.state.ensures)

pub returns : goal.returns
returns c = λ x. sym (absent (view c.args.words.now x).nvic c.args.irq (c.in_default.ensures.line x))
