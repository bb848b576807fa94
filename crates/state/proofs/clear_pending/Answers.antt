-- A word stored for a line that there is; else nothing.
use Rattle.nvic.specs.Nvic.{line_cleared}
use Rattle.state.proofs.Stores.{line-none, line_set_lem}
use Rattle.state.proofs.clear_pending.Goals as goal

pub returns-in-Some : goal.returns-in-Some
returns-in-Some c =
    λ x. let p = c.in-Some.ensures.line x in rw p.0 (line_set_lem c.args.words.now x c.told-words line_cleared c.args.irq c.cleared.result p.1 (rw p.0 at c.cleared.ensures))

pub returns-in_default : goal.returns-in_default
returns-in_default c = λ x. line-none c.args.words.now x c.told-words line_cleared c.args.irq (c.in_default.ensures.line x)
