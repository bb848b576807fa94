use Prim.Native.Nat.{ℕ}
use Rattle.nvic.specs.Nvic.{line_of, line_set}
use Rattle.state.proofs.Stores.{line-none, line_set_lem}
use lib.ListN.{get_or}
use mathlib.Core.Path.{ap, ◌∙◌}
use Rattle.state.proofs.set_line.Goals as goal

pub returns-in-Some : goal.returns-in-Some
returns-in-Some c =
    λ x. let p = c.in-Some.ensures.line x in
    rw p.0 (line_set_lem c.args.words.now x c.told-words (λ l. line_set l c.args.i.n c.args.level) c.args.irq c.driven.result p.1 (c.driven.ensures ∙ ap (λ (k : ℕ). line_set (line_of (get_or c.args.words.now k 0)) c.args.i.n c.args.level) p.0))

pub returns-in_default : goal.returns-in_default
returns-in_default c = λ x. line-none c.args.words.now x c.told-words (λ l. line_set l c.args.i.n c.args.level) c.args.irq (c.in_default.ensures.line x)
