-- From now on, and settled.
use Rattle.tim.specs.Change.{ran_from, recomputed, started}
use Prim.Native.Nat.{ℕ}
use mathlib.Core.Path.{◌∙◌, ap}
use Rattle.tim.proofs.Timer.start.Goals as goal

pub returns : goal.returns
unfolding started
returns c = c.recompute_cc_done.ensures ∙ ap recomputed (c.run_from.ensures ∙ ap (λ (k : ℕ). ran_from c.args.self c.args.now k) c.step_cycles.ensures)
