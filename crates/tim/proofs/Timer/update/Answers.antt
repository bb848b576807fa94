-- Reload, restart, settle, end.
use Rattle.tim.specs.declared.Timer.{Timer}
use Rattle.tim.specs.Change.{ended, recomputed_after_update, restarted, updated}
use mathlib.Core.Path.{◌∙◌, ap}
use Rattle.tim.proofs.Laws.{reloaded-psc}
use Rattle.tim.proofs.Timer.update.Goals as goal

pub restart-requires : goal.restart-requires
restart-requires c = rw c.reload.ensures (reloaded-psc c.args.self c.requires)

pub returns : goal.returns
unfolding updated
returns c = c.end.ensures ∙ ap ended (c.recompute_cc_done_after_update.ensures ∙ ap recomputed_after_update (c.restart.ensures ∙ ap (λ (t : Timer). restarted t c.args.at c.args.div.n) c.reload.ensures))
