-- The loaded timer says whether the compare lies behind.
use Rattle.state.specs.View.{view}
use Rattle.regfile.proofs.Written.{done-set}
use Rattle.regfile.proofs.settle_done.Goals as goal

pub returns : goal.returns
returns c =
    λ x. done-set (view c.args.words.now x) _ c.args.i.n c.args.ch.n c.args.ccr _ _ (c.load_timer-t.ensures x) c.is_past-done.ensures (c.set_done.ensures x)
