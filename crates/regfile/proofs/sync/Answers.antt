-- The reference of a running timer stored; a stopped one has nothing to store.
use Rattle.state.specs.View.{view}
use mathlib.Core.List.{[]}
use Rattle.tim.proofs.Fit.{fit-synced}
use Rattle.regfile.proofs.Written.{loaded-fit, sync-running, sync-stopped}
use Rattle.regfile.proofs.sync.Goals as goal

pub sync-s-requires : goal.sync-s-requires
sync-s-requires c =
    (loaded-fit c.args.words.now [] c.args.i.n _ (c.load_timer-t.ensures []), c.requires)

pub set_at-requires : goal.set_at-requires
set_at-requires c =
    rw c.sync-s.ensures (fit-synced c.load_timer-t.result (loaded-fit c.args.words.now [] c.args.i.n _ (c.load_timer-t.ensures [])) c.args.cycle c.requires).base-lt

pub returns-then-t : goal.returns-then-t
returns-then-t c =
    λ x. sync-running (view c.args.words.now x) c.args.i.n c.args.cycle _ (c.load_timer-t.ensures x) _ _ c.sync-s.ensures (c.set_at.ensures x)

pub returns-else-t : goal.returns-else-t
returns-else-t c =
    λ x. sync-stopped (view c.args.words.now x) c.args.i.n c.args.cycle _ (c.load_timer-t.ensures x) c.if-t.false
