-- A loaded timer is fit to be stored.
use Rattle.state.proofs.InRange.{bounded}
use mathlib.Core.List.{[]}
use Rattle.probe.proofs.probe_timer.Goals as goal

pub store_timer-requires : goal.store_timer-requires
store_timer-requires c = rw (c.load_timer-t.ensures []) ((bounded _ []).timer-fit _)

pub returns : goal.returns
returns c =
    λ x. rw (c.store_timer.ensures x, c.load_timer-t.ensures x)
