-- The timer loaded, retimed, stored, and booked if it runs.
use Rattle.context.proofs.Laws.{retimed-running, retimed-stopped}
use Rattle.context.proofs.Small.{loaded-fit, of-eight, retimed-fit}
use Rattle.context.proofs.retime.Goals as goal

pub on_clock_change-s-requires : goal.on_clock_change-s-requires
on_clock_change-s-requires c = ((loaded-fit c.args.words.now c.args.reals.now c.args.i.n _ (c.load_timer-t.ensures c.args.reals.now)), c.requires)

pub store_timer-requires : goal.store_timer-requires
store_timer-requires c = (retimed-fit _ _ c.args.cycle _ (loaded-fit c.args.words.now c.args.reals.now c.args.i.n _ (c.load_timer-t.ensures c.args.reals.now)) c.on_clock_change-s.ensures c.requires c.divider-div.ensures.positive c.divider-div.result.below)

pub returns-then-s : goal.returns-then-s
returns-then-s c = retimed-running _ _ c.args.i.n c.args.cycle _ _ _ (c.load_timer-t.ensures c.args.reals.now) c.divider-div.ensures.divider c.on_clock_change-s.ensures (c.store_timer.ensures c.args.reals.now) _ (of-eight c.args.words.now c.args.reals.now c.args.i.n c.args.i.below) c.if-s.true (c.rebook.ensures c.args.reals.now)

pub returns-else-s : goal.returns-else-s
returns-else-s c = retimed-stopped _ _ c.args.i.n c.args.cycle _ _ _ (c.load_timer-t.ensures c.args.reals.now) c.divider-div.ensures.divider c.on_clock_change-s.ensures (c.store_timer.ensures c.args.reals.now) c.if-s.false
