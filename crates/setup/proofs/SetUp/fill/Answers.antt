-- The cleared board, its timers, its table, its sizes.
use Rattle.setup.proofs.Laws.{filled-up}
use Rattle.setup.proofs.Limits.{within}
use native.Mathlib.Omega.{arith}
use Rattle.setup.proofs.SetUp.fill.Goals as goal

pub store_timers-requires : goal.store_timers-requires
store_timers-requires c = (within c.args.self.hz c.args.self.vcc c.args.self.pins c.args.self.lines c.args.self.manual c.args.self.timers.now c.args.self.table.now c.requires).timers

pub store_table-requires : goal.store_table-requires
store_table-requires c = let w = within c.args.self.hz c.args.self.vcc c.args.self.pins c.args.self.lines c.args.self.manual c.args.self.timers.now c.args.self.table.now c.requires in (omega (arith, w.table, w.pins), w.entries)

pub set_sizes-requires : goal.set_sizes-requires
set_sizes-requires c = let w = within c.args.self.hz c.args.self.vcc c.args.self.pins c.args.self.lines c.args.self.manual c.args.self.timers.now c.args.self.table.now c.requires in (omega (arith, w.timers, c.timer_count-count.ensures), (w.pins, w.lines))

pub returns-clause-board : goal.returns-clause-board
returns-clause-board c = filled-up c.args.self.hz c.args.self.vcc c.args.self.pins c.args.self.lines c.args.self.manual c.args.self.timers.now c.args.self.table.now _ _ _ _ _ c.clear.ensures.board (c.store_timers.ensures _) (c.store_table.ensures _) c.timer_count-count.ensures (c.set_sizes.ensures _)
