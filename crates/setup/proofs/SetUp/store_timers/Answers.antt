use Rattle.setup.proofs.Laws.{store-begins, store_goes, store-ends, new-fit}
use native.Mathlib.Omega.{arith}
use Rattle.setup.proofs.SetUp.store_timers.Goals as goal

pub loop-i-init : goal.loop-i-init
loop-i-init c = store-begins c.args.self.manual c.args.self.timers.now c.args.words.now

pub inst_at-requires : goal.inst_at-requires
inst_at-requires c = omega (arith, c.requires, c.timer_count-n.ensures, c.loop-i-test.true)

pub store_timer-requires : goal.store_timer-requires
store_timer-requires c = new-fit _ _ c.new-t.ensures

pub invariant_of-index : goal.invariant_of-index
invariant_of-index c = record { below = omega (arith, c.requires, c.timer_count-n.ensures, c.loop-i-test.true) }

pub loop-i-preserved : goal.loop-i-preserved
loop-i-preserved c = store_goes c.args.self.manual c.args.self.timers.now c.loop-i.i c.args.words.now c.loop-i.words c.loop-i.invariant (omega (arith, c.timer_count-n.ensures, c.loop-i-test.true)) c.requires _ _ _ c.inst_at.ensures c.new-t.ensures c.store_timer.ensures

pub returns : goal.returns
returns c = store-ends c.args.self.manual c.args.self.timers.now c.loop-i.i c.args.words.now c.loop-i.words c.loop-i.invariant (omega (arith, c.timer_count-n.ensures, c.loop-i-test.false))
