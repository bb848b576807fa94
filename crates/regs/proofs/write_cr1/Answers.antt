-- By CEN before and after.
use Rattle.regs.proofs.Cases.{cr1-starts, cr1-stays, cr1-stops}
use Rattle.tim.proofs.Fit.{fit-synced}
use mathlib.Core.Path.{refl, ◌∙◌, sym}
use native.Mathlib.Omega.{arith}
use Rattle.regs.proofs.write_cr1.Goals as goal

pub returns-then-old-new : goal.returns-then-old-new
returns-then-old-new c = cr1-stays c.args.timer c.args.v c.args.now c.args.div.n c.kept_cr1-new.ensures c.sync-t.ensures refl c.if-old-new.true c.turn.ensures

pub start-requires : goal.start-requires
start-requires c = rw c.sync-t.ensures (fit-synced c.args.timer c.requires.fit c.args.now c.requires.now-lt)

pub returns-then-new-eq1 : goal.returns-then-new-eq1
returns-then-new-eq1 c = cr1-starts c.args.timer c.args.v c.args.now c.args.div.n c.kept_cr1-new.ensures c.sync-t.ensures refl c.if-new-eq1.true (λ o. c.if-old-new.false (o ∙ sym c.if-new-eq1.true)) c.start.ensures

pub stop-requires : goal.stop-requires
stop-requires c = (rw c.sync-t.ensures (fit-synced c.args.timer c.requires.fit c.args.now c.requires.now-lt), c.requires.now-lt)

pub returns-else-new-eq1 : goal.returns-else-new-eq1
returns-else-new-eq1 c = cr1-stops c.args.timer c.args.v c.args.now c.args.div.n c.kept_cr1-new.ensures c.sync-t.ensures refl c.if-new-eq1.false (omega arith) c.stop.ensures
