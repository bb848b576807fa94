-- EGR, or the whole of a register.
use mathlib.Core.Path.{ap, ◌∙◌}
use Prim.Native.Nat.{ℕ}
use Rattle.machine.specs.Board.{timer_at}
use Rattle.periph.specs.Lane.{lane_read}
use Rattle.regs.specs.Regs.{reg_read}
use Rattle.state.specs.View.{view}
use borrow.Author.Tests.{eq-eqb, ne_eqb}
use native.Mathlib.Omega.{arith}
use Rattle.write.proofs.present.Goals as goal

pub returns-then-off-eq20 : goal.returns-then-off-eq20
returns-then-off-eq20 c = λ x. rw (eq-eqb _ _ c.if-off-eq20.true)

pub lane_of-requires : goal.lane_of-requires
lane_of-requires c = (omega arith, c.requires.1)

pub returns : goal.returns
unfolding lane_read
returns c =
    λ x. rw (ne_eqb _ _ c.if-off-eq20.false)
    (c.lane_of.ensures x ∙ ap (λ (off : ℕ). reg_read (timer_at (view c.args.words.now x) c.args.i.n) off c.args.cycle) c.requires.0)
