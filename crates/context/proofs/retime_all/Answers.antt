use Prim.Native.Nat.{ℕ}
use Rattle.machine.specs.Step.{all_retimed}
use Rattle.context.proofs.Laws.{all_done, all_start, all-step}
use Rattle.state.proofs.InRange.{bounded}
use Rattle.state.specs.Lent.{lent_board}
use borrow.Author.Rules.{rules}
use mathlib.Core.Path.{◌∙◌, ap, refl}
use native.Mathlib.Omega.{arith}
use Rattle.context.proofs.retime_all.Goals as goal

pub loop-i-init : goal.loop-i-init
loop-i-init c = (all_start _ c.args.cycle (lent_board c.args.board.now), record { words = refl; reals = refl })

pub invariant_of-timer : goal.invariant_of-timer
invariant_of-timer c = record { below = omega (arith, c.loop-i-test.true, c.timer_count-n.ensures c.args.board.now.reals.now, (bounded c.args.board.now.words.now c.args.board.now.reals.now).timers-le) }

pub loop-i-preserved : goal.loop-i-preserved
loop-i-preserved c = (all-step _ c.loop-i.i c.args.cycle _ _ c.loop-i-test.true c.retime.ensures ∙ c.loop-i.invariant.0, search rules)

pub returns-clause-board : goal.returns-clause-board
returns-clause-board c = all_done _ c.loop-i.i c.args.cycle _ c.loop-i-test.false ∙ (c.loop-i.invariant.0 ∙ ap (λ (m : ℕ). all_retimed m 0 c.args.cycle (lent_board c.args.board.now)) (c.timer_count-n.ensures c.args.board.now.reals.now))
