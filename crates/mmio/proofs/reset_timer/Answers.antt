-- The reset values stored, and what follows.
use Rattle.mmio.proofs.Laws.{of-eight, resets}
use Rattle.tim.proofs.Fit.{fit-reset}
use native.Mathlib.Omega.{arith}
use Rattle.mmio.proofs.reset_timer.Goals as goal

pub store_timer-requires : goal.store_timer-requires
store_timer-requires c =
    rw c.reset-s.ensures (fit-reset _ _ (omega (arith, c.divider-div.ensures.positive)) c.divider-div.result.below)

pub returns-clause-leaves : goal.returns-clause-leaves
returns-clause-leaves c = resets _ _ _ c.args.i.n c.args.cycle _ _ _ _ _ (c.load_timer-t.ensures c.args.board.now.reals.now) (rw (c.seen.ensures.words, c.seen.ensures.reals) at c.divider-div.ensures.divider) c.reset-s.ensures (of-eight c.args.board.now.words.now c.args.board.now.reals.now c.args.i.n c.args.i.below) (c.store_timer.ensures c.args.board.now.reals.now) c.follow.ensures.leaves
