-- By the signal's route.
use Rattle.sys.proofs.Laws.{sig_none, sig-pin}
use native.Mathlib.Omega.{arith}
use Rattle.sys.proofs.move_signal.Goals as goal

pub returns-in_err-p-clause-moves : goal.returns-in_err-p-clause-moves
returns-in_err-p-clause-moves c =
    rw c.from_residual.ensures (sig_none _ _ _ c.requires.2 _ (c.set_sig_level.ensures c.args.board.now.reals.now) (c.in_err-p.ensures c.args.board.now.reals.now))

pub returns-clause-moves : goal.returns-clause-moves
returns-clause-moves c =
    sig-pin _ _ _ c.requires.2 _ (c.set_sig_level.ensures c.args.board.now.reals.now) _ (c.in_ok-p.ensures c.args.board.now.reals.now) (λ e. omega (arith, e, c.in_ok-p.p.below)) _ _ c.refresh_pin.ensures.moves
