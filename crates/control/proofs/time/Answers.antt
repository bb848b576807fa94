-- By the cycle.
use Rattle.control.proofs.Laws.{time-astray, time-told}
use mathlib.Core.Path.{refl}
use Rattle.control.proofs.time.Goals as goal

pub returns-then-is_astray : goal.returns-then-is_astray
returns-then-is_astray c = time-astray _ _ _ _ _ (c.is_astray.ensures c.args.board.reals.now) c.if-is_astray.true refl

pub returns : goal.returns
returns c = time-told _ _ _ _ _ _ _ _ (c.is_astray.ensures c.args.board.reals.now) c.if-is_astray.false c.clock-k.ensures c.time_at.ensures c.bits.ensures c.served.ensures
