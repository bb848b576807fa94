-- Four words of 32 pins.
use Rattle.std.proofs.Common.{arith}
use Rattle.shift.proofs.Ending.{high-none}
use Rattle.shift.proofs.high_pins.Goals as goal

pub returns : goal.returns
returns c = omega (arith, high-none c.args.kept.now, c.high_in.ensures.0, c.high_in-2.ensures.0, c.high_in-3.ensures.0, c.high_in-4.ensures.0)
