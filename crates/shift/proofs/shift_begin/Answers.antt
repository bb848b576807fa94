-- The stores stand for a shift without entries.
use Rattle.std.proofs.Common.{arith}
use Rattle.shift.specs.Shift.{shift}
use Rattle.shift.proofs.Standing.{stands-begun}
use Rattle.shift.proofs.shift_begin.Goals as goal

pub returns : goal.returns
returns c = stands-begun (shift c.args.words.now c.args.from c.args.to) _ c.number.result c.begin_pins.ensures (omega arith) c.number.ensures
