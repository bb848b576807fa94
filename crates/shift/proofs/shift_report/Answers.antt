-- Begin, one feed, end.
use Rattle.std.proofs.Common.{[], arith}
use Rattle.shift.specs.Shift.{shift, piece, length_of, entries_in}
use Rattle.shift.proofs.Ending.{entries-length}
use Rattle.shift.proofs.shift_report.Goals as goal

pub returns : goal.returns
returns c = c.shift_end.ensures.reports (shift c.args.words.now c.args.from c.args.to) (entries_in (piece c.args.pins.now c.args.levels.now c.args.cycles.now)) (c.shift_feed.ensures.stands (shift c.args.words.now c.args.from c.args.to) [] c.shift_begin.ensures) (omega (arith, entries-length 0 (length_of (piece c.args.pins.now c.args.levels.now c.args.cycles.now)) (piece c.args.pins.now c.args.levels.now c.args.cycles.now)))
