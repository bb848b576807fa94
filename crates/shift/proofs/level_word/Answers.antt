-- One bit more, and one pin.
use Rattle.std.proofs.Common.{eqb, ◌+◌}
use Rattle.shift.specs.Kept.{track_at}
use Rattle.shift.proofs.Ending.{word_more, bits-more, one_bit}
use Rattle.shift.proofs.level_word.Goals as goal

pub loop-j-preserved : goal.loop-j-preserved
loop-j-preserved c =
    let l = c.loop-j in
    let bit = c.is_high-bit in
    let small = one_bit (eqb (track_at c.args.kept.now (c.args.first + l.j)).level 1) bit.result bit.ensures in (
      word_more l.word l.j bit.result l.invariant.0 small,
      bits-more c.args.kept.now c.args.first l.j l.word bit.result l.invariant.1 bit.ensures small,
    )
