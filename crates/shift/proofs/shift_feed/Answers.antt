-- An entry more, and none is left.
use Rattle.std.proofs.Common.{min, ap, ◌∙◌}
use Rattle.shift.specs.Shift.{piece}
use Rattle.shift.proofs.Ending.{fed-more, fed-both}
use Rattle.shift.proofs.shift_feed.Goals as goal

pub loop-i-preserved : goal.loop-i-preserved
loop-i-preserved c =
    fed-more _ _ _ c.loop-i.i _ (piece c.args.pins.now c.args.levels.now c.args.cycles.now) c.loop-i-test.true c.loop-i.invariant c.enter.ensures

pub returns : goal.returns
returns c =
    let both =
    fed-both _ _ c.loop-i.i _ (piece c.args.pins.now c.args.levels.now c.args.cycles.now) c.loop-i-test.false c.loop-i.invariant
    (c.min-n.ensures ∙ ap (min _) c.min.ensures) in
    record { kept_after = both.0; stands = both.1 }
