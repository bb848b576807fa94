-- One pin more.
use Rattle.std.proofs.Common.{ℕ, ap, ◌∙◌}
use Rattle.shift.specs.Kept.{fresh_track}
use Rattle.shift.proofs.Ending.{fresh-more}
use Rattle.shift.proofs.begin_pins.Goals as goal

pub loop-pin-preserved : goal.loop-pin-preserved
loop-pin-preserved c =
    let a = c.args in
    fresh-more a.words.now a.span.from a.span.to c.loop-pin.pin _ _ _ c.loop-pin-test.true c.loop-pin.invariant
    (c.fresh.ensures ∙ ap (λ (l : ℕ). fresh_track a.span.from a.span.to l) c.level_of-level.ensures) c.store.ensures
