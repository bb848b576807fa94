-- One pin's figures more.
use Rattle.shift.proofs.Ending.{written-more}
use Rattle.shift.proofs.write_figures.Goals as goal

pub loop-pin-preserved : goal.loop-pin-preserved
loop-pin-preserved c =
    let low = c.saturating_sub-low in
    written-more c.args.kept.now _ _ c.loop-pin.pin (record { high = c.load-t.result.high; low = low.result; edges = c.load-t.result.edges })
    c.loop-pin-test.true c.loop-pin.invariant (rw (low.ensures, c.len-all.ensures, c.span_in.ensures, c.load-t.ensures)) c.put_figures.ensures
