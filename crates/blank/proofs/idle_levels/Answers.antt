use Rattle.sig.specs.Signal.{idle_level}
use Rattle.blank.proofs.Blank.{fill_done, fill_step}
use Rattle.state.specs.Parts.{listed}
use lib.Seq.{paste-zero}
use native.Mathlib.Omega.{arith}
use Rattle.blank.proofs.idle_levels.Goals as goal

pub loop-s-init : goal.loop-s-init
loop-s-init c = paste-zero c.args.words.now 604 (listed idle_level 0 256)

pub loop-s-preserved : goal.loop-s-preserved
loop-s-preserved c = rw c.idle_level.ensures (fill_step 0 idle_level c.args.words.now _ 604 256 c.loop-s.s (omega (arith, c.told-words)) c.loop-s-test.true c.loop-s.invariant)

pub returns : goal.returns
returns c = fill_done 0 idle_level c.args.words.now _ 604 256 c.loop-s.s c.loop-s-test.false c.loop-s.auto.s-end c.loop-s.invariant
