use Rattle.state.specs.View.{view}
use Rattle.state.proofs.InRange.{bounded}
use Rattle.regfile.proofs.Unmoved.{moved}
use native.Mathlib.Omega.{arith}
use Rattle.regfile.proofs.write_steady.Goals as goal

pub returns : goal.returns
returns c =
    λ x. moved (view c.args.words.now x) _ _ c.args.i.n c.args.cycle c.args.new (omega (arith, c.args.i.below, (bounded c.args.words.now x).timers-length)) (c.sync.ensures x) (c.set_reg.ensures x)
