-- The register, then its lane.
use mathlib.Core.Path.{ap, ◌∙◌}
use Prim.Native.Nat.{ℕ}
use Rattle.periph.specs.Lane.{lane_read}
use native.Mathlib.Omega.{arith}
use Rattle.mmio.proofs.lane_of.Goals as goal

pub value_of-reg-requires : goal.value_of-reg-requires
value_of-reg-requires c =
    c.requires.1

pub overflow_cast-size : goal.overflow_cast-size
overflow_cast-size c =
    omega (arith, c.requires.0)

pub returns : goal.returns
returns c =
    λ x. c.lane_read.ensures ∙ ap (λ (k : ℕ). lane_read k c.args.offset c.args.size) (c.value_of-reg.ensures x)
