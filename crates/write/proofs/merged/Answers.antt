-- The value, or merged into what is there.
use native.Mathlib.Omega.{arith}
use borrow.Author.Tests.{eq-eqb}
use mathlib.Core.Path.{◌≡◌, ap, ◌∙◌}
use Prim.Native.Nat.{ℕ, ◌*◌, ◌/◌}
use Rattle.periph.specs.Lane.{lane_write}
use Rattle.write.proofs.merged.Goals as goal

aligned : (offset : ℕ) → offset / 4 * 4 / 4 * 4 ≡ offset / 4 * 4
aligned offset = omega arith

pub returns-then-size-eq4 : goal.returns-then-size-eq4
unfolding lane_write
returns-then-size-eq4 c =
    λ x. rw (eq-eqb _ _ c.if-size-eq4.true)

pub present-old-requires : goal.present-old-requires
present-old-requires c =
    (aligned c.args.offset, c.requires.1)

pub overflow_cast-size : goal.overflow_cast-size
overflow_cast-size c =
    omega (arith, c.requires.0)

pub returns : goal.returns
returns c =
    λ x. c.lane_write.ensures ∙ ap (λ (k : ℕ). lane_write k c.args.offset c.args.size c.args.value) (c.present-old.ensures x)
