-- CC1IF is bit 1.
use Prim.Native.Nat.{ℕ, zero, suc, ◌*◌, ◌^◌, ◌<◌, ◌%◌}
use Rattle.tim.specs.Change.{cc_flag}
use mathlib.Core.Path.{◌≡◌, refl}
use native.Mathlib.Omega.{arith}
use Rattle.tim.proofs.cc_flag.Goals as goal

of-four : (ch : ℕ) → ch < 4 → 2 * 2 ^ ch % 4294967296 ≡ cc_flag ch
unfolding cc_flag
of-four zero h = refl
of-four (suc zero) h = refl
of-four (suc (suc zero)) h = refl
of-four (suc (suc (suc zero))) h = refl
of-four (suc (suc (suc (suc n)))) h = absurd (omega arith)

pub returns : goal.returns
returns c = of-four c.args.ch.n c.args.ch.below
