-- The byte of the mode's word.
use mathlib.Core.Path.{ap, sym, ◌∙◌}
use Prim.Native.Nat.{ℕ, ◌/◌, ◌%◌, ◌*◌, ◌^◌}
use native.Mathlib.Omega.{arith}
use Rattle.fields.proofs.Stored.{ccmr-read}
use Rattle.fields.proofs.ccmr_byte.Goals as goal

pub returns : goal.returns
returns c =
    λ x. ap (λ (n : ℕ). n / 2 ^ (8 * (c.args.ch.n % 2)) % 256)
    (c.low_32-w.ensures ∙ sym (ccmr-read c.args.words.now c.args.i.n x c.args.i.below (c.args.ch.n / 2) (omega (arith, c.args.ch.below))))
