-- Floats from their bits. Assumes nothing.
use mathlib.Core.Path.{◌≡◌, refl}
use mathlib.Core.Bool.{Bool, true, false, not, ◌&&◌}
use Prim.Native.Nat.{ℕ, ◌%◌, ◌/◌}
use lib.Dec.{T, eqb}
use lib.Ieee as Ieee
use lib.Ieee.{Float, binary64}
use borrow.Author.Tests.{eq-eqb, ne_eqb}

pub number-exponent : (b : ℕ) → (b % 9223372036854775808 / 4503599627370496 ≡ 2047 → ⊥) → T (not (Ieee.nan_bits binary64 b))
unfolding Ieee.nan_bits
number-exponent b h = rw (ne_eqb (b % 9223372036854775808 / 4503599627370496) 2047 h) tt

pub number_digits : (b : ℕ) → b % 4503599627370496 ≡ 0 → T (not (Ieee.nan_bits binary64 b))
unfolding Ieee.nan_bits
number_digits b h = go (eqb (b % 9223372036854775808 / 4503599627370496) 2047) (eqb (b % 4503599627370496) 0) (eq-eqb (b % 4503599627370496) 0 h)
  where
    go : (x y : Bool) → y ≡ true → T (not (x && not y))
    go true y e = rw e tt
    go false y e = tt

pub not-a-number : (b : ℕ) → b % 9223372036854775808 / 4503599627370496 ≡ 2047 → (b % 4503599627370496 ≡ 0 → ⊥)
    → Ieee.div binary64 (Ieee.of_bits binary64 0) (Ieee.of_bits binary64 0) ≡ Ieee.of_bits binary64 b
unfolding Ieee.div Ieee.of_bits Ieee.of_fields
not-a-number b e d = rw (e, ne_eqb (b % 4503599627370496) 0 d) refl
