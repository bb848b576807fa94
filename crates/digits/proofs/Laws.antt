-- Products by digits of 16 bits. Assumes nothing.
use mathlib.Core.Path.{◌≡◌, ap}
use Prim.Native.Nat.{ℕ, ◌+◌, ◌*◌, ◌/◌, ◌%◌, ◌≤◌, ◌<◌}
use native.Mathlib.Nat.{mul-le-mul_left}
use native.Mathlib.Omega.{arith}
use lib.Pow.{split}

-- a number times m, by the number's lowest digit and the rest: the one law for both factors
pub digits : (n m : ℕ) → n % 65536 * m + n / 65536 * m * 65536 ≡ n * m
digits n m = omega (arith, ap (λ (x : ℕ). x * m) (split n 16))

-- what a number times a digit is at most
pub at_most : (n d : ℕ) → d < 65536 → n * d ≤ n * 65535
at_most n d h = mul-le-mul_left n (omega arith)
