-- Laws of lanes: what shifts give, what a written lane reads back, and document 01's figures.
use mathlib.Core.Path.{◌≡◌, refl, ap, ◌∙◌}
use mathlib.Core.Logic.{◌⊎◌, inl, inr}
use mathlib.Core.List.{List, [], ◌∷◌, map}
use Prim.Native.Nat.{ℕ, ◌+◌, ◌*◌, ◌-◌, ◌/◌, ◌%◌, ◌^◌, ◌≤◌, ◌<◌}
use native.Mathlib.Nat.{mod-eq_of_lt, mod-lt}
use native.Mathlib.Omega.{arith}
use lib.Pow.{split, pow_pos, pow_mono, pow-add, shl_lt, shl_exact, high, low, field, mod-mod-pow}
use Rattle.periph.specs.Lane.{lane_start, lane_read, lane_write, merged}

-- the bits from k up, shifted down and up again
pub cut : (x k : ℕ) → x < 2 ^ 32 → x / 2 ^ k * 2 ^ k % 2 ^ 64 ≡ x / 2 ^ k * 2 ^ k
cut x k h = mod-eq_of_lt (omega (arith, split x k))

pub cut-le : (x k : ℕ) → x < 2 ^ 32 → x / 2 ^ k * 2 ^ k % 2 ^ 64 ≤ x
cut-le x k h = rw (cut x k h) (omega (arith, split x k))

-- the bits below k are what the bits from k up leave
pub below : (x k : ℕ) → x < 2 ^ 32 → x - x / 2 ^ k * 2 ^ k % 2 ^ 64 ≡ x % 2 ^ k
below x k h = rw (cut x k h) (omega (arith, split x k))

-- a lane of at most 16 bits, moved up by at most 24
pub up : (x k : ℕ) → x < 2 ^ 16 → k ≤ 24 → x * 2 ^ k % 2 ^ 64 ≡ x * 2 ^ k
up x k h l = shl_exact 16 k 64 h (omega arith)

pub up_lt : (x k : ℕ) → x < 2 ^ 16 → k ≤ 24 → x * 2 ^ k % 2 ^ 64 < 2 ^ 40
up_lt x k h l = rw (up x k h l) (omega (arith, shl_lt 16 k h, pow_mono {i = 16 + k} {j = 40} (omega arith)))

-- w bits from bit a on, inside the register: what was merged there is read back
merged-back : (a w old v : ℕ) → a + w ≤ 32 → merged old a (a + w) (v % 2 ^ w) / 2 ^ a % 2 ^ w ≡ v % 2 ^ w
unfolding merged
merged-back a w old v h =
    let j : ℕ = 32 - (a + w) in
    let top : ℕ = old / 2 ^ (a + w) in
    let n : ℕ = old % 2 ^ a + v % 2 ^ w * 2 ^ a + top * 2 ^ (a + w) in
    let e : 32 ≡ j + w + a = omega arith in
    let s : n ≡ (top * 2 ^ w + v % 2 ^ w) * 2 ^ a + old % 2 ^ a = omega (arith, ap (λ (t : ℕ). top * t) (pow-add 2 a w)) in
    ap (λ (t : ℕ). n % 2 ^ t / 2 ^ a % 2 ^ w) e
    ∙ ap (λ (t : ℕ). t % 2 ^ w) (field n (j + w) a)
    ∙ mod-mod-pow (n / 2 ^ a) j w
    ∙ ap (λ (t : ℕ). t / 2 ^ a % 2 ^ w) s
    ∙ ap (λ (t : ℕ). t % 2 ^ w) (high (top * 2 ^ w + v % 2 ^ w) a (mod-lt old (pow_pos a)))
    ∙ low top w (mod-lt v (pow_pos w))

-- a lane of 1 or 2 bytes inside the register reads back what was written to it
pub write_read : (old o s v : ℕ) → (s ≡ 1) ⊎ (s ≡ 2) → o % 4 + s ≤ 4 → lane_read (lane_write old o s v) o s ≡ v % 2 ^ (8 * s)
unfolding lane_read lane_write
write_read old o s v (inl e) h = rw e (merged-back (lane_start o) 8 old v (omega arith))
write_read old o s v (inr e) h = rw e (merged-back (lane_start o) 16 old v (omega arith))

-- document 01's figures of lanes: inputs beside the expected value
pub data Figure : Type 0 where
  read : (reg offset size expected : ℕ) → Figure
  write : (old offset size value expected : ℕ) → Figure

unfoldable pub figures : List Figure
figures = read 0xaabb_ccdd 3 2 0xaa ∷ write 0 3 2 0x1234 0x3400_0000 ∷ []

unfoldable pub given : Figure → ℕ
given (read reg offset size expected) = lane_read reg offset size
given (write old offset size value expected) = lane_write old offset size value

unfoldable pub expected : Figure → ℕ
expected (read reg offset size x) = x
expected (write old offset size value x) = x

-- the definitions give them all
pub figures-hold : map given figures ≡ map expected figures
unfolding figures given expected lane_read lane_write merged
figures-hold = refl
