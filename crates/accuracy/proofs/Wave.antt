-- The pilot wave, its count of high cycles, and the bound on its duty. Assumes nothing.
use Prim.Native.Nat.{ℕ, zero, suc, ◌+◌, ◌-◌, ◌*◌, ◌%◌, ◌≤◌, ◌<◌}
use mathlib.Core.Path.{◌≡◌, refl, ap}
use mathlib.Core.Logic.{◌⊎◌, inl, inr}
use mathlib.Core.Bool.{Bool, true, false, cond}
use native.Mathlib.Nat.{mod-lt, suc-mod, mod-eq_of_lt, mod_self, add-zero, add-suc, le_refl, le_step, sub_self, zero-mul, eq-or-lt_of_le, mul-le-mul_right}
use native.Mathlib.Omega.{arith}
use lib.Arith.{digits_mod}
use lib.Dec.{ltb, eqb}
use borrow.Author.Tests.{ltb-true, ltb-false, lt-ltb, le-ltb}
use Rattle.gpio.specs.Gpio.{bit}
use Rattle.book.specs.Level.{highs}
use Rattle.accuracy.specs.Claim.{WithinBound}

-- high for the first D of every P cycles from U on
unfoldable pub wave : ℕ → ℕ → ℕ → ℕ → ℕ
wave P D U c = bit (ltb ((c - U) % P) D)

-- the excess of the phase x: highs so far, less the share that is due, times P
unfoldable phi : ℕ → ℕ → ℕ → ℕ
phi P D x = cond (ltb x D) (x * (P - D)) ((P - x) * D)

module _ (P D : ℕ) (le : D ≤ P) where
  phi-low : (x : ℕ) → x < D → phi P D x ≡ x * (P - D)
  unfolding phi
  phi-low x h = rw (lt-ltb x D h)

  phi-high : (x : ℕ) → D ≤ x → phi P D x ≡ (P - x) * D
  unfolding phi
  phi-high x h = rw (le-ltb x D h)

  phi-bound : (x : ℕ) → phi P D x ≤ D * (P - D)
  unfolding phi
  phi-bound x = go (ltb x D) refl
    where
      go : (b : Bool) → ltb x D ≡ b → cond b (x * (P - D)) ((P - x) * D) ≤ D * (P - D)
      go true e = let h : x ≤ D = omega (arith, ltb-true) in omega (arith, mul-le-mul_right (P - D) h)
      go false e = let h : D ≤ x = omega (arith, ltb-false) in let k : P - x ≤ P - D = omega arith in omega (arith, mul-le-mul_right D k)

  phi-zero : phi P D 0 ≡ 0
  phi-zero = go (ltb 0 D) refl
    where
      go : (b : Bool) → ltb 0 D ≡ b → phi P D 0 ≡ 0
      go true e = omega (arith, phi-low 0 (ltb-true 0 D e))
      go false e = let z : D ≡ 0 = omega (arith, ltb-false) in omega (arith, phi-high 0 (ltb-false 0 D e), ap (λ (d : ℕ). (P - 0) * d) z)

  phi-wrap : (x : ℕ) → x < P → phi P D (suc x % P) ≡ phi P D (suc x)
  phi-wrap x h = go (eq-or-lt_of_le h)
    where
      go : (suc x ≡ P) ⊎ (suc x < P) → phi P D (suc x % P) ≡ phi P D (suc x)
      go (inl e) = rw (e, mod_self P, phi-zero, phi-high P le) (rw (sub_self P, zero-mul D))
      go (inr l) = rw (mod-eq_of_lt l)

  phi-upto : (x : ℕ) → x ≤ D → phi P D x ≡ x * (P - D)
  phi-upto x h = go (eq-or-lt_of_le h)
    where
      go : (x ≡ D) ⊎ (x < D) → phi P D x ≡ x * (P - D)
      go (inl e) = rw e (omega (arith, phi-high D (le_refl D)))
      go (inr l) = phi-low x l

  -- one cycle: the level's worth P, against the due D
  phi-step : (x : ℕ) → x < P → cond (ltb x D) 1 0 * P + phi P D x ≡ D + phi P D (suc x % P)
  phi-step x hx = rw (phi-wrap x hx) (go (ltb x D) refl)
    where
      go : (b : Bool) → ltb x D ≡ b → cond b 1 0 * P + phi P D x ≡ D + phi P D (suc x)
      go true e = let h : x < D = omega (arith, ltb-true) in omega (arith, phi-low x h, phi-upto (suc x) h)
      go false e =
          let h : D ≤ x = omega (arith, ltb-false) in
          let k : P - x ≡ suc (P - suc x) = omega arith in
          omega (arith, phi-high x h, phi-high (suc x) (le_step h), ap (λ (t : ℕ). t * D) k)

-- From the cycle U on, the highs of a window of W cycles are the share that is due, but for the excess at its two ends
module _ (P D U : ℕ) (pos : 0 < P) (le : D ≤ P) where
  -- a cycle counts as high exactly where the wave is 1
  wave-bit : (c : ℕ) → bit (eqb (wave P D U c) 1) ≡ wave P D U c
  unfolding wave
  wave-bit c = go (ltb ((c - U) % P) D)
    where
      go : (b : Bool) → bit (eqb (bit b) 1) ≡ bit b
      go true = refl
      go false = refl

  wave-step : (c : ℕ) → U ≤ c → wave P D U c * P + phi P D ((c - U) % P) ≡ D + phi P D ((suc c - U) % P)
  unfolding wave
  wave-step c h =
      let s : suc c - U ≡ suc (c - U) = omega arith in
      rw (s, suc-mod (c - U) P) (phi-step P D le ((c - U) % P) (mod-lt (c - U) pos))

  highs-exact : (a : ℕ) → U ≤ a → (W : ℕ) → highs (wave P D U) a W * P + phi P D ((a - U) % P) ≡ W * D + phi P D ((a + W - U) % P)
  unfolding highs
  highs-exact a h zero = rw add-zero (omega arith)
  highs-exact a h (suc W) =
      let k : U ≤ a + W = omega arith in
      rw (add-suc, wave-bit (a + W)) (omega (arith, highs-exact a h W, wave-step (a + W) k))

  duty-bound : (a : ℕ) → U ≤ a → (W : ℕ) → WithinBound (highs (wave P D U) a W) W P D
  duty-bound a h W = record {
    above = omega (arith, highs-exact a h W, phi-bound P D le ((a - U) % P), phi-bound P D le ((a + W - U) % P));
    below = omega (arith, highs-exact a h W, phi-bound P D le ((a - U) % P), phi-bound P D le ((a + W - U) % P));
  }

highs-ext : (f g : ℕ → ℕ) (a W : ℕ) → ((c : ℕ) → a ≤ c → c < a + W → f c ≡ g c) → highs f a W ≡ highs g a W
unfolding highs
highs-ext f g a zero h = refl
highs-ext f g a (suc W) h =
    rw (highs-ext f g a W (λ c p q. h c p (omega arith)), h (a + W) (omega arith) (omega arith))

-- levels that are the wave's from U on keep the duty; a period of no cycles has none to keep
pub duty : (f : ℕ → ℕ) (P D U a W : ℕ) → D ≤ P → U ≤ a → ((c : ℕ) → a ≤ c → c < a + W → f c ≡ wave P D U c)
    → WithinBound (highs f a W) W P D
duty f zero D U a W le ua same = record { above = omega (arith, ap (λ (d : ℕ). W * d) z); below = omega (arith, ap (λ (d : ℕ). W * d) z) }
  where
    z : D ≡ 0
    z = omega arith
duty f (suc Q) D U a W le ua same = rw (highs-ext f (wave (suc Q) D U) a W same) (duty-bound (suc Q) D U (omega arith) le a ua W)

-- in the period k the wave is high up to D
pub wave-in : (P D U k r : ℕ) → r < P → wave P D U (U + k * P + r) ≡ bit (ltb r D)
unfolding wave
wave-in P D U k r h =
    let s : U + k * P + r - U ≡ k * P + r = omega arith in
    rw (s, digits_mod k h)
