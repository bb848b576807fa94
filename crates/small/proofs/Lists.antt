-- The list of n is the one that is asked for (`Listing`), for every n. Assumes nothing.
use mathlib.Core.Path.{◌≡◌, refl, sym, ap, ◌∙◌}
use mathlib.Core.List.{[], ◌∷◌, map}
use mathlib.Core.Logic.{◌⊎◌, inl, inr}
use Prim.Native.Nat.{ℕ, zero, suc, ◌+◌, ◌-◌, ◌*◌, ◌/◌, ◌%◌, ◌≤◌, ◌<◌}
use native.Mathlib.Nat.{mod-lt, div-add-mod', div-lt_iff_lt-mul, le-div_iff_mul-le, eq-or-lt_of_le, mul-le-mul_right}
use native.Mathlib.Omega.{arith}
use lib.Arith.{digits_div, digits_mod}
use Rattle.small.specs.Small.{Setting, Within, Before, count, setting_at, place_of, Listing}

-- "48 for n of 1", and the others that are served
counts : map count (0 ∷ 1 ∷ 2 ∷ 3 ∷ 4 ∷ 5 ∷ 6 ∷ 7 ∷ []) ≡ 8 ∷ 48 ∷ 144 ∷ 320 ∷ 600 ∷ 1008 ∷ 1568 ∷ 2304 ∷ []
unfolding count
counts = refl

-- ---- one digit

-- of two numbers the quotients are in order, or the quotients are one and the remainders are in order
digit : (j k m : ℕ) → 0 < m → j < k → (j / m < k / m) ⊎ ((j / m ≡ k / m) × (j % m < k % m))
digit j k m p h = go (eq-or-lt_of_le ((le-div_iff_mul-le p).1 (omega (arith, div-add-mod' j m))))
  where
    go : (j / m ≡ k / m) ⊎ (j / m < k / m) → (j / m < k / m) ⊎ ((j / m ≡ k / m) × (j % m < k % m))
    go (inl e) = inr (e, omega (arith, ap (λ (q : ℕ). q * m) e, div-add-mod' j m, div-add-mod' k m))
    go (inr l) = inl l

-- a number of two digits is below what the first digit's bound gives
below : (q r b m : ℕ) → q < b → r < m → q * m + r < b * m
below q r b m h l = omega (arith, mul-le-mul_right m h)

quarter : (k x : ℕ) → k < 4 * x → k / 4 < x
quarter k x h = omega arith

halves : (k : ℕ) → k / 2 / 2 ≡ k / 4
halves k = omega arith

-- ---- within the limits

two : (r : ℕ) → r < 2 → (6 + r ≡ 6) ⊎ (6 + r ≡ 7)
two zero h = inl refl
two (suc zero) h = inr refl
two (suc (suc r)) h = absurd (omega arith)

within : (n k : ℕ) → k < count n → Within n (setting_at n k)
unfolding count
within n k h =
    let q : k / 4 < (n + 1) * (n + 1) * (n + 2) = quarter k ((n + 1) * (n + 1) * (n + 2)) (omega arith) in
    let p : k / 4 / (n + 2) < (n + 1) * (n + 1) = (div-lt_iff_lt-mul {k = n + 2} (omega arith)).1 q in
    record {
      reload = omega (arith, (div-lt_iff_lt-mul {k = n + 1} {x = k / 4 / (n + 2)} {y = n + 1} (omega arith)).1 p);
      prescaler = omega (arith, mod-lt (k / 4 / (n + 2)) {m = n + 1} (omega arith));
      compare = omega (arith, mod-lt (k / 4) {m = n + 2} (omega arith));
      mode = two (k / 2 % 2) (omega arith);
      down = omega arith;
    }

-- ---- each at its place

module _ (n : ℕ) where
  -- a place's setting stands at that place
  back : (k : ℕ) → place_of n (setting_at n k) ≡ k
  back k = rw (div-add-mod' (k / 4 / (n + 2)) (n + 1), div-add-mod' (k / 4) (n + 2)) (omega arith)

  -- the place of a setting, digit by digit
  place : (a b c d e : ℕ) → a ≤ n → b ≤ n → c ≤ n + 1 → d < 2 → e < 2
      → ((((a * (n + 1) + b) * (n + 2) + c) * 2 + d) * 2 + e < count n) × (setting_at n ((((a * (n + 1) + b) * (n + 2) + c) * 2 + d) * 2 + e) ≡ record { reload = a; prescaler = b; compare = c; mode = 6 + d; down = e })
  unfolding count
  place a b c d e ha hb hc hd he =
      let x : ℕ = a * (n + 1) + b in
      let y : ℕ = x * (n + 2) + c in
      let z : ℕ = y * 2 + d in
      let k : ℕ = z * 2 + e in
      let qx : x < (n + 1) * (n + 1) = below a b (n + 1) (n + 1) (omega arith) (omega arith) in
      let qy : y < (n + 1) * (n + 1) * (n + 2) = below x c ((n + 1) * (n + 1)) (n + 2) qx (omega arith) in
      let k4 : k / 4 ≡ y = omega arith in
      let k2 : k / 2 % 2 ≡ d = omega arith in
      let k0 : k % 2 ≡ e = omega arith in (
        omega (arith, qy),
        rw (k4, k2, k0, digits_div x {m = n + 2} {r = c} (omega arith), digits_mod x {m = n + 2} {r = c} (omega arith), digits_div a {m = n + 1} {r = b} (omega arith), digits_mod a {m = n + 1} {r = b} (omega arith)) refl,
      )

  -- the first digit in which two places differ decides, from the reload down to the direction
  rises : (j k : ℕ) → j < k → Before (setting_at n j) (setting_at n k)
  rises j k h = go (digit j k 4 (omega arith) h)
    where
      top : (j / 4 / (n + 2) / (n + 1) < k / 4 / (n + 2) / (n + 1)) ⊎ ((j / 4 / (n + 2) / (n + 1) ≡ k / 4 / (n + 2) / (n + 1)) × (j / 4 / (n + 2) % (n + 1) < k / 4 / (n + 2) % (n + 1)))
          → Before (setting_at n j) (setting_at n k)
      top (inl l) = inl l
      top (inr (e, l)) = inr (e, inl l)

      middle : (j / 4 / (n + 2) < k / 4 / (n + 2)) ⊎ ((j / 4 / (n + 2) ≡ k / 4 / (n + 2)) × (j / 4 % (n + 2) < k / 4 % (n + 2)))
          → Before (setting_at n j) (setting_at n k)
      middle (inl l) = top (digit (j / 4 / (n + 2)) (k / 4 / (n + 2)) (n + 1) (omega arith) l)
      middle (inr (e, l)) = inr (ap (λ (x : ℕ). x / (n + 1)) e, inr (ap (λ (x : ℕ). x % (n + 1)) e, inl l))

      last : j / 4 ≡ k / 4 → (j / 2 < k / 2) ⊎ ((j / 2 ≡ k / 2) × (j % 2 < k % 2)) → Before (setting_at n j) (setting_at n k)
      last e d =
          inr (ap (λ (x : ℕ). x / (n + 2) / (n + 1)) e, inr (ap (λ (x : ℕ). x / (n + 2) % (n + 1)) e, inr (ap (λ (x : ℕ). x % (n + 2)) e, by d)))
        where
          half : (j / 2 / 2 < k / 2 / 2) ⊎ ((j / 2 / 2 ≡ k / 2 / 2) × (j / 2 % 2 < k / 2 % 2)) → 6 + j / 2 % 2 < 6 + k / 2 % 2
          half (inl l) = absurd (omega (arith, halves j, halves k, e))
          half (inr (f, l)) = omega arith

          by : (j / 2 < k / 2) ⊎ ((j / 2 ≡ k / 2) × (j % 2 < k % 2)) → (6 + j / 2 % 2 < 6 + k / 2 % 2) ⊎ ((6 + j / 2 % 2 ≡ 6 + k / 2 % 2) × (j % 2 < k % 2))
          by (inl l) = inl (half (digit (j / 2) (k / 2) 2 (omega arith) l))
          by (inr (f, l)) = inr (ap (λ (x : ℕ). 6 + x % 2) f, l)

      go : (j / 4 < k / 4) ⊎ ((j / 4 ≡ k / 4) × (j % 4 < k % 4)) → Before (setting_at n j) (setting_at n k)
      go (inl l) = middle (digit (j / 4) (k / 4) (n + 2) (omega arith) l)
      go (inr (e, l)) = last e (digit j k 2 (omega arith) h)

  appears : (s : Setting) → Within n s → (place_of n s < count n) × (setting_at n (place_of n s) ≡ s)
  appears s w = by w.mode
    where
      from-six : (s.mode ≡ 6) ⊎ (s.mode ≡ 7) → 6 + (s.mode - 6) ≡ s.mode
      from-six (inl e) = omega arith
      from-six (inr e) = omega arith

      to-seven : (s.mode ≡ 6) ⊎ (s.mode ≡ 7) → s.mode ≤ 7
      to-seven (inl e) = omega arith
      to-seven (inr e) = omega arith

      by : (s.mode ≡ 6) ⊎ (s.mode ≡ 7) → (place_of n s < count n) × (setting_at n (place_of n s) ≡ s)
      by m =
          let d : 6 + (s.mode - 6) ≡ s.mode = from-six m in
          let p = place s.reload s.prescaler s.compare (s.mode - 6) s.down w.reload w.prescaler w.compare (omega (arith, d, to-seven m)) (omega (arith, w.down)) in
          (p.0, p.1 ∙ rw d refl)

pub listing : (n : ℕ) → Listing n
listing n =
    record {
      within = within n;
      appears = appears n;
      single = λ s k e. sym (back n k) ∙ ap (place_of n) e;
      rises = rises n;
    }
