-- Many clocks of the machine at once: between two events only the prescaler's count and the counter move. Assumes nothing.
use Prim.Native.Nat.{ℕ, zero, suc, ◌+◌, ◌-◌, ◌*◌, ◌/◌, ◌%◌, ◌≤◌, ◌<◌}
use mathlib.Core.Path.{◌≡◌, refl, ap, ◌∙◌}
use mathlib.Core.Bool.{Bool, true, false, cond, ◌&&◌}
use native.Mathlib.Nat.{zero-add, add-zero, add-suc, mod-lt, mod-eq_of_lt, div-eq_of_lt, div-add-mod', mul-add-div_right, mul-add-mod_self_right, mod_self, div_self, div-mul-le_self, le-div_iff_mul-le}
use native.Mathlib.Numerals.{add-one}
use native.Mathlib.Omega.{arith}
use lib.Dec.{ltb}
use borrow.Author.Tests.{ltb-true, ltb-false, lt-ltb, le-ltb}
use Rattle.rm0440.specs.Rules.{Rules}
use Rattle.rm0440.specs.State.{Timer, down, with_count, with_sr, with_matches}
use Rattle.rm0440.specs.Clock.{wraps, flags, meets, matched, stepped, blocked, clock, clocks}

pub record Silent (r : Rules) (t : Timer) : Type 0 where
  pub q0 : meets r t 0 ≡ false
  pub q1 : meets r t 1 ≡ false
  pub q2 : meets r t 2 ≡ false
  pub q3 : meets r t 3 ≡ false

pub matched-none : (r : Rules) (t : Timer) → Silent r t → matched r t ≡ t
unfolding matched
matched-none r t q = rw (q.q0, q.q1, q.q2, q.q3) (go (flags r t))
  where
    go : (b : Bool) → with_matches (with_sr (cond b t.sr t.sr) t) t.ref t.done ≡ t
    go true = refl
    go false = refl

-- j steps on from s, p clocks into the next
abbrev pub onward : Timer → ℕ → ℕ
onward s j = cond (down s) (s.cnt - j) (s.cnt + j)

abbrev pub at : Timer → ℕ → ℕ → Timer
at s p j = with_count s true p (onward s j)

-- the first k steps from s are no overflow or underflow and make no match
pub record Quiet (r : Rules) (s : Timer) (k : ℕ) : Type 0 where
  pub no_wrap : (j : ℕ) → j < k → wraps r (at s 0 j) ≡ false
  pub silent : (j : ℕ) → j < k → Silent r (at s 0 (suc j))

pub onward-suc : (d : Bool) (c j : ℕ) → cond d (cond d (c - j) (c + j) - 1) (cond d (c - j) (c + j) + 1) ≡ cond d (c - suc j) (c + suc j)
onward-suc true c j = omega arith
onward-suc false c j = omega arith

-- one more, within a step and at its end
module _ (m T : ℕ) (pos : 0 < T) where
  again : suc m ≡ m / T * T + suc (m % T)
  again = omega (arith, div-add-mod' m T)

  pub inside-mod : suc (m % T) < T → suc m % T ≡ suc (m % T)
  inside-mod h = ap (λ (x : ℕ). x % T) again ∙ mul-add-mod_self_right (m / T) T (suc (m % T)) ∙ mod-eq_of_lt h

  pub inside-div : suc (m % T) < T → suc m / T ≡ m / T
  inside-div h = ap (λ (x : ℕ). x / T) again ∙ mul-add-div_right pos (m / T) (suc (m % T)) ∙ rw (div-eq_of_lt h) (omega arith)

  pub end-mod : suc (m % T) ≡ T → suc m % T ≡ 0
  end-mod e = ap (λ (x : ℕ). x % T) again ∙ mul-add-mod_self_right (m / T) T (suc (m % T)) ∙ rw e (mod_self T)

  pub end-div : suc (m % T) ≡ T → suc m / T ≡ suc (m / T)
  end-div e = ap (λ (x : ℕ). x / T) again ∙ mul-add-div_right pos (m / T) (suc (m % T)) ∙ rw (e, div_self pos) (omega arith)

  pub grows : m / T ≤ suc m / T
  grows = (le-div_iff_mul-le pos).1 (omega (arith, div-mul-le_self m T))

pub clocks-suc : (r : Rules) (n : ℕ) (t : Timer) → clocks r (suc n) t ≡ clock r (clocks r n t)
unfolding clocks
clocks-suc r n t = refl

pub clocks-add : (r : Rules) (a b : ℕ) (t : Timer) → clocks r (a + b) t ≡ clocks r a (clocks r b t)
unfolding clocks
clocks-add r zero b t = rw (zero-add b)
clocks-add r (suc a) b t = let e : suc a + b ≡ suc (a + b) = omega arith in rw (e, clocks-add r a b t)

pub both : (a b : Bool) → a && b ≡ true → (a ≡ true) × (b ≡ true)
both true b h = (refl, h)
both false b h = absurd (let z : ◌≡◌ {A = ℕ} 0 1 = cc in omega arith)

module _ (r : Rules) (s : Timer) (free : blocked r s ≡ false) where
  inside : (p j : ℕ) → p < s.psc → clock r (at s p j) ≡ at s (suc p) j
  unfolding clock
  inside p j h = rw (free, lt-ltb p s.psc h, add-one p)

  ends : (p j : ℕ) → s.psc ≤ p → wraps r (at s 0 j) ≡ false → Silent r (at s 0 (suc j)) → clock r (at s p j) ≡ at s 0 (suc j)
  unfolding clock stepped
  ends p j h w q = rw (free, le-ltb p s.psc h, w, onward-suc (down s) s.cnt j, matched-none r (at s 0 (suc j)) q)

  one : (m : ℕ) → Quiet r s (suc m / (s.psc + 1))
      → clock r (at s (m % (s.psc + 1)) (m / (s.psc + 1))) ≡ at s (suc m % (s.psc + 1)) (suc m / (s.psc + 1))
  one m q = go (ltb (m % (s.psc + 1)) s.psc) refl
    where
      pos : 0 < s.psc + 1
      pos = omega arith

      go : (b : Bool) → ltb (m % (s.psc + 1)) s.psc ≡ b
          → clock r (at s (m % (s.psc + 1)) (m / (s.psc + 1))) ≡ at s (suc m % (s.psc + 1)) (suc m / (s.psc + 1))
      go true e =
          let h : m % (s.psc + 1) < s.psc = ltb-true _ _ e in
          inside (m % (s.psc + 1)) (m / (s.psc + 1)) h
          ∙ rw (inside-mod m (s.psc + 1) pos (omega arith), inside-div m (s.psc + 1) pos (omega arith))
      go false e =
          let h : s.psc ≤ m % (s.psc + 1) = ltb-false _ _ e in
          let l : suc (m % (s.psc + 1)) ≡ s.psc + 1 = omega (arith, mod-lt m {m = s.psc + 1} pos) in
          let d = end-div m (s.psc + 1) pos l in
          ends (m % (s.psc + 1)) (m / (s.psc + 1)) h (q.no_wrap _ (omega arith)) (q.silent _ (omega arith))
          ∙ rw (end-mod m (s.psc + 1) pos l, d)

  less : (k k' : ℕ) → k ≤ k' → Quiet r s k' → Quiet r s k
  less k k' h q = record { no_wrap = λ j l. q.no_wrap j (omega arith); silent = λ j l. q.silent j (omega arith) }

  -- what n clocks from p clocks into a step leave
  abbrev pub Leaps : ℕ → ℕ → Type 0
  Leaps p n = clocks r n (at s p 0) ≡ at s ((p + n) % (s.psc + 1)) ((p + n) / (s.psc + 1))

  none : (p : ℕ) → p ≤ s.psc → Leaps p 0
  unfolding clocks
  none p h = let l : p < s.psc + 1 = omega arith in rw (add-zero p, mod-eq_of_lt l, div-eq_of_lt l)

  more : (p n : ℕ) → Quiet r s (suc (p + n) / (s.psc + 1)) → Leaps p n → Leaps p (suc n)
  more p n q e = clocks-suc r n (at s p 0) ∙ ap (clock r) e ∙ one (p + n) q ∙ rw (add-suc p n)

  again' : (p n : ℕ) → Quiet r s ((p + suc n) / (s.psc + 1)) → Quiet r s (suc (p + n) / (s.psc + 1))
  again' p n q = rw (add-suc p n) at q

  earlier : (p n : ℕ) → Quiet r s ((p + suc n) / (s.psc + 1)) → Quiet r s ((p + n) / (s.psc + 1))
  earlier p n q = less _ _ (grows (p + n) (s.psc + 1) (omega arith)) (again' p n q)

  -- while nothing happens
  pub leap : (p n : ℕ) → p ≤ s.psc → Quiet r s ((p + n) / (s.psc + 1)) → Leaps p n
  leap p zero h q = none p h
  leap p (suc n) h q = more p n (again' p n q) (leap p n h (earlier p n q))
