-- Edge-aligned counting as the project has it, instances of the period's law. Assumes nothing.
use Prim.Native.Nat.{ℕ, zero, suc, ◌+◌, ◌-◌, ◌%◌, ◌≤◌, ◌<◌, min}
use mathlib.Core.Path.{◌≡◌, refl, sym, ap, ◌∙◌}
use mathlib.Core.Bool.{Bool, true, false, cond}
use native.Mathlib.Nat.{mod-eq_of_lt, mod-eq-sub-mod}
use native.Mathlib.Numerals.{add-one}
use native.Mathlib.Omega.{arith}
use lib.Dec.{ltb, leb}
use borrow.Author.Tests.{lt-ltb, le-ltb, leb-true, leb-false, ne_eqb}
use Rattle.rm0440.specs.Counter.{tick_up, tick_down, tick, after}
use Rattle.tim.specs.Count.{up_from}
use Rattle.stepping.proofs.Counting.{counted, down-after}
use Rattle.follows.proofs.Place.{period, count_at, place_of, Counter, Stands, step, iterate}
use Rattle.follows.proofs.Periodic.{counter, after-standing}

-- rm0440's step is the step of edge-aligned counting
tick-step : (d : Bool) (r x : ℕ) → step false r (counter d x) ≡ counter d (tick d r x)
unfolding step tick_up tick_down
tick-step true r zero = refl
tick-step true r (suc x) = rw (ne_eqb (suc x) 0 (λ e. omega arith)) (ap (counter true) (omega arith))
tick-step false r x = go (leb r x) refl
  where
    go : (b : Bool) → leb r x ≡ b → cond b (counter false 0) (counter false (x + 1)) ≡ counter false (cond (ltb x r) (suc x) 0)
    go true e = rw (le-ltb x r (leb-true r x e))
    go false e = rw (lt-ltb x r (leb-false r x e), add-one x)

ticks-steps : (d : Bool) (r x n : ℕ) → iterate (step false r) n (counter d x) ≡ counter d (after (tick d r) n x)
unfolding iterate after
ticks-steps d r x zero = refl
ticks-steps d r x (suc n) = ap (step false r) (ticks-steps d r x n) ∙ tick-step d r (after (tick d r) n x)

edge-stands : (d : Bool) (r x : ℕ) → x ≤ r → Stands false r d x
edge-stands d r x h = record { within = h; up = λ f g. absurd (never f); downward = λ f g. absurd (never f) }
  where
    never : false ≡ true → ⊥
    never e = let z : ◌≡◌ {A = ℕ} 0 1 = cc in omega arith

-- n steps of rm0440's counter, by the period
pub ticks : (d : Bool) (r x n : ℕ) → x ≤ r → after (tick d r) n x ≡ count_at false d r ((place_of false r d x + n) % period false r)
ticks d r x n h = ap (λ (k : Counter). k.cnt) (sym (ticks-steps d r x n) ∙ after-standing false d r x n (edge-stands d r x h))

-- tim's closed form is the period's, from any count: upward above the reload by the remainder, downward clamped by the truncated difference
pub counted-place : (d : Bool) (r x n : ℕ) → counted d r x n ≡ count_at false d r ((place_of false r d x + n) % period false r)
unfolding up_from
counted-place true r x n =
    let e : r - min x r ≡ r - x = omega arith in
    down-after r (min x r) n ∙ ticks true r (min x r) n (omega arith) ∙ ap (λ (p : ℕ). count_at false true r ((p + n) % period false r)) e
counted-place false r x n = go (leb (x + n) r) refl
  where
    go : (b : Bool) → leb (x + n) r ≡ b → cond b (x + n) ((x + n - (r + 1)) % (r + 1)) ≡ (x + n) % (r + 1)
    go true e = let l : x + n < r + 1 = omega (arith, leb-true (x + n) r e) in sym (mod-eq_of_lt l)
    go false e = let l : r + 1 ≤ x + n = omega (arith, leb-false (x + n) r e) in sym (mod-eq-sub-mod l)
