-- What edge and centre modes share, a single time with the period as a parameter. Assumes nothing.
use Prim.Native.Nat.{ℕ, zero, suc, ◌+◌, ◌-◌, ◌*◌, ◌%◌, ◌≤◌, ◌<◌}
use mathlib.Core.Path.{◌≡◌, refl, sym, ap, ◌∙◌}
use mathlib.Core.Bool.{Bool, true, false}
use mathlib.Core.Logic.{◌⊎◌, inl, inr}
use native.Mathlib.Nat.{mod-lt, suc-mod, mod-eq_of_lt, mod_self, add-zero, add-suc, add_assoc, mod-add-mod, eq-or-lt_of_le}
use native.Mathlib.Numerals.{add-one}
use native.Mathlib.Omega.{arith}
use lib.Dec.{leb}
use borrow.Author.Tests.{leb-true, leb-false, le-leb, lt-leb, eq-eqb, ne_eqb}
use Rattle.follows.proofs.Place.{period, down_at, on_way, count_at, place_of, Counter, at, Stands, step, iterate}

differ : true ≡ false → ⊥
differ e = let z : ◌≡◌ {A = ℕ} 0 1 = cc in omega arith

-- anything that goes round P places one at a time has gone n places after n steps
pub goes-round : {A : Type 0} (f : A → A) (at : ℕ → A) (P : ℕ) → 0 < P → ((p : ℕ) → p < P → f (at p) ≡ at (suc p % P))
    → (p n : ℕ) → p < P → iterate f n (at p) ≡ at ((p + n) % P)
unfolding iterate
goes-round f at P pos one p zero h = rw (add-zero p, mod-eq_of_lt h)
goes-round f at P pos one p (suc n) h =
    ap f (goes-round f at P pos one p n h) ∙ one ((p + n) % P) (mod-lt (p + n) pos)
    ∙ ap at (sym (suc-mod (p + n) P) ∙ ap (λ (x : ℕ). x % P) (sym (add-suc p n)))

-- ---- the three counters go round their period

abbrev pub counter : Bool → ℕ → Counter
counter d x = record { down = d; cnt = x }

up_round : (r p : ℕ) → p < r + 1 → step false r (at false false r p) ≡ at false false r (suc p % (r + 1))
unfolding step
up_round r p h = go (eq-or-lt_of_le h)
  where
    go : (suc p ≡ r + 1) ⊎ (suc p < r + 1) → step false r (at false false r p) ≡ at false false r (suc p % (r + 1))
    go (inl e) = rw (e, mod_self (r + 1), le-leb r p (omega arith))
    go (inr l) = rw (mod-eq_of_lt l, lt-leb r p (omega arith), add-one p)

down_round : (r p : ℕ) → p < r + 1 → step false r (at false true r p) ≡ at false true r (suc p % (r + 1))
unfolding step
down_round r p h = go (eq-or-lt_of_le h)
  where
    go : (suc p ≡ r + 1) ⊎ (suc p < r + 1) → step false r (at false true r p) ≡ at false true r (suc p % (r + 1))
    go (inl e) = rw (e, mod_self (r + 1), eq-eqb (r - p) 0 (omega arith)) (ap (λ (x : ℕ). counter true x) (omega arith))
    go (inr l) =
        let s : r - p - 1 ≡ r - suc p = omega arith in
        rw (mod-eq_of_lt l, ne_eqb (r - p) 0 (λ e. omega arith), s)

centre-round : (d : Bool) (r p : ℕ) → p < 2 * r → step true r (at true d r p) ≡ at true d r (suc p % (2 * r))
unfolding step
centre-round d r p h = go (leb r p) refl (eq-or-lt_of_le h)
  where
    -- the way down: the underflow, and a step
    go : (b : Bool) → leb r p ≡ b → (suc p ≡ 2 * r) ⊎ (suc p < 2 * r) → step true r (at true d r p) ≡ at true d r (suc p % (2 * r))
    go true e (inl l) =
        rw (e, le-leb (2 * r - p) 1 (omega arith), l, mod_self (2 * r), lt-leb r 0 (omega (arith, leb-true r p e)))
    go true e (inr l) =
        let g : r ≤ p = leb-true r p e in
        let s : 2 * r - p - 1 ≡ 2 * r - suc p = omega arith in
        rw (e, lt-leb (2 * r - p) 1 (omega arith), mod-eq_of_lt l, le-leb r (suc p) (omega arith), s)
    go false e q = up (eq-or-lt_of_le g)
      where
        g : p < r
        g = leb-false r p e

        l : suc p < 2 * r
        l = omega (arith, g)

        -- the way up: the overflow, and a step
        up : (suc p ≡ r) ⊎ (suc p < r) → step true r (at true d r p) ≡ at true d r (suc p % (2 * r))
        up (inl q) =
            let s : 2 * r - suc p ≡ r = omega arith in
            rw (e, eq-eqb (p + 1) r (omega arith), mod-eq_of_lt l, le-leb r (suc p) (omega arith), s)
        up (inr q) = rw (e, ne_eqb (p + 1) r (λ z. omega arith), mod-eq_of_lt l, lt-leb r (suc p) (omega arith), add-one p)

-- a centre-aligned counter has a reload above 0
abbrev pub Turnable : Bool → ℕ → Type 0
Turnable centre reload = 0 < period centre reload

pub round : (c d : Bool) (r p : ℕ) → p < period c r → step c r (at c d r p) ≡ at c d r (suc p % period c r)
round true d r p h = centre-round d r p h
round false true r p h = down_round r p h
round false false r p h = up_round r p h

-- the counter after n steps
pub after-steps : (c d : Bool) (r p n : ℕ) → Turnable c r → p < period c r → iterate (step c r) n (at c d r p) ≡ at c d r ((p + n) % period c r)
after-steps c d r p n pos h = goes-round (step c r) (at c d r) (period c r) pos (round c d r) p n h

-- ---- from a counter that stands anywhere on its course

pub has-place : (c : Bool) (r : ℕ) (d : Bool) (x : ℕ) → Stands c r d x → place_of c r d x < period c r
has-place true r true x s = omega (arith, s.within, s.downward refl refl)
has-place true r false x s = omega (arith, s.up refl refl)
has-place false r true x s = omega arith
has-place false r false x s = omega (arith, s.within)

pub stands_at : (c : Bool) (r : ℕ) (d : Bool) (x : ℕ) → Stands c r d x → at c d r (place_of c r d x) ≡ counter d x
stands_at true r true x s =
    let e : 2 * r - (2 * r - x) ≡ x = omega (arith, s.within) in
    rw (le-leb r (2 * r - x) (omega (arith, s.within)), e)
stands_at true r false x s = rw (lt-leb r x (s.up refl refl))
stands_at false r true x s = ap (counter true) (omega (arith, s.within))
stands_at false r false x s = refl

-- a course on which a counter stands has places
pub turnable : (c : Bool) (r : ℕ) (d : Bool) (x : ℕ) → Stands c r d x → Turnable c r
turnable c r d x s = let h = has-place c r d x s in omega (arith, h)

-- way and count after n steps
pub after-standing : (c d : Bool) (r x n : ℕ) → Stands c r d x
    → iterate (step c r) n (counter d x) ≡ at c d r ((place_of c r d x + n) % period c r)
after-standing c d r x n s =
    ap (iterate (step c r) n) (sym (stands_at c r d x s))
    ∙ after-steps c d r (place_of c r d x) n (turnable c r d x s) (has-place c r d x s)

-- every place is one where a counter stands, and has that place
pub place-stands : (c d : Bool) (r p : ℕ) → p < period c r → Stands c r (down_at c d r p) (count_at c d r p)
place-stands true d r p h = go (leb r p) refl
  where
    go : (b : Bool) → leb r p ≡ b → Stands true r b (on_way true r b p)
    go true e = record { within = omega (arith, leb-true r p e); up = λ f g. absurd (differ g); downward = λ f g. omega arith }
    go false e = record { within = omega (arith, leb-false r p e); up = λ f g. leb-false r p e; downward = λ f g. absurd (differ (sym g)) }
place-stands false true r p h = record { within = omega arith; up = λ f g. absurd (differ (sym f)); downward = λ f g. absurd (differ (sym f)) }
place-stands false false r p h = record { within = omega arith; up = λ f g. absurd (differ (sym f)); downward = λ f g. absurd (differ (sym f)) }

pub place-of-at : (c d : Bool) (r p : ℕ) → p < period c r → place_of c r (down_at c d r p) (count_at c d r p) ≡ p
place-of-at true d r p h = go (leb r p) refl
  where
    go : (b : Bool) → leb r p ≡ b → on_way true r b (on_way true r b p) ≡ p
    go true e = omega arith
    go false e = refl
place-of-at false true r p h = omega arith
place-of-at false false r p h = refl

-- n steps and then m are n + m: to count anew from where a count has come changes nothing
pub steps-again : (c d : Bool) (r p n m : ℕ) → Turnable c r
    → (place_of c r (down_at c d r ((p + n) % period c r)) (count_at c d r ((p + n) % period c r)) + m) % period c r ≡ (p + (n + m)) % period c r
steps-again c d r p n m pos =
    rw (place-of-at c d r ((p + n) % period c r) (mod-lt (p + n) pos), mod-add-mod (p + n) (period c r) m, add_assoc p n m)
