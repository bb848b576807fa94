-- cnt_at and synced of a timer that counts, and what moving the reference leaves. Assumes nothing.
use Prim.Native.Nat.{ℕ, ◌+◌, ◌-◌, ◌*◌, ◌/◌, ◌%◌, ◌≤◌, ◌<◌}
use mathlib.Core.Path.{◌≡◌, refl, sym, ap, ◌∙◌, subst}
use mathlib.Core.Bool.{Bool, true, false, cond, not, ◌&&◌, false≢true}
use native.Mathlib.Nat.{div-mul-le_self, mul-add-div_right, mul-add-mod_self_right}
use native.Mathlib.Omega.{arith}
use Rattle.tim.specs.declared.Timer.{Timer}
use Rattle.tim.specs.Timer.{with_count, down}
use Rattle.tim.specs.Count.{blocked, counts, ticks_at, cnt_at, step_at, synced, at_count}
use Rattle.stepping.proofs.Counting.{counted, counted-again}

-- ---- the cycles from a reference moved by whole steps

module _ (base now c T : ℕ) (le : now ≤ c) where
  split : c - base ≡ (now - base) / T * T + (c - (base + (now - base) / T * T))
  split = omega (arith, div-mul-le_self (now - base) T)

  pub ticks-split : 0 < T → (c - base) / T ≡ (now - base) / T + (c - (base + (now - base) / T * T)) / T
  ticks-split pos = ap (λ (n : ℕ). n / T) split ∙ mul-add-div_right pos ((now - base) / T) (c - (base + (now - base) / T * T))

  pub part-split : (c - (base + (now - base) / T * T)) % T ≡ (c - base) % T
  part-split = sym (ap (λ (n : ℕ). n % T) split ∙ mul-add-mod_self_right ((now - base) / T) T (c - (base + (now - base) / T * T)))

-- ---- the timer

pub cnt-runs : (t : Timer) (c : ℕ) → counts t ≡ true
    → cnt_at t c ≡ counted (down t) t.count.arr_act t.count.cnt0 (ticks_at t c)
unfolding cnt_at
cnt-runs t c e = rw e

pub cnt-stopped : (t : Timer) (c : ℕ) → counts t ≡ false → cnt_at t c ≡ t.count.cnt0
unfolding cnt_at
cnt-stopped t c e = rw e

-- synced, of a timer that counts
abbrev pub moved : Timer → ℕ → Timer
moved t now = with_count t (at_count t.count (cnt_at t now) (t.count.base + ticks_at t now * t.count.tick))

-- of one that runs and is blocked
abbrev pub waits : Timer → ℕ → Timer
waits t now = with_count t (at_count t.count t.count.cnt0 now)

-- counting is running and free
pub runs_of : (t : Timer) → counts t ≡ true → t.count.running ≡ true
runs_of t e = go (blocked t) t.count.running e
  where
    go : (b r : Bool) → not b && r ≡ true → r ≡ true
    go true r e = absurd (false≢true e)
    go false r e = e

pub free_of : (t : Timer) → counts t ≡ true → blocked t ≡ false
free_of t e = go (blocked t) e
  where
    go : (b : Bool) → not b && t.count.running ≡ true → b ≡ false
    go true e = sym e
    go false e = refl

pub counts_of_lem : (t : Timer) → blocked t ≡ false → t.count.running ≡ true → counts t ≡ true
counts_of_lem t b r = rw (b, r)

pub not-counts : (t : Timer) → t.count.running ≡ false → counts t ≡ false
not-counts t e = ap (λ (r : Bool). not (blocked t) && r) e ∙ go (not (blocked t))
  where
    go : (b : Bool) → b && false ≡ false
    go true = refl
    go false = refl

pub blocked-not : (t : Timer) → blocked t ≡ true → counts t ≡ false
blocked-not t e = ap (λ (b : Bool). not b && t.count.running) e

pub synced-runs : (t : Timer) (now : ℕ) → counts t ≡ true → synced t now ≡ moved t now
unfolding synced
synced-runs t now e = ap (λ (r : Bool). cond r (with_count t (at_count t.count (cnt_at t now) (step_at t now))) t) (runs_of t e)
    ∙ ap (λ (b : Bool). with_count t (at_count t.count (cnt_at t now) (cond b now (t.count.base + ticks_at t now * t.count.tick)))) (free_of t e)

pub synced-waits : (t : Timer) (now : ℕ) → blocked t ≡ true → t.count.running ≡ true → synced t now ≡ waits t now
unfolding synced
synced-waits t now b r = ap (λ (r : Bool). cond r (with_count t (at_count t.count (cnt_at t now) (step_at t now))) t) r
    ∙ ap (λ (b : Bool). with_count t (at_count t.count (cnt_at t now) (cond b now (t.count.base + ticks_at t now * t.count.tick)))) b
    ∙ ap (λ (k : ℕ). with_count t (at_count t.count k now)) (cnt-stopped t now (blocked-not t b))

pub synced-stopped : (t : Timer) (now : ℕ) → t.count.running ≡ false → synced t now ≡ t
unfolding synced
synced-stopped t now e = rw e

-- what holds of a sync: of a timer that counts, of a blocked one, of a stopped one
pub by-sync : (t : Timer) (now : ℕ) (P : Timer → Type 0) → (counts t ≡ true → P (moved t now)) → (blocked t ≡ true → t.count.running ≡ true → P (waits t now))
    → (t.count.running ≡ false → P t) → P (synced t now)
by-sync t now P f g h = go (blocked t) t.count.running refl refl
  where
    go : (b r : Bool) → blocked t ≡ b → t.count.running ≡ r → P (synced t now)
    go b false p q = subst P (sym (synced-stopped t now q)) (h q)
    go true true p q = subst P (sym (synced-waits t now p q)) (g p q)
    go false true p q = subst P (sym (synced-runs t now (counts_of_lem t p q))) (f (counts_of_lem t p q))

module _ (t : Timer) (runs : counts t ≡ true) (pos : 0 < t.count.tick) (now c : ℕ) (le : now ≤ c) where
  pub moved-ticks : ticks_at t now + ticks_at (moved t now) c ≡ ticks_at t c
  moved-ticks = sym (ticks-split t.count.base now c t.count.tick le pos)

  pub moved-cnt : cnt_at (moved t now) c ≡ cnt_at t c
  moved-cnt =
      rw (
        cnt-runs (moved t now) c runs,
        cnt-runs t c runs,
        cnt-runs t now runs,
        counted-again (down t) t.count.arr_act t.count.cnt0 (ticks_at t now) (ticks_at (moved t now) c),
        moved-ticks,
      )

  pub moved-moved : moved (moved t now) c ≡ moved t c
  moved-moved =
      let e : (moved (moved t now) c).count.base ≡ (moved t c).count.base =
      omega (arith, ap (λ (n : ℕ). n * t.count.tick) moved-ticks) in
      rw (moved-cnt, e)
