-- The port's reference moved to a call's cycle: nothing that is seen changes, and the timer stands where it is read. Assumes nothing.
use Prim.Native.Nat.{ℕ, zero, suc, ◌+◌, ◌-◌, ◌*◌, ◌/◌, ◌%◌, ◌≤◌, ◌<◌, min}
use mathlib.Core.Path.{◌≡◌, refl, sym, ap, ◌∙◌}
use mathlib.Core.Bool.{Bool, true, false, cond, not, ◌&&◌, false≢true}
use native.Mathlib.Nat.{mul-add-div_right, mul-add-mod_self_right, mul_assoc, div-mul-le_self, div-eq_of_lt, lt-div-mul-add, le_refl, min-eq_left, min-le_right, sub_self, zero-div, zero-mod}
use native.Mathlib.Omega.{arith}
use lib.Dec.{ltb}
use borrow.Author.Tests.{le-ltb}
use Rattle.rm0440.specs.Counter.{after}
use Rattle.rm0440.specs.Rules.{port_rules}
use Rattle.rm0440.specs.State as M
use Rattle.rm0440.specs.Clock.{matched}
use Rattle.rm0440.specs.Write.{overrun, answered}
use Rattle.tim.specs.declared.Timer.{Timer}
use Rattle.tim.specs.Timer.{down, with_count}
use Rattle.tim.specs.Count.{blocked, counts, ticks_at, cnt_at, step_at, synced, at_count}
use Rattle.tim.proofs.Fit.{either}
use Rattle.stepping.proofs.Counting.{counted, up-after, down-after, up_le, down_le}
use Rattle.stepping.proofs.Synced.{cnt-runs, cnt-stopped, moved, waits, runs_of, free_of, not-counts, blocked-not, synced-runs, by-sync}
use Rattle.stepping.proofs.Agrees.{sync-keeps-count}
use Rattle.follows.specs.Seen.{raw, clocks_at, per, seen, Timed, Within}

-- by the port's rules a write sets off what a delivery at its cycle finds: no rule of its own
pub answers : (p : Bool) (old s : M.Timer) → overrun (port_rules p) s ≡ false → answered (port_rules p) old s ≡ matched (port_rules p) s
unfolding answered matched
answers p old s e = rw e

-- ---- a synchronized timer is the same timer, or its reference is moved

pub either-sync : (t : Timer) (now : ℕ) (P : Timer → Type 0) → ((k b : ℕ) → P (with_count t (at_count t.count k b))) → P t → P (synced t now)
unfolding synced
either-sync t now P f g = either P t.count.running (f (cnt_at t now) (step_at t now)) g

pub tick-pos : (t : Timer) (div : ℕ) → Timed t div → 0 < t.count.tick
tick-pos t div w = go t.count.tick refl
  where
    go : (x : ℕ) → t.count.tick ≡ x → 0 < x
    go zero e = absurd (omega (arith, w.timed, w.pos))
    go (suc x) e = omega arith

-- the part of a step
pre-split : (base now c per div T : ℕ) → 0 < div → T ≡ per * div → now ≤ c
    → (c - (base + (now - base) / T * T)) / div % per ≡ (c - base) / div % per
pre-split base now c per div T pos e le =
    let q : c - base ≡ (now - base) / T * T + (c - (base + (now - base) / T * T)) = omega (arith, div-mul-le_self (now - base) T) in
    let p : (now - base) / T * T ≡ (now - base) / T * per * div = ap (λ (y : ℕ). (now - base) / T * y) e ∙ sym (mul_assoc ((now - base) / T) per div) in
    let m : c - base ≡ (now - base) / T * per * div + (c - (base + (now - base) / T * T)) = omega (arith, q, p) in
    sym (ap (λ (y : ℕ). y / div % per) m
    ∙ ap (λ (y : ℕ). y % per) (mul-add-div_right pos ((now - base) / T * per) (c - (base + (now - base) / T * T)))
    ∙ mul-add-mod_self_right ((now - base) / T) per ((c - (base + (now - base) / T * T)) / div))

-- stopped or blocked it is seen as it stands
pub seen-rests : (t : Timer) (div c : ℕ) → counts t ≡ false → raw t ≡ seen t div c
unfolding cnt_at
seen-rests t div c e = rw e

module _ (t : Timer) (div : ℕ) (w : Timed t div) where
  pub seen-synced : (now c : ℕ) → now ≤ c → seen (synced t now) div c ≡ seen t div c
  seen-synced now c le = by-sync t now (λ (y : Timer). seen y div c ≡ seen t div c) runs (λ b r. sym (seen-rests (waits t now) div c (blocked-not t b)) ∙ seen-rests t div c (blocked-not t b)) (λ e. refl)
    where
      runs : counts t ≡ true → seen (moved t now) div c ≡ seen t div c
      runs e =
          ap (λ (k : ℕ). M.with_count (raw t) t.count.running (cond (counts t) ((c - (t.count.base + ticks_at t now * t.count.tick)) / div % per t) 0) k)
          (ap (λ (y : Timer). cnt_at y c) (sym (synced-runs t now e)) ∙ sync-keeps-count t (tick-pos t div w) now c le)
          ∙ ap (λ (p : ℕ). M.with_count (raw t) t.count.running (cond (counts t) p 0) (cnt_at t c))
          (pre-split t.count.base now c (per t) div t.count.tick w.pos w.timed le)

-- ---- a timer that stands where it is read

-- running, its reference is less than a step before now
abbrev pub Near : Timer → ℕ → Type 0
Near y now = y.count.running ≡ true → ticks_at y now ≡ 0

pub counted_none : (d : Bool) (arr c : ℕ) → c ≤ arr → counted d arr c 0 ≡ c
unfolding after
counted_none true arr c h = rw (down-after arr (min c arr) 0) (min-eq_left h)
counted_none false arr c h = up-after arr c 0 h

pub near-cnt : (y : Timer) (now : ℕ) → Near y now → Within y → cnt_at y now ≡ y.count.cnt0
near-cnt y now near h = go (counts y) refl
  where
    go : (b : Bool) → counts y ≡ b → cnt_at y now ≡ y.count.cnt0
    go false e = cnt-stopped y now e
    go true e = cnt-runs y now e ∙ rw (near (runs_of y e)) (counted_none (down y) y.count.arr_act y.count.cnt0 (h e))

pub near_new : (y : Timer) (now : ℕ) → y.count.base ≡ now → Near y now
near_new y now e r = rw (e, sub_self now) (zero-div y.count.tick)

-- at its reference it is seen as it stands
pub seen-new : (y : Timer) (div now : ℕ) → y.count.base ≡ now → Within y → seen y div now ≡ raw y
seen-new y div now b h =
    ap (λ (k : ℕ). M.with_count (raw y) y.count.running (cond (counts y) (clocks_at y div now % per y) 0) k) (near-cnt y now (near_new y now b) h)
    ∙ ap (λ (n : ℕ). M.with_count (raw y) y.count.running (cond (counts y) (n % per y) 0) y.count.cnt0) none
    ∙ go (counts y)
  where
    none : clocks_at y div now ≡ 0
    none = rw (b, sub_self now) (zero-div div)

    go : (b : Bool) → M.with_count (raw y) y.count.running (cond b (0 % per y) 0) y.count.cnt0 ≡ raw y
    go true = rw (zero-mod (per y))
    go false = refl

-- upward a counter that counts reads within the reload
pub no-overrun : (y : Timer) (c : ℕ) → counts y && (true && (not (down y) && ltb y.count.arr_act (cnt_at y c))) ≡ false
no-overrun y c = go (counts y) (down y) refl refl
  where
    go : (a b : Bool) → counts y ≡ a → down y ≡ b → a && (true && (not b && ltb y.count.arr_act (cnt_at y c))) ≡ false
    go false b e d = refl
    go true true e d = refl
    go true false e d = le-ltb y.count.arr_act (cnt_at y c) (rw (cnt-runs y c e, d) (up_le y.count.arr_act y.count.cnt0 (ticks_at y c)))

-- a counter that counts reads within the reload, whatever it was
pub reads-within : (t : Timer) (c : ℕ) → counts t ≡ true → cnt_at t c ≤ t.count.arr_act
reads-within t c e = rw (cnt-runs t c e) (go (down t))
  where
    go : (d : Bool) → counted d t.count.arr_act t.count.cnt0 (ticks_at t c) ≤ t.count.arr_act
    go true = down_le t.count.arr_act (min t.count.cnt0 t.count.arr_act) (ticks_at t c) (min-le_right t.count.cnt0 t.count.arr_act)
    go false = up_le t.count.arr_act t.count.cnt0 (ticks_at t c)

-- y: the timer synchronized at now
pub record Stands (t : Timer) (div now : ℕ) (y : Timer) : Type 0 where
  pub near : Near y now
  pub within : Within y
  pub here : cnt_at y now ≡ y.count.cnt0
  pub shown : seen y div now ≡ seen t div now
  -- blocked it keeps no part of a step
  pub fresh : blocked y ≡ true → y.count.running ≡ true → y.count.base ≡ now
  pub timed : Timed y div

module _ (t : Timer) (div : ℕ) (w : Timed t div) (now : ℕ) where
  near-synced : Near (synced t now) now
  near-synced = by-sync t now (λ (y : Timer). Near y now) (λ e q. inside t.count.base t.count.tick (tick-pos t div w)) (λ b r. near_new (waits t now) now refl) (λ e q. absurd (let z : ◌≡◌ {A = ℕ} 0 1 = cc in omega arith))
    where
      inside : (base T : ℕ) → 0 < T → (now - (base + (now - base) / T * T)) / T ≡ 0
      inside base T p = div-eq_of_lt (omega (arith, lt-div-mul-add {a = now - base} {b = T} p, div-mul-le_self (now - base) T))

  within-synced : Within (synced t now)
  within-synced = by-sync t now Within (λ e q. reads-within t now e) (λ b r q. absurd (false≢true (sym (blocked-not t b) ∙ q))) (λ e q. absurd (false≢true (sym (not-counts t e) ∙ q)))

  fresh-synced : blocked (synced t now) ≡ true → (synced t now).count.running ≡ true → (synced t now).count.base ≡ now
  fresh-synced =
      by-sync t now (λ (y : Timer). blocked y ≡ true → y.count.running ≡ true → y.count.base ≡ now) (λ e b r. absurd (false≢true (sym (free_of t e) ∙ b))) (λ b r _ _. refl)
      (λ e b r. absurd (false≢true (sym e ∙ r)))

  timed-synced : Timed (synced t now) div
  timed-synced = either-sync t now (λ (y : Timer). Timed y div) (λ k b. record { pos = w.pos; timed = w.timed; halted = w.halted; sized = w.sized }) w

  pub stands : Stands t div now (synced t now)
  stands = record {
    near = near-synced;
    within = within-synced;
    here = near-cnt (synced t now) now near-synced within-synced;
    shown = seen-synced t div w now now (le_refl now);
    fresh = fresh-synced;
    timed = timed-synced;
  }
