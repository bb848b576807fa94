-- Between two events: at a cycle with nothing due before it the port's timer is the machine after as many kernel clocks. Assumes nothing.
use Prim.Native.Nat.{ℕ, suc, ◌+◌, ◌-◌, ◌*◌, ◌/◌, ◌%◌, ◌<◌}
use mathlib.Core.Path.{◌≡◌, refl, sym, ap, ◌∙◌}
use mathlib.Core.Bool.{Bool, true, false, cond}
use native.Mathlib.Nat.{mod-eq_of_lt, zero-div, zero-mod, add-zero, sub_self, mul_comm, mul-div_cancel, div-div-eq-div-mul}
use native.Mathlib.Omega.{arith}
use borrow.Author.Tests.{le-leb, lt-leb}
use Rattle.rm0440.specs.Bits.{DIR}
use Rattle.tim.specs.declared.Timer.{Timer}
use Rattle.tim.specs.declared.Ahead.{Ahead}
use Rattle.tim.specs.Timer as T
use Rattle.tim.specs.Count.{ticks_at}
use Rattle.tim.specs.Next as N
use Rattle.rm0440.specs.Rules.{manual_mode, Taken}
use Rattle.rm0440.specs.State as M
use Rattle.rm0440.specs.State.{with_bit}
use Rattle.rm0440.specs.Clock.{stepped, clocks}
use Rattle.rm0440.specs.Late.{passes}
use Rattle.follows.proofs.Leap as Leap
use Rattle.follows.specs.Seen.{raw, clocks_at, per}
use Rattle.follows.proofs.Place.{period, place_of, at, Stands}
use Rattle.follows.proofs.Periodic.{counter, turnable, has-place}
use Rattle.follows.proofs.Centre.{centre-channels, centre-rule}
use Rattle.follows.proofs.Dir.{dir-same}
use Rattle.follows.proofs.First.{turn_steps, Best, best-first}
use Rattle.follows.proofs.Event.{next, before-event, at-event}
use Rattle.follows.proofs.Late as Late
use Rattle.follows.proofs.Port.{centre, place_after, cnt_at, cr1_at, with_way, update_steps, next_steps, seen, Runs}

module _ (m : Taken) (t : Timer) (div : ℕ) (w : Runs m t div) where
  pub ticks-are : (c : ℕ) → ticks_at t c ≡ clocks_at t div c / per t
  ticks-are c = ap (λ (y : ℕ). (c - t.count.base) / y) (w.timed ∙ mul_comm (per t) div) ∙ sym (div-div-eq-div-mul (c - t.count.base) div (per t))

  pub clocks-are : (n : ℕ) → clocks_at t div (t.count.base + n * div) ≡ n
  clocks-are n =
      let e : t.count.base + n * div - t.count.base ≡ n * div = omega arith in
      rw e (mul-div_cancel n w.pos)

  -- the machine's state after n clocks of which only the counters moved
  abbrev gone : ℕ → M.Timer
  gone n = Late.put (manual_mode m) (raw t) (n % per t) (at (centre m t) (T.down t) t.count.arr_act (place_after m t (n / per t)))

  seen-any : (c : ℕ) → seen m t div c ≡ gone (clocks_at t div c)
  unfolding cnt_at cr1_at
  seen-any c = rw (w.free, w.runs, ticks-are c)

  pub seen-on : (c n : ℕ) → clocks_at t div c ≡ n → seen m t div c ≡ gone n
  seen-on c n e = seen-any c ∙ ap gone e

  pub base-clocks : clocks_at t div t.count.base ≡ 0
  base-clocks = rw (sub_self t.count.base) (zero-div div)

  -- due or not: a call sees the counters moved on, and nothing else
  pub late : (c : ℕ) → passes (manual_mode m) (clocks_at t div c) (seen m t div t.count.base) ≡ seen m t div c
  late c =
      ap (passes (manual_mode m) (clocks_at t div c)) start ∙ Late.passes_on (manual_mode m) (raw t) refl w.small w.free pos p in_p (clocks_at t div c)
      ∙ sym (seen-any c)
    where
      pos : 0 < period (centre m t) t.count.arr_act
      pos = turnable (centre m t) t.count.arr_act (T.down t) t.count.cnt0 w.stands

      p : ℕ
      p = place_of (centre m t) t.count.arr_act (T.down t) t.count.cnt0

      in_p : p < period (centre m t) t.count.arr_act
      in_p = has-place (centre m t) t.count.arr_act (T.down t) t.count.cnt0 w.stands

      start : seen m t div t.count.base ≡ Late.put (manual_mode m) (raw t) 0 (at (centre m t) (T.down t) t.count.arr_act p)
      start = seen-on t.count.base 0 base-clocks ∙ rw (zero-mod (per t), zero-div (per t), add-zero p, mod-eq_of_lt in_p)

-- before the turn the counter is on its way: the place after k steps has the way and the count that k steps on the way leave
pub on-way : (c : Bool) (a : ℕ) (d : Bool) (x k : ℕ) → Stands c a d x → k < turn_steps c a d x
    → at c d a ((place_of c a d x + k) % period c a) ≡ counter d (cond d (x - k) (x + k))
on-way true a true x k s h =
    let l : 2 * a - x + k < 2 * a = omega (arith, s.within) in
    let e : 2 * a - (2 * a - x + k) ≡ x - k = omega (arith, s.within) in
    rw (mod-eq_of_lt l, le-leb a (2 * a - x + k) (omega (arith, s.within)), e)
on-way true a false x k s h =
    let l : x + k < 2 * a = omega arith in
    rw (mod-eq_of_lt l, lt-leb a (x + k) (omega arith))
on-way false a true x k s h =
    let l : a - x + k < a + 1 = omega (arith, s.within) in
    let e : a - (a - x + k) ≡ x - k = omega (arith, s.within) in
    rw (mod-eq_of_lt l, e)
on-way false a false x k s h =
    let l : x + k < a + 1 = omega arith in
    rw (mod-eq_of_lt l)

module _ (m : Taken) (t : Timer) (div : ℕ) (w : Runs m t div) where
  -- DIR is the way at the reference
  pub way_same : with_way m t (T.down t) ≡ t.regs.cr1
  way_same = go (centre m t) refl
    where
      go : (b : Bool) → centre m t ≡ b → cond b (with_bit 4 (T.down t) t.regs.cr1) t.regs.cr1 ≡ t.regs.cr1
      go false e = refl
      go true e =
          let d : T.down t ≡ DIR t.regs.cr1 = ap (λ (z : Bool). cond z false (DIR t.regs.cr1)) (centre-channels (manual_mode m) (raw t) e) in
          ap (λ (b : Bool). with_bit 4 b t.regs.cr1) d ∙ dir-same t.regs.cr1 (w.small (centre-rule (manual_mode m) (raw t) e))

  pub seen_at : (c n : ℕ) → clocks_at t div c ≡ n → n / per t < update_steps m t → seen m t div c ≡ Leap.at (raw t) (n % per t) (n / per t)
  seen_at c n e h =
      seen-on m t div w c n e
      ∙ ap (Late.put (manual_mode m) (raw t) (n % per t)) (on-way (centre m t) t.count.arr_act (T.down t) t.count.cnt0 (n / per t) w.stands h)
      ∙ ap (λ (x : ℕ). M.with_cr1 x (Leap.at (raw t) (n % per t) (n / per t))) way_same

  pub update-later : 0 < update_steps m t
  update-later = go (centre m t) (T.down t) w.stands
    where
      go : (c d : Bool) → Stands c t.count.arr_act d t.count.cnt0 → 0 < turn_steps c t.count.arr_act d t.count.cnt0
      go true true s = omega (arith, s.downward refl refl)
      go true false s = omega (arith, s.up refl refl)
      go false true s = omega arith
      go false false s = omega (arith, s.within)

  pub start : seen m t div t.count.base ≡ Leap.at (raw t) 0 0
  start =
      let z : 0 / per t ≡ 0 = zero-div (per t) in
      seen_at t.count.base 0 (base-clocks m t div w) (rw z update-later) ∙ rw (z, zero-mod (per t))

  -- the port's next event is the machine's
  pub next-same : next_steps m t ≡ next (manual_mode m) (raw t)
  unfolding next_steps N.compares
  next-same = refl

  pub best : Best (update_steps m t) (N.compares t) (N.compare_steps t) 4 (next_steps m t)
  unfolding next_steps
  best = best-first (update_steps m t) (N.compares t) (N.compare_steps t)

  -- so many kernel clocks with no event due
  pub between : (c : ℕ) → clocks_at t div c / per t < (next_steps m t).steps
      → clocks (manual_mode m) (clocks_at t div c) (seen m t div t.count.base) ≡ seen m t div c
  between c h =
      let u : clocks_at t div c / per t < update_steps m t = omega (arith, best.by-update) in
      ap (clocks (manual_mode m) (clocks_at t div c)) start ∙ before-event (manual_mode m) (raw t) refl refl w.free (clocks_at t div c) (rw next-same at h)
      ∙ sym (seen_at c (clocks_at t div c) refl u)

  -- the clocks to the next event, and the step that is the event: a turn (turn-first) or a match (match-first)
  pub to-event : (j : ℕ) → (next_steps m t).steps ≡ suc j
      → clocks (manual_mode m) (suc j * per t) (seen m t div t.count.base) ≡ stepped (manual_mode m) (Leap.at (raw t) 0 j)
  to-event j e = ap (clocks (manual_mode m) (suc j * per t)) start ∙ at-event (manual_mode m) (raw t) refl refl w.free j (ap (λ (a : Ahead). a.steps) (sym next-same) ∙ e)
