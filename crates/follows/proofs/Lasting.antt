-- Events, a reset and another divider leave a timer with its step that of prescaler and divider. Assumes nothing.
use Prim.Native.Nat.{ℕ, ◌+◌, ◌*◌, ◌≤◌, ◌<◌}
use mathlib.Core.Path.{◌≡◌, refl, ◌∙◌}
use mathlib.Core.Bool.{Bool, true, false, cond, ◌&&◌}
use native.Mathlib.Nat.{le_refl}
use native.Mathlib.Omega.{arith}
use lib.ListN.{length-set}
use Rattle.rm0440.specs.Bits.{CEN, UDIS}
use Rattle.tim.specs.declared.Timer.{Timer}
use Rattle.tim.specs.declared.Inst.{Inst}
use Rattle.tim.specs.Timer.{down}
use Rattle.tim.specs.Change as T
use Rattle.stepping.proofs.Agrees.{sync-base}
use Rattle.follows.specs.Seen.{Timed, Within, Left}
use Rattle.follows.proofs.Standing.{either-sync}

module _ (t : Timer) (div : ℕ) (w : Timed t div) where
  pub timed-updated : (x : ℕ) → Timed (T.updated t x div) div
  unfolding T.updated T.reloaded T.restarted T.recomputed_after_update T.ended
  timed-updated x = record { pos = w.pos; timed = refl; halted = halted (UDIS t.regs.cr1); sized = refl }
    where
      -- a pulse that ends stands, and one that goes on has its CR1
      over : (o m r : Bool) (v : ℕ) → (CEN v ≡ false → r ≡ false) → CEN (cond (o && m) (T.without_cen v) v) ≡ false → cond o false r ≡ false
      over true m r v h e = refl
      over false m r v h e = h e

      -- what the update loads, or under UDIS does not
      new : Bool → Timer
      new u = cond u t (T.with_flag (T.loaded t) T.UIF)

      halted : (u : Bool) → CEN (cond (T.pulse_ends (new u) && (new u).inst.manual) (T.without_cen (new u).regs.cr1) (new u).regs.cr1) ≡ false
          → cond (T.pulse_ends (new u)) false (new u).count.running ≡ false
      halted true e = over (T.pulse_ends t) t.inst.manual t.count.running t.regs.cr1 w.halted e
      halted false e = over (T.pulse_ends t) t.inst.manual t.count.running t.regs.cr1 w.halted e

  updated-base : (x : ℕ) → (T.updated t x div).count.base ≡ x
  unfolding T.updated T.reloaded T.restarted T.recomputed_after_update T.ended
  updated-base x = refl

  pub left-updated : (x now : ℕ) → x ≤ now → Left div now (T.updated t x div)
  left-updated x now h = record { timed = timed-updated x; based = rw (updated-base x) h }

  pub left-compared : (ch now : ℕ) → t.count.base ≤ now → Left div now (T.compared t ch)
  unfolding T.compared T.matched
  left-compared ch now b = record {
    timed = record { pos = w.pos; timed = w.timed; halted = w.halted; sized = length-set t.chan.cc_done ch true ∙ w.sized };
    based = b;
  }

  -- another divider
  pub left-retimed : (div' now : ℕ) → 0 < div' → t.count.base ≤ now → Left div' now (T.retimed t now div')
  unfolding T.retimed
  left-retimed div' now p b = record {
    timed = either-sync t now (λ (z : Timer). Timed (T.with_tick z ((t.count.psc_act + 1) * div')) div')
        (λ k b. record { pos = p; timed = refl; halted = w.halted; sized = w.sized }) (record { pos = p; timed = refl; halted = w.halted; sized = w.sized });
    based = sync-base t now b;
  }

-- an update leaves the counter within the reload
pub updated-within : (t : Timer) (x div : ℕ) → Within (T.updated t x div)
unfolding T.updated T.reloaded T.restarted T.recomputed_after_update T.ended
updated-within t x div r = go (UDIS t.regs.cr1)
  where
    either : (d : Bool) (a : ℕ) → cond d a 0 ≤ a
    either true a = le_refl a
    either false a = omega arith

    go : (u : Bool) → (T.restarted (cond u t (T.with_flag (T.loaded t) T.UIF)) x div).count.cnt0 ≤ (T.restarted (cond u t (T.with_flag (T.loaded t) T.UIF)) x div).count.arr_act
    go true = either (down t) t.count.arr_act
    go false = either (down t) t.regs.arr

pub left-reset : (i : Inst) (div now : ℕ) → 0 < div → Left div now (T.reset_state i div)
unfolding T.reset_state
left-reset i div now p = record { timed = record { pos = p; timed = refl; halted = λ e. refl; sized = refl }; based = zero-le }
  where
    zero-le : 0 ≤ now
    zero-le = omega arith
