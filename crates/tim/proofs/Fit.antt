-- Each change keeps the timer's bounds. Assumes nothing.
use mathlib.Core.Bool.{Bool, true, false, cond}
use Prim.Native.Nat.{ℕ, ◌+◌, ◌-◌, ◌*◌, ◌≤◌, ◌<◌}
use lib.Dec.{lit<}
use native.Mathlib.Omega.{arith}
use native.Mathlib.Nat.{div-mul-le_self, mul-le-mul, mul-pos}
use Rattle.rm0440.specs.Bits.{UDIS, URS}
use Rattle.rm0440.specs.Counter.{step_cycles}
use Rattle.tim.specs.declared.Timer.{Timer}
use Rattle.tim.specs.declared.Inst.{Inst}
use Rattle.tim.specs.Timer.{Bounds, Fit}
use Rattle.tim.specs.Count.{blocked, ticks_at, synced}
use Rattle.tim.specs.Change.{recomputed, recomputed_after_update, reloaded, restarted, ended, updated, generated, matched, compared, started, stopped, retimed, reset_state}

-- what holds of both holds of either
pub either : {A : Type 0} (P : A → Type 0) (b : Bool) {x y : A} → P x → P y → P (cond b x y)
either P true p q = p
either P false p q = q

step-pos : (psc div : ℕ) → 0 < div → 0 < step_cycles psc div
step-pos psc div h = mul-pos (omega arith) h

step-le : (psc div : ℕ) → psc < 65536 → div ≤ 8192 → step_cycles psc div ≤ 536870912
step-le psc div p d = mul-le-mul {n₂ = 65536} {m₂ = 8192} (omega arith) d

-- a step of a prescaler and a divider that fit
restep : {psc psc_act tick base : ℕ} (now div : ℕ) → Bounds psc psc_act tick base → now < 9223372036854775808 → 0 < div → div ≤ 8192
    → Bounds psc psc_act (step_cycles psc_act div) now
restep now div f n p d = record {
  psc-lt = f.psc-lt;
  psc_act-lt = f.psc_act-lt;
  tick-pos = step-pos _ div p;
  tick-le = step-le _ div f.psc_act-lt d;
  base-lt = n;
}

module _ (t : Timer) (f : Fit t) where
  pub synced-base-lt : (now : ℕ) → now < 9223372036854775808 → t.count.base + ticks_at t now * t.count.tick < 9223372036854775808
  synced-base-lt now h = omega (arith, f.base-lt, div-mul-le_self (now - t.count.base) t.count.tick)

  pub fit-synced : (now : ℕ) → now < 9223372036854775808 → Fit (synced t now)
  unfolding synced
  fit-synced now h =
      either Fit t.count.running
      (record {
        psc-lt = f.psc-lt;
        psc_act-lt = f.psc_act-lt;
        tick-pos = f.tick-pos;
        tick-le = f.tick-le;
        base-lt = either (λ (n : ℕ). n < 9223372036854775808) (blocked t) h (synced-base-lt now h);
      })
      f

  pub fit-recomputed : Fit (recomputed t)
  unfolding recomputed
  fit-recomputed = f

  pub fit-after-update : Fit (recomputed_after_update t)
  unfolding recomputed_after_update
  fit-after-update = f

  pub fit-reloaded : Fit (reloaded t)
  unfolding reloaded
  fit-reloaded =
      either Fit (UDIS t.regs.cr1) f
      (record { psc-lt = f.psc-lt; psc_act-lt = f.psc-lt; tick-pos = f.tick-pos; tick-le = f.tick-le; base-lt = f.base-lt })

  pub fit-restarted : (at div : ℕ) → at < 9223372036854775808 → 0 < div → div ≤ 8192 → Fit (restarted t at div)
  unfolding restarted
  fit-restarted at div = restep at div f

  pub fit-ended : Fit (ended t)
  unfolding ended
  fit-ended = f

  pub fit-matched : (ch : ℕ) → Fit (matched t ch)
  unfolding matched
  fit-matched ch = f

  pub fit-compared : (ch : ℕ) → Fit (compared t ch)
  unfolding compared matched
  fit-compared ch = f

  pub fit-started : (now div : ℕ) → now < 9223372036854775808 → 0 < div → div ≤ 8192 → Fit (started t now div)
  unfolding started recomputed
  fit-started now div = restep now div f

pub fit-stopped : (t : Timer) → Fit t → (now : ℕ) → now < 9223372036854775808 → Fit (stopped t now)
unfolding stopped
fit-stopped t f now h = fit-synced t f now h

pub fit-updated : (t : Timer) → Fit t → (at div : ℕ) → at < 9223372036854775808 → 0 < div → div ≤ 8192 → Fit (updated t at div)
unfolding updated
fit-updated t f at div h p d =
    fit-ended _ (fit-after-update _ (fit-restarted (reloaded t) (fit-reloaded t f) at div h p d))

pub fit-generated : (t : Timer) → Fit t → (now div : ℕ) → now < 9223372036854775808 → 0 < div → div ≤ 8192 → Fit (generated t now div)
unfolding generated recomputed_after_update restarted
fit-generated t f now div h p d =
    let g : Bounds t.regs.psc t.regs.psc (step_cycles t.regs.psc div) now = record {
      psc-lt = f.psc-lt;
      psc_act-lt = f.psc-lt;
      tick-pos = step-pos t.regs.psc div p;
      tick-le = step-le t.regs.psc div f.psc-lt d;
      base-lt = h;
    } in
    either Fit (URS t.regs.cr1) g (either Fit (UDIS t.regs.cr1) g g)

pub fit-reset : (i : Inst) (div : ℕ) → 0 < div → div ≤ 8192 → Fit (reset_state i div)
unfolding reset_state
fit-reset i div p d = record {
  psc-lt = lit< tt;
  psc_act-lt = lit< tt;
  tick-pos = step-pos 0 div p;
  tick-le = step-le 0 div (lit< tt) d;
  base-lt = lit< tt;
}

pub fit-retimed : (t : Timer) → Fit t → (now div : ℕ) → now < 9223372036854775808 → 0 < div → div ≤ 8192 → Fit (retimed t now div)
unfolding retimed
fit-retimed t f now div h p d = record {
  psc-lt = (fit-synced t f now h).psc-lt;
  psc_act-lt = (fit-synced t f now h).psc_act-lt;
  tick-pos = step-pos t.count.psc_act div p;
  tick-le = step-le t.count.psc_act div f.psc_act-lt d;
  base-lt = (fit-synced t f now h).base-lt;
}
