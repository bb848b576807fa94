-- Each register write keeps the timer's bounds. Assumes nothing.
use Prim.Native.Nat.{ℕ, ◌+◌, ◌/◌, ◌≤◌, ◌<◌}
use lib.Bits.{bit_and, and_le_r}
use lib.Dec.{lit<, eqb}
use native.Mathlib.Nat.{lt_of_le_of_lt}
use Rattle.rm0440.specs.Bits.{field, is_set, CEN, ARPE}
use Rattle.rm0440.specs.Output as Out
use Rattle.rm0440.specs.Registers.{kept_mask, mask, bits}
use Rattle.tim.specs.declared.Timer.{Timer}
use Rattle.regs.specs.declared.Written.{Written}
use Rattle.tim.specs.Timer.{Fit, Ready, is_output, ccmr_byte, with_cr1}
use Rattle.tim.specs.Count.{synced}
use Rattle.tim.specs.Change.{recomputed}
use Rattle.tim.proofs.Fit.{either, fit-synced, fit-recomputed, fit-matched, fit-started, fit-stopped, fit-generated}
use Rattle.regs.specs.Regs as R

module _ (t : Timer) (f : Fit t) (v now div : ℕ) (h : now < 9223372036854775808) (p : 0 < div) (d : div ≤ 8192) where
  pub fit-egr : Fit (R.egr_written t v now div)
  unfolding R.egr_written R.egr_update
  fit-egr =
      let s = fit-synced t f now h in
      let u : Fit (R.egr_update t v now div) = either Fit (is_set 0 v) (fit-generated (synced t now) s now div h p d) s in
      let a = R.egr_update t v now div in
      let b = R.egr_match v 0 a in
      let c = R.egr_match v 1 b in
      match-fit 3 (R.egr_match v 2 c) (match-fit 2 c (match-fit 1 b (match-fit 0 a u)))
    where
      match-fit : (ch : ℕ) (s : Timer) → Fit s → Fit (R.egr_match v ch s)
      match-fit ch s g = either Fit (is_set (ch + 1) v) (either Fit (is_output s ch) (fit-matched s g ch) g) g

-- the timer that a write leaves has its bounds
record FitW (w : Written) : Type 0 where
  timer-fit : Fit w.timer

fit-turned : (old : ℕ) (t : Timer) → Fit t → Fit (R.turned old t)
unfolding R.turned
fit-turned old t f = either Fit (eqb (field 4 1 old) (field 4 1 t.regs.cr1)) f (fit-recomputed t f)

module _ (t : Timer) (f : Fit t) (v now : ℕ) (h : now < 9223372036854775808) where
  pub fit-cnt : Fit (R.cnt_written t v now)
  unfolding R.cnt_written recomputed
  fit-cnt = let s = fit-synced t f now h in record {
    psc-lt = s.psc-lt;
    psc_act-lt = s.psc_act-lt;
    tick-pos = s.tick-pos;
    tick-le = s.tick-le;
    base-lt = h;
  }

  pub fit-arr : Fit (R.arr_written t v now).timer
  unfolding R.arr_written recomputed
  fit-arr = let s = fit-synced t f now h in either (λ (w : Written). Fit w.timer) (ARPE t.regs.cr1) s s

  pub fit-ccr : (ch : ℕ) → Fit (R.ccr_written t ch v now).timer
  unfolding R.ccr_written
  fit-ccr ch = let s = fit-synced t f now h in either (λ (w : Written). Fit w.timer) (Out.OCxPE (ccmr_byte t ch)) s s

  pub fit-ccmr : (i : ℕ) → Fit (R.ccmr_written t i v now).timer
  unfolding R.ccmr_written
  fit-ccmr i = fit-synced t f now h

  pub fit-ccer : Fit (R.ccer_written t v now).timer
  unfolding R.ccer_written
  fit-ccer = f

  fit-psc : Fit (R.with_psc t (bit_and v (kept_mask 10)))
  unfolding mask bits
  fit-psc = record {
    psc-lt = lt_of_le_of_lt (and_le_r v 65535) (lit< tt);
    psc_act-lt = f.psc_act-lt;
    tick-pos = f.tick-pos;
    tick-le = f.tick-le;
    base-lt = f.base-lt;
  }

fit-channel : (t : Timer) → Fit t → (v now : ℕ) → now < 9223372036854775808 → (off : ℕ) → FitW (R.channel_written t off v now)
unfolding R.channel_written
fit-channel t f v now h off =
    either FitW (eqb t.inst.channels 0) (record { timer-fit = f })
    (either FitW (eqb off 0x18) (record { timer-fit = fit-ccmr t f (R.kept 6 v) now h 0 })
    (either FitW (eqb off 0x1c) (record { timer-fit = fit-ccmr t f (R.kept 7 v) now h 1 })
    (either FitW (eqb off 0x20) (record { timer-fit = fit-ccer t f (R.kept 8 v) now h })
    (either FitW (R.is_ccr off) (record { timer-fit = fit-ccr t f (R.kept (off / 4) v) now h (R.ccr_channel off) }) (record { timer-fit = f })))))

pub fit-cr1 : (t : Timer) → Fit t → (v now div : ℕ) → now < 9223372036854775808 → 0 < div → div ≤ 8192 → Fit (R.cr1_written t v now div)
unfolding R.cr1_written
fit-cr1 t f v now div h p d =
    let s = with_cr1 (synced t now) (R.kept_cr1 t v) in
    let g : Fit s = fit-synced t f now h in
    let same : Fit (R.turned t.regs.cr1 s) = fit-turned t.regs.cr1 s g in
    either Fit (CEN (R.kept_cr1 t v))
    (either Fit (CEN t.regs.cr1) same (fit-started s g now div h p d))
    (either Fit (CEN t.regs.cr1) (fit-stopped s g now h) same)

written : (t : Timer) (off v now div : ℕ) → Ready t now div → FitW (R.reg_written t off v now div)
unfolding R.reg_written
written t off v now div r =
    let f = r.fit in
    let h = r.now-lt in
    either FitW (eqb off 0x00) (record { timer-fit = fit-cr1 t f v now div h r.div-pos r.div-le })
    (either FitW (eqb off 0x04) (record { timer-fit = f })
    (either FitW (eqb off 0x08) (record { timer-fit = f })
    (either FitW (eqb off 0x0c) (record { timer-fit = f })
    (either FitW (eqb off 0x10) (record { timer-fit = f })
    (either FitW (eqb off 0x14) (record { timer-fit = fit-egr t f v now div h r.div-pos r.div-le })
    (either FitW (eqb off 0x24) (record { timer-fit = fit-cnt t f (R.kept 9 v) now h })
    (either FitW (eqb off 0x28) (record { timer-fit = fit-psc t f v now h })
    (either FitW (eqb off 0x2c) (record { timer-fit = fit-arr t f (R.kept 11 v) now h }) (fit-channel t f v now h off)))))))))

pub fit_written : (t : Timer) (off v now div : ℕ) → Ready t now div → Fit (R.reg_written t off v now div).timer
fit_written t off v now div r = (written t off v now div r).timer-fit
