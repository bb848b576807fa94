-- Every timer's reload, written and in use, fits its width. Assumes nothing.
use mathlib.Core.Bool.{Bool, true, false, cond}
use Prim.Native.Nat.{ℕ, ◌+◌, ◌≤◌}
use native.Mathlib.Nat.{le_refl}
use native.Mathlib.Omega.{arith}
use lib.Dec.{eqb}
use lib.Bits.{bit_and, and_le_r}
use Rattle.rm0440.specs.Bits.{field, is_set, CEN, ARPE, UDIS, URS}
use Rattle.rm0440.specs.Output as Out
use Rattle.tim.specs.declared.Timer.{Timer}
use Rattle.tim.specs.declared.Inst.{Inst}
use Rattle.tim.specs.Timer.{max, is_output, ccmr_byte, with_cr1}
use Rattle.tim.specs.Count.{synced}
use Rattle.tim.specs.Change as T
use Rattle.regs.specs.declared.Written.{Written}
use Rattle.regs.specs.Regs as R
use Rattle.follows.proofs.Standing.{either-sync}
use Rattle.machine.proofs.Routing.{either}
use Rattle.boards.specs.Boards.{StepFits}
use Rattle.boards.proofs.Everywhere.{everywhere}

abbrev Fit : Timer → Type 0
Fit t = (t.regs.arr ≤ max t) × (t.count.arr_act ≤ max t)

abbrev FitW : Written → Type 0
FitW w = Fit w.timer

fit-synced : (t : Timer) (now : ℕ) → Fit t → Fit (synced t now)
unfolding synced
fit-synced t now f = either Fit t.count.running f f

fit-recomputed : (t : Timer) → Fit t → Fit (T.recomputed t)
unfolding T.recomputed
fit-recomputed t f = f

fit-matched : (t : Timer) (ch : ℕ) → Fit t → Fit (T.matched t ch)
unfolding T.matched
fit-matched t ch f = f

fit-compared : (t : Timer) (ch : ℕ) → Fit t → Fit (T.compared t ch)
unfolding T.compared T.matched
fit-compared t ch f = f

fit-updated : (t : Timer) (x div : ℕ) → Fit t → Fit (T.updated t x div)
unfolding T.updated T.ended T.recomputed_after_update T.restarted T.reloaded
fit-updated t x div f = go (UDIS t.regs.cr1)
  where
    go : (u : Bool) → Fit (T.ended (T.recomputed_after_update (T.restarted (cond u t (T.with_flag (T.loaded t) T.UIF)) x div)))
    go true = f
    go false = (f.0, f.0)

fit-generated : (t : Timer) (now div : ℕ) → Fit t → Fit (T.generated t now div)
unfolding T.generated T.recomputed_after_update T.restarted
fit-generated t now div f = either Fit (URS t.regs.cr1) (f.0, f.0) (either Fit (UDIS t.regs.cr1) (f.0, f.0) (f.0, f.0))

fit-retimed : (t : Timer) (now div : ℕ) → Fit t → Fit (T.retimed t now div)
unfolding T.retimed
fit-retimed t now div f = fit-synced t now f

fit-reset : (i : Inst) (div : ℕ) → Fit (T.reset_state i div)
unfolding T.reset_state
fit-reset i div = (le_refl (T.max_of i), le_refl (T.max_of i))

-- ---- a register written

fit-cr1 : (t : Timer) (v now div : ℕ) → Fit t → Fit (R.cr1_written t v now div)
unfolding R.cr1_written R.turned T.started T.stopped T.recomputed
fit-cr1 t v now div f =
    let s = with_cr1 (synced t now) (R.kept_cr1 t v) in
    let e : Fit s = fit-synced t now f in
    let turned : Fit (R.turned t.regs.cr1 s) = either Fit (eqb (field 4 1 t.regs.cr1) (field 4 1 s.regs.cr1)) e e in
    let stopped : Fit (T.stopped s now) = fit-synced s now e in
    either Fit (CEN s.regs.cr1) (either Fit (CEN t.regs.cr1) turned e) (either Fit (CEN t.regs.cr1) stopped turned)

fit-egr : (t : Timer) (v now div : ℕ) → Fit t → Fit (R.egr_written t v now div)
unfolding R.egr_written R.egr_update
fit-egr t v now div f =
    let y = synced t now in
    let s = fit-synced t now f in
    let a = cond (is_set 0 v) (T.generated y now div) y in
    let u : Fit a = either Fit (is_set 0 v) (fit-generated y now div s) s in
    one 3 (R.egr_match v 2 (R.egr_match v 1 (R.egr_match v 0 a))) (one 2 (R.egr_match v 1 (R.egr_match v 0 a)) (one 1 (R.egr_match v 0 a) (one 0 a u)))
  where
    one : (ch : ℕ) (z : Timer) → Fit z → Fit (R.egr_match v ch z)
    one ch z g = either Fit (is_set (ch + 1) v) (either Fit (is_output z ch) (fit-matched z ch g) g) g

fit-cnt : (t : Timer) (v now : ℕ) → Fit t → Fit (R.cnt_written t v now)
unfolding R.cnt_written T.recomputed
fit-cnt t v now f = fit-synced t now f

fit-arr : (t : Timer) (v now : ℕ) → Fit t → FitW (R.arr_written t v now)
unfolding R.arr_written T.recomputed
fit-arr t v now f =
    let k : bit_and v (max t) ≤ max t = and_le_r v (max t) in
    either-sync t now (λ (z : Timer). FitW (cond (ARPE t.regs.cr1) (R.only (R.with_arr z (R.kept_width t v)))
    (R.booked (T.recomputed (R.with_arr_act (R.with_arr z (R.kept_width t v)) (R.kept_width t v))))))
    (λ n b. either FitW (ARPE t.regs.cr1) (k, f.1) (k, k)) (either FitW (ARPE t.regs.cr1) (k, f.1) (k, k))

fit-channel : (t : Timer) (off v now : ℕ) → Fit t → FitW (R.channel_written t off v now)
unfolding R.channel_written R.ccmr_written R.ccer_written R.ccr_written
fit-channel t off v now f =
    let s = fit-synced t now f in
    either FitW (eqb t.inst.channels 0) f
    (either FitW (eqb off 0x18) s
    (either FitW (eqb off 0x1c) s
    (either FitW (eqb off 0x20) f
    (either FitW (R.is_ccr off) (either FitW (Out.OCxPE (ccmr_byte t (R.ccr_channel off))) s s) f))))

fit_written : (t : Timer) (off v now div : ℕ) → Fit t → FitW (R.reg_written t off v now div)
unfolding R.reg_written
fit_written t off v now div f =
    either FitW (eqb off 0x00) (fit-cr1 t v now div f)
    (either FitW (eqb off 0x04) f
    (either FitW (eqb off 0x08) f
    (either FitW (eqb off 0x0c) f
    (either FitW (eqb off 0x10) f
    (either FitW (eqb off 0x14) (fit-egr t v now div f)
    (either FitW (eqb off 0x24) (fit-cnt t _ now f)
    (either FitW (eqb off 0x28) f
    (either FitW (eqb off 0x2c) (fit-arr t _ now f) (fit-channel t off v now f)))))))))

pub fits : StepFits
fits cs i cycle = let f = everywhere Fit (omega arith, omega arith) fit-reset fit_written fit-updated fit-compared fit-retimed cs i in (f.1, f.0)
