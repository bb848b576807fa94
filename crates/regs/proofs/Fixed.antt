-- No register write touches what set-up fixed: number, width, channels, bus, interrupt, enable bit. Assumes nothing.
use mathlib.Core.Path.{◌≡◌, refl, ◌∙◌}
use Prim.Native.Nat.{ℕ, ◌+◌, ◌/◌}
use lib.Dec.{eqb}
use Rattle.rm0440.specs.Bits.{field, is_set, CEN, ARPE}
use Rattle.rm0440.specs.Output as Out
use Rattle.tim.specs.declared.Timer.{Timer}
use Rattle.tim.specs.declared.Inst.{Inst}
use Rattle.regs.specs.declared.Written.{Written}
use Rattle.tim.specs.Timer.{is_output, ccmr_byte, with_cr1}
use Rattle.tim.specs.Count.{synced}
use Rattle.tim.specs.Change.{recomputed}
use Rattle.tim.proofs.Fit.{either}
use Rattle.tim.proofs.Fixed.{inst-synced, inst-recomputed, inst-matched, inst-started, inst-stopped, inst-generated}
use Rattle.regs.specs.Regs as R

-- the timer that a write leaves has these fixed parts
record Left (i : Inst) (w : Written) : Type 0 where
  same : w.timer.inst ≡ i

inst-turned : (old : ℕ) (t : Timer) → (R.turned old t).inst ≡ t.inst
unfolding R.turned
inst-turned old t =
    either (λ (s : Timer). s.inst ≡ t.inst) (eqb (field 4 1 old) (field 4 1 t.regs.cr1)) refl (inst-recomputed t)

module _ (t : Timer) (v now div : ℕ) where
  pub inst-cr1 : (R.cr1_written t v now div).inst ≡ t.inst
  unfolding R.cr1_written
  inst-cr1 =
      let s = with_cr1 (synced t now) (R.kept_cr1 t v) in
      let e : s.inst ≡ t.inst = inst-synced t now in
      let turns = inst-turned t.regs.cr1 s ∙ e in
      either (λ (x : Timer). x.inst ≡ t.inst) (CEN (R.kept_cr1 t v))
      (either (λ (x : Timer). x.inst ≡ t.inst) (CEN t.regs.cr1) turns (inst-started s now div ∙ e))
      (either (λ (x : Timer). x.inst ≡ t.inst) (CEN t.regs.cr1) (inst-stopped s now ∙ e) turns)

  pub inst-egr : (R.egr_written t v now div).inst ≡ t.inst
  unfolding R.egr_written R.egr_update
  inst-egr =
      let s = synced t now in
      let e : s.inst ≡ t.inst = inst-synced t now in
      let a = R.egr_update t v now div in
      let b = R.egr_match v 0 a in
      let c = R.egr_match v 1 b in
      match-inst 3 (R.egr_match v 2 c)
      ∙ (match-inst 2 c ∙ (match-inst 1 b
      ∙ (match-inst 0 a ∙ either (λ (x : Timer). x.inst ≡ t.inst) (is_set 0 v) (inst-generated s now div ∙ e) e)))
    where
      match-inst : (ch : ℕ) (s : Timer) → (R.egr_match v ch s).inst ≡ s.inst
      match-inst ch s =
          either (λ (x : Timer). x.inst ≡ s.inst) (is_set (ch + 1) v)
          (either (λ (x : Timer). x.inst ≡ s.inst) (is_output s ch) (inst-matched s ch) refl) refl

module _ (t : Timer) (v now : ℕ) where
  pub inst-cnt : (R.cnt_written t v now).inst ≡ t.inst
  unfolding R.cnt_written recomputed
  inst-cnt = inst-synced t now

  pub inst-arr : (R.arr_written t v now).timer.inst ≡ t.inst
  unfolding R.arr_written recomputed
  inst-arr =
      either (λ (w : Written). w.timer.inst ≡ t.inst) (ARPE t.regs.cr1) (inst-synced t now) (inst-synced t now)

  pub inst-ccr : (ch : ℕ) → (R.ccr_written t ch v now).timer.inst ≡ t.inst
  unfolding R.ccr_written
  inst-ccr ch =
      either (λ (w : Written). w.timer.inst ≡ t.inst) (Out.OCxPE (ccmr_byte t ch)) (inst-synced t now) (inst-synced t now)

  pub inst-ccmr : (i : ℕ) → (R.ccmr_written t i v now).timer.inst ≡ t.inst
  unfolding R.ccmr_written
  inst-ccmr i = inst-synced t now

  pub inst-ccer : (R.ccer_written t v now).timer.inst ≡ t.inst
  unfolding R.ccer_written
  inst-ccer = refl

channel : (t : Timer) (v now off : ℕ) → Left t.inst (R.channel_written t off v now)
unfolding R.channel_written
channel t v now off =
    either (Left t.inst) (eqb t.inst.channels 0) (record { same = refl })
    (either (Left t.inst) (eqb off 0x18) (record { same = inst-ccmr t (R.kept 6 v) now 0 })
    (either (Left t.inst) (eqb off 0x1c) (record { same = inst-ccmr t (R.kept 7 v) now 1 })
    (either (Left t.inst) (eqb off 0x20) (record { same = inst-ccer t (R.kept 8 v) now })
    (either (Left t.inst) (R.is_ccr off) (record { same = inst-ccr t (R.kept (off / 4) v) now (R.ccr_channel off) }) (record { same = refl })))))

written : (t : Timer) (off v now div : ℕ) → Left t.inst (R.reg_written t off v now div)
unfolding R.reg_written
written t off v now div =
    either (Left t.inst) (eqb off 0x00) (record { same = inst-cr1 t v now div })
    (either (Left t.inst) (eqb off 0x04) (record { same = refl })
    (either (Left t.inst) (eqb off 0x08) (record { same = refl })
    (either (Left t.inst) (eqb off 0x0c) (record { same = refl })
    (either (Left t.inst) (eqb off 0x10) (record { same = refl })
    (either (Left t.inst) (eqb off 0x14) (record { same = inst-egr t v now div })
    (either (Left t.inst) (eqb off 0x24) (record { same = inst-cnt t (R.kept 9 v) now })
    (either (Left t.inst) (eqb off 0x28) (record { same = refl })
    (either (Left t.inst) (eqb off 0x2c) (record { same = inst-arr t (R.kept 11 v) now }) (channel t v now off)))))))))

pub inst-written : (t : Timer) (off v now div : ℕ) → (R.reg_written t off v now div).timer.inst ≡ t.inst
inst-written t off v now div = (written t off v now div).same
