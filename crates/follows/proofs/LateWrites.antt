-- A write at any cycle, with events due or not, is the machine's write of what is seen there. Assumes nothing.
use Prim.Native.Nat.{ℕ, ◌≤◌, ◌/◌}
use mathlib.Core.Path.{◌≡◌, refl, sym, ap, ◌∙◌, subst}
use mathlib.Core.Bool.{Bool, true, false, cond, not}
use native.Mathlib.Omega.{arith}
use lib.Dec.{eqb}
use lib.Bits.{bit_and}
use Rattle.rm0440.specs.Bits.{is_set, ARPE}
use Rattle.rm0440.specs.Output as Out
use Rattle.rm0440.specs.State as M
use Rattle.rm0440.specs.Clock.{matched}
use Rattle.rm0440.specs.Write as W
use Rattle.rm0440.specs.Write.{is_ccr, ccr_channel, generated_cc, write_cr1, write_egr, write_cnt, stored_arr, write_arr, write_ccmr, stored_ccr, write_ccr, write_channel, write}
use Rattle.tim.specs.declared.Timer.{Timer}
use Rattle.tim.specs.declared.Inst.{Inst}
use Rattle.tim.proofs.Fixed.{inst-synced}
use Rattle.tim.specs.Timer.{max, with_regs, ccmr_byte}
use Rattle.tim.specs.Count.{cnt_at, synced}
use Rattle.tim.specs.Change as T
use Rattle.regs.specs.declared.Written.{Written}
use Rattle.regs.specs.Regs as R
use Rattle.follows.specs.Seen.{seen, rules_of, Timed, Within}
use Rattle.follows.specs.Follows.{acts_channel, acts}
use Rattle.follows.proofs.Standing.{Near, Stands, stands}
use Rattle.follows.proofs.Acting.{new_arr, new_ccr, acts-cnt, acts-ccmr, acts-arr, acts-ccr}
use Rattle.follows.proofs.Control.{acts-cr1}
use Rattle.follows.proofs.Generated.{four, new_egr, ug-seen, four-seen}
use Rattle.follows.proofs.Ports as P

module _ (t : Timer) (div : ℕ) (w : Timed t div) (now : ℕ) (b : t.count.base ≤ now) where
  -- x is what the machine's write leaves, u what the port's does: where the write acts, but for the matches that a delivery at now finds
  pub record Leaves (a : Bool) (x : M.Timer) (u : Timer) : Type 0 where
    pub same : x ≡ cond a (matched (rules_of t) (seen u div now)) (seen u div now)
    pub near : a ≡ true → Near u now

  never : {A : Type 0} → false ≡ true → A
  never e = absurd (let z : ◌≡◌ {A = ℕ} 0 1 = cc in omega arith)

  abbrev s : M.Timer
  s = seen t div now

  abbrev y : Timer
  y = synced t now

  st : Stands t div now y
  st = stands t div w now

  is_y : y.inst.manual ≡ t.inst.manual
  is_y = ap (λ (i : Inst). i.manual) (inst-synced t now)

  acting : (x : M.Timer) (u : Timer) → x ≡ matched (rules_of t) (seen u div now) → Near u now → Leaves true x u
  acting x u e n = record { same = e; near = λ _. n }

  waiting : (x : M.Timer) (u : Timer) → x ≡ seen u div now → Leaves false x u
  waiting x u e = record { same = e; near = never }

  -- ---- registers that are only stored

  abbrev with6 : ℕ → ℕ → ℕ → ℕ → ℕ → ℕ → Timer
  with6 a e c f g p = with_regs t (record { cr1 = t.regs.cr1; cr2 = a; smcr = e; dier = c; sr = f; ccer = g; psc = p; arr = t.regs.arr })

  stored : (a e c f g p : ℕ) → Leaves false (seen (with6 a e c f g p) div now) (with6 a e c f g p)
  stored a e c f g p = waiting (seen (with6 a e c f g p) div now) (with6 a e c f g p) refl

  -- ---- registers that synchronize

  cr1 : (v : ℕ) → Within (R.cr1_written t v now div) → Leaves true (write_cr1 (rules_of t) v s) (R.cr1_written t v now div)
  cr1 v q =
      subst (Leaves true (write_cr1 (rules_of t) v s)) (sym (P.cr1-port t div w now v))
      (acting (write_cr1 (rules_of t) v s) _
      (ap (write_cr1 (rules_of t) v) (sym st.shown) ∙ acts-cr1 t.inst.manual y is_y v now div st.near st.here st.within st.timed.halted (subst Within (P.cr1-port t div w now v) q))
      (P.cr1-fine t div w now b v).near)

  cnt : (v : ℕ) → Within (R.cnt_written t v now) → Leaves true (write_cnt (rules_of t) v s) (R.cnt_written t v now)
  cnt v q =
      subst (Leaves true (write_cnt (rules_of t) v s)) (sym (P.cnt-port t div w now v))
      (acting (write_cnt (rules_of t) v s) _ (ap (write_cnt (rules_of t) v) (sym st.shown) ∙ acts-cnt t.inst.manual y is_y div now v (subst Within (P.cnt-port t div w now v) q)) (P.cnt-fine t div w now b v).near)

  -- EGR: UG acts; without it a flag is stored
  egr-y : (v : ℕ) → Leaves (is_set 0 v) (write_egr (rules_of t) v (seen y div now)) (new_egr y v now div)
  unfolding write_egr
  egr-y v = go (is_set 0 v) refl
    where
      go : (g : Bool) → is_set 0 v ≡ g → Leaves g (cond g (matched (rules_of t) (generated_cc (rules_of t) v (W.generated (rules_of t) (seen y div now)))) (generated_cc (rules_of t) v (seen y div now)))
          (four v (cond g (T.generated y now div) y))
      go true e =
          acting _ (four v (T.generated y now div)) (ap (matched (rules_of t)) (sym (four-seen t.inst.manual v (T.generated y now div) div now ∙ ap (generated_cc (rules_of t) v) (ug-seen t.inst.manual y now div))))
          (subst (λ (g : Bool). Near (four v (cond g (T.generated y now div) y)) now) e (P.egr-fine t div w now b v).near)
      go false e = waiting _ _ (sym (four-seen t.inst.manual v y div now))

  egr : (v : ℕ) → Leaves (is_set 0 v) (write_egr (rules_of t) v s) (R.egr_written t v now div)
  egr v =
      subst (Leaves (is_set 0 v) (write_egr (rules_of t) v s)) (sym (P.egr-port t div w now v))
      (subst (λ (x : M.Timer). Leaves (is_set 0 v) (write_egr (rules_of t) v x) (new_egr y v now div)) st.shown (egr-y v))

  -- ARR: kept for the next update, or in use at once
  arr-waits : (v : ℕ) → ARPE y.regs.cr1 ≡ true → write_arr (rules_of t) v (seen y div now) ≡ seen (R.with_arr y (bit_and v (max y))) div now
  unfolding write_arr cnt_at
  arr-waits v e = rw e

  arr-y : (v : ℕ) (a : Bool) → ARPE y.regs.cr1 ≡ a → Within (cond a (R.with_arr y (bit_and v (max y))) (new_arr y div now v))
      → Leaves (not a) (write_arr (rules_of t) v (seen y div now)) (cond a (R.with_arr y (bit_and v (max y))) (new_arr y div now v))
  arr-y v true e q = waiting _ _ (arr-waits v e)
  arr-y v false e q = acting _ _ (acts-arr t.inst.manual y is_y div now st.near st.here st.fresh v e q) (P.arr-fine t div w now b v false).near

  arr : (v : ℕ) → Within (R.arr_written t v now).timer → Leaves (not (ARPE t.regs.cr1)) (write_arr (rules_of t) v s) (R.arr_written t v now).timer
  arr v q =
      subst (Leaves (not (ARPE t.regs.cr1)) (write_arr (rules_of t) v s)) (sym (P.arr-port t div w now v))
      (subst (λ (x : M.Timer). Leaves (not (ARPE x.cr1)) (write_arr (rules_of t) v x) (P.arr_of t div w now y v)) st.shown
      (arr-y v (ARPE y.regs.cr1) refl (subst Within (P.arr-port t div w now v) q)))

  -- CCMRx
  ccmr : (i v : ℕ) → Leaves true (write_ccmr (rules_of t) i v s) (R.ccmr_written t i v now).timer
  ccmr i v =
      subst (Leaves true (write_ccmr (rules_of t) i v s)) (sym (P.ccmr-port t div w now i v))
      (subst (λ (x : M.Timer). Leaves true (write_ccmr (rules_of t) i v x) (R.with_ccmr y i v)) st.shown (acting _ _ (acts-ccmr t.inst.manual y is_y div now i v) st.near))

  -- CCRx: kept for the next update, or in use at once
  ccr-waits : (ch v : ℕ) → Out.OCxPE (ccmr_byte y ch) ≡ true → write_ccr (rules_of t) ch v (seen y div now) ≡ seen (R.with_ccr y ch (bit_and v (max y))) div now
  unfolding write_ccr cnt_at
  ccr-waits ch v e = rw e

  ccr-y : (ch v : ℕ) (a : Bool) → Out.OCxPE (ccmr_byte y ch) ≡ a
      → Leaves (not a) (write_ccr (rules_of t) ch v (seen y div now)) (cond a (R.with_ccr y ch (bit_and v (max y))) (new_ccr y div now ch v))
  ccr-y ch v true e = waiting _ _ (ccr-waits ch v e)
  ccr-y ch v false e = acting _ _ (acts-ccr t.inst.manual y is_y div now st.near st.here st.fresh ch v e) st.near

  ccr : (ch v : ℕ) → Leaves (not (Out.OCxPE (ccmr_byte t ch))) (write_ccr (rules_of t) ch v s) (R.ccr_written t ch v now).timer
  ccr ch v =
      subst (Leaves (not (Out.OCxPE (ccmr_byte t ch))) (write_ccr (rules_of t) ch v s)) (sym (P.ccr-port t div w now ch v))
      (subst (λ (x : M.Timer). Leaves (not (Out.OCxPE (M.byte x ch))) (write_ccr (rules_of t) ch v x) (P.ccr_of t div w now y ch v)) st.shown (ccr-y ch v (Out.OCxPE (ccmr_byte y ch)) refl))

  -- ---- any register

  -- of the writes that the offset selects
  abbrev Goes : Bool → M.Timer → Written → Type 0
  Goes a x p = Within p.timer → Leaves a x p.timer

  five : (c0 c1 c2 c3 c4 : Bool) (a0 a1 a2 a3 a4 a5 : Bool) (x0 x1 x2 x3 x4 x5 : M.Timer) (p0 p1 p2 p3 p4 p5 : Written)
      → Goes a0 x0 p0 → Goes a1 x1 p1 → Goes a2 x2 p2 → Goes a3 x3 p3 → Goes a4 x4 p4 → Goes a5 x5 p5
      → Goes (cond c0 a0 (cond c1 a1 (cond c2 a2 (cond c3 a3 (cond c4 a4 a5))))) (cond c0 x0 (cond c1 x1 (cond c2 x2 (cond c3 x3 (cond c4 x4 x5))))) (cond c0 p0 (cond c1 p1 (cond c2 p2 (cond c3 p3 (cond c4 p4 p5)))))
  five true c1 c2 c3 c4 a0 a1 a2 a3 a4 a5 x0 x1 x2 x3 x4 x5 p0 p1 p2 p3 p4 p5 g0 g1 g2 g3 g4 g5 = g0
  five false true c2 c3 c4 a0 a1 a2 a3 a4 a5 x0 x1 x2 x3 x4 x5 p0 p1 p2 p3 p4 p5 g0 g1 g2 g3 g4 g5 = g1
  five false false true c3 c4 a0 a1 a2 a3 a4 a5 x0 x1 x2 x3 x4 x5 p0 p1 p2 p3 p4 p5 g0 g1 g2 g3 g4 g5 = g2
  five false false false true c4 a0 a1 a2 a3 a4 a5 x0 x1 x2 x3 x4 x5 p0 p1 p2 p3 p4 p5 g0 g1 g2 g3 g4 g5 = g3
  five false false false false true a0 a1 a2 a3 a4 a5 x0 x1 x2 x3 x4 x5 p0 p1 p2 p3 p4 p5 g0 g1 g2 g3 g4 g5 = g4
  five false false false false false a0 a1 a2 a3 a4 a5 x0 x1 x2 x3 x4 x5 p0 p1 p2 p3 p4 p5 g0 g1 g2 g3 g4 g5 = g5

  unchanged : Leaves false s t
  unchanged = waiting s t refl

  ccer : (v : ℕ) → Leaves false (W.stored 8 v s) (R.ccer_written t v now).timer
  unfolding cnt_at R.ccer_written
  ccer v = stored t.regs.cr2 t.regs.smcr t.regs.dier t.regs.sr v t.regs.psc

  channel : (off v : ℕ) → Goes (acts_channel off s) (write_channel (rules_of t) off v s) (R.channel_written t off v now)
  unfolding write_channel R.channel_written
  channel off v =
      five (eqb t.inst.channels 0) (eqb off 0x18) (eqb off 0x1c) (eqb off 0x20) (is_ccr off) false true true false (not (Out.OCxPE (M.byte s (ccr_channel off)))) false
      s (write_ccmr (rules_of t) 0 (R.kept 6 v) s) (write_ccmr (rules_of t) 1 (R.kept 7 v) s) (W.stored 8 (R.kept 8 v) s) (write_ccr (rules_of t) (ccr_channel off) (R.kept (off / 4) v) s) s
      (R.only t) (R.ccmr_written t 0 (R.kept 6 v) now) (R.ccmr_written t 1 (R.kept 7 v) now) (R.ccer_written t (R.kept 8 v) now) (R.ccr_written t (R.ccr_channel off) (R.kept (off / 4) v) now) (R.only t)
      (λ k. unchanged) (λ k. ccmr 0 (R.kept 6 v)) (λ k. ccmr 1 (R.kept 7 v)) (λ k. ccer (R.kept 8 v)) (λ k. ccr (ccr_channel off) (R.kept (off / 4) v)) (λ k. unchanged)

  -- CR2, SMCR, DIER, SR and PSC
  cr2 : (v : ℕ) → Leaves false (W.stored 1 v s) (R.with_cr2 t v)
  unfolding cnt_at
  cr2 v = stored v t.regs.smcr t.regs.dier t.regs.sr t.regs.ccer t.regs.psc

  smcr : (v : ℕ) → Leaves false (W.stored 2 v s) (R.with_smcr t v)
  unfolding cnt_at
  smcr v = stored t.regs.cr2 v t.regs.dier t.regs.sr t.regs.ccer t.regs.psc

  dier : (v : ℕ) → Leaves false (W.stored 3 v s) (R.with_dier t v)
  unfolding cnt_at
  dier v = stored t.regs.cr2 t.regs.smcr v t.regs.sr t.regs.ccer t.regs.psc

  sr : (v : ℕ) → Leaves false (W.write_sr v s) (R.with_sr t (R.kept_sr t.regs.sr v))
  unfolding cnt_at
  sr v = stored t.regs.cr2 t.regs.smcr t.regs.dier (R.kept_sr t.regs.sr v) t.regs.ccer t.regs.psc

  psc : (v : ℕ) → Leaves false (W.stored 10 v s) (R.with_psc t v)
  unfolding cnt_at
  psc v = stored t.regs.cr2 t.regs.smcr t.regs.dier t.regs.sr t.regs.ccer v

  nine : (c0 c1 c2 c3 c4 c5 c6 c7 c8 : Bool) (a0 a1 a2 a3 a4 a5 a6 a7 a8 a9 : Bool) (x0 x1 x2 x3 x4 x5 x6 x7 x8 x9 : M.Timer) (p0 p1 p2 p3 p4 p5 p6 p7 p8 p9 : Written)
      → Goes a0 x0 p0 → Goes a1 x1 p1 → Goes a2 x2 p2 → Goes a3 x3 p3 → Goes a4 x4 p4 → Goes a5 x5 p5 → Goes a6 x6 p6 → Goes a7 x7 p7 → Goes a8 x8 p8 → Goes a9 x9 p9
      → Goes (cond c0 a0 (cond c1 a1 (cond c2 a2 (cond c3 a3 (cond c4 a4 (cond c5 a5 (cond c6 a6 (cond c7 a7 (cond c8 a8 a9)))))))))
      (cond c0 x0 (cond c1 x1 (cond c2 x2 (cond c3 x3 (cond c4 x4 (cond c5 x5 (cond c6 x6 (cond c7 x7 (cond c8 x8 x9)))))))))
      (cond c0 p0 (cond c1 p1 (cond c2 p2 (cond c3 p3 (cond c4 p4 (cond c5 p5 (cond c6 p6 (cond c7 p7 (cond c8 p8 p9)))))))))
  nine true c1 c2 c3 c4 c5 c6 c7 c8 a0 a1 a2 a3 a4 a5 a6 a7 a8 a9 x0 x1 x2 x3 x4 x5 x6 x7 x8 x9 p0 p1 p2 p3 p4 p5 p6 p7 p8 p9 g0 g1 g2 g3 g4 g5 g6 g7 g8 g9 = g0
  nine false true c2 c3 c4 c5 c6 c7 c8 a0 a1 a2 a3 a4 a5 a6 a7 a8 a9 x0 x1 x2 x3 x4 x5 x6 x7 x8 x9 p0 p1 p2 p3 p4 p5 p6 p7 p8 p9 g0 g1 g2 g3 g4 g5 g6 g7 g8 g9 = g1
  nine false false true c3 c4 c5 c6 c7 c8 a0 a1 a2 a3 a4 a5 a6 a7 a8 a9 x0 x1 x2 x3 x4 x5 x6 x7 x8 x9 p0 p1 p2 p3 p4 p5 p6 p7 p8 p9 g0 g1 g2 g3 g4 g5 g6 g7 g8 g9 = g2
  nine false false false true c4 c5 c6 c7 c8 a0 a1 a2 a3 a4 a5 a6 a7 a8 a9 x0 x1 x2 x3 x4 x5 x6 x7 x8 x9 p0 p1 p2 p3 p4 p5 p6 p7 p8 p9 g0 g1 g2 g3 g4 g5 g6 g7 g8 g9 = g3
  nine false false false false c4 c5 c6 c7 c8 a0 a1 a2 a3 a4 a5 a6 a7 a8 a9 x0 x1 x2 x3 x4 x5 x6 x7 x8 x9 p0 p1 p2 p3 p4 p5 p6 p7 p8 p9 g0 g1 g2 g3 g4 g5 g6 g7 g8 g9 =
      five c4 c5 c6 c7 c8 a4 a5 a6 a7 a8 a9 x4 x5 x6 x7 x8 x9 p4 p5 p6 p7 p8 p9 g4 g5 g6 g7 g8 g9

  pub late-write : (off v : ℕ) → Within (R.reg_written t off v now div).timer → Leaves (acts off v s) (write (rules_of t) off v s) (R.reg_written t off v now div).timer
  unfolding write R.reg_written
  late-write off v =
      nine (eqb off 0x00) (eqb off 0x04) (eqb off 0x08) (eqb off 0x0c) (eqb off 0x10) (eqb off 0x14) (eqb off 0x24) (eqb off 0x28) (eqb off 0x2c)
      true false false false false (is_set 0 v) true false (not (ARPE t.regs.cr1)) (acts_channel off s)
      (write_cr1 (rules_of t) v s) (W.stored 1 (R.kept 1 v) s) (W.stored 2 (R.kept 2 v) s) (W.stored 3 (R.kept 3 v) s) (W.write_sr v s) (write_egr (rules_of t) v s) (write_cnt (rules_of t) (R.kept 9 v) s)
      (W.stored 10 (R.kept 10 v) s) (write_arr (rules_of t) (R.kept 11 v) s) (write_channel (rules_of t) off v s)
      (R.booked (R.cr1_written t v now div)) (R.only (R.with_cr2 t (R.kept 1 v))) (R.only (R.with_smcr t (R.kept 2 v))) (R.lined (R.with_dier t (R.kept 3 v)))
      (R.lined (R.with_sr t (R.kept_sr t.regs.sr v))) (R.generated (R.egr_written t v now div) now) (R.counted (R.cnt_written t (R.kept 9 v) now))
      (R.only (R.with_psc t (R.kept 10 v))) (R.arr_written t (R.kept 11 v) now) (R.channel_written t off v now)
      (cr1 v) (λ k. cr2 (R.kept 1 v)) (λ k. smcr (R.kept 2 v)) (λ k. dier (R.kept 3 v)) (λ k. sr v) (λ k. egr v) (cnt (R.kept 9 v)) (λ k. psc (R.kept 10 v)) (arr (R.kept 11 v)) (channel off v)
