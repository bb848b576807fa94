-- A write of any register at a cycle where nothing is due is the machine's, by the port's rules. Assumes nothing.
use Prim.Native.Nat.{ℕ, ◌≤◌, ◌/◌}
use mathlib.Core.Path.{◌≡◌, refl, sym, ap, ◌∙◌, subst}
use mathlib.Core.Bool.{Bool, true, false, cond}
use mathlib.Core.Logic.{◌⊎◌, inl, inr}
use lib.Dec.{eqb}
use lib.Bits.{bit_and}
use Rattle.rm0440.specs.Bits.{ARPE}
use Rattle.rm0440.specs.Output as Out
use Rattle.rm0440.specs.Rules.{port_rules}
use Rattle.rm0440.specs.State as M
use Rattle.rm0440.specs.Clock.{matched}
use Rattle.rm0440.specs.Write as W
use Rattle.rm0440.specs.Write.{is_ccr, ccr_channel, write_cr1, write_egr, write_cnt, stored_arr, write_arr, write_ccmr, stored_ccr, write_ccr, write_channel, write}
use Rattle.tim.specs.declared.Timer.{Timer}
use Rattle.tim.specs.declared.Inst.{Inst}
use Rattle.tim.proofs.Fixed.{inst-synced}
use Rattle.tim.specs.Timer.{max, with_regs, ccmr_byte}
use Rattle.tim.specs.Count.{cnt_at, synced}
use Rattle.tim.specs.Next as N
use Rattle.regs.specs.declared.Written.{Written}
use Rattle.regs.specs.Regs as R
use Rattle.follows.specs.Seen.{seen, Timed, Within, due_by}
use Rattle.follows.proofs.Leap.{Silent, matched-none}
use Rattle.follows.proofs.Standing.{Near, Stands, stands}
use Rattle.follows.proofs.Acting.{new_arr, new_ccr, acts-cnt, acts-ccmr, acts-arr, acts-ccr}
use Rattle.follows.proofs.Control.{acts-cr1}
use Rattle.follows.proofs.Generated.{acts-egr}
use Rattle.follows.proofs.Ports as P
use Rattle.follows.proofs.Delivered.{silent}

-- x is what the machine's write leaves, u what the port's does: the same but for the matches that a delivery at now finds
pub record Done (p : Bool) (div now : ℕ) (x : M.Timer) (u : Timer) : Type 0 where
  pub same : x ≡ matched (port_rules p) (seen u div now)
  pub settled : Near u now ⊎ (due_by (N.next_event u) now ≡ false)

module _ (p : Bool) (t : Timer) (is : t.inst.manual ≡ p) (div : ℕ) (w : Timed t div) (h : Within t) (now : ℕ) (b : t.count.base ≤ now) (d : due_by (N.next_event t) now ≡ false) where
  abbrev Ok : M.Timer → Timer → Type 0
  Ok x u = Done p div now x u

  abbrev s : M.Timer
  s = seen t div now

  mute : Silent (port_rules p) s
  mute = silent p t is div w h now b d

  -- ---- registers that are only stored

  abbrev with6 : ℕ → ℕ → ℕ → ℕ → ℕ → ℕ → Timer
  with6 a e c f g p = with_regs t (record { cr1 = t.regs.cr1; cr2 = a; smcr = e; dier = c; sr = f; ccer = g; psc = p; arr = t.regs.arr })

  stored : (a e c f g k : ℕ) → Ok (seen (with6 a e c f g k) div now) (with6 a e c f g k)
  unfolding cnt_at N.next_event N.next_steps N.consider N.compares
  stored a e c f g k = record {
    same = sym (matched-none (port_rules p) (seen (with6 a e c f g k) div now) (record { q0 = mute.q0; q1 = mute.q1; q2 = mute.q2; q3 = mute.q3 }));
    settled = inr d;
  }

  -- ---- registers that synchronize

  abbrev y : Timer
  y = synced t now

  st : Stands t div now y
  st = stands t div w now

  is_y : y.inst.manual ≡ p
  is_y = ap (λ (i : Inst). i.manual) (inst-synced t now) ∙ is

  mute-y : Silent (port_rules p) (seen y div now)
  mute-y = subst (Silent (port_rules p)) (sym st.shown) mute

  cr1 : (v : ℕ) → Within (R.cr1_written t v now div) → Ok (write_cr1 (port_rules p) v s) (R.cr1_written t v now div)
  cr1 v q =
      subst (Ok (write_cr1 (port_rules p) v s)) (sym (P.cr1-port t div w now v)) (record {
        same = ap (write_cr1 (port_rules p) v) (sym st.shown) ∙ acts-cr1 p y is_y v now div st.near st.here st.within st.timed.halted (subst Within (P.cr1-port t div w now v) q);
        settled = inl (P.cr1-fine t div w now b v).near;
      })

  egr : (v : ℕ) → Ok (write_egr (port_rules p) v s) (R.egr_written t v now div)
  egr v =
      subst (Ok (write_egr (port_rules p) v s)) (sym (P.egr-port t div w now v)) (record {
        same = ap (write_egr (port_rules p) v) (sym st.shown) ∙ acts-egr p y v now div mute-y;
        settled = inl (P.egr-fine t div w now b v).near;
      })

  cnt : (v : ℕ) → Within (R.cnt_written t v now) → Ok (write_cnt (port_rules p) v s) (R.cnt_written t v now)
  cnt v q =
      subst (Ok (write_cnt (port_rules p) v s)) (sym (P.cnt-port t div w now v)) (record {
        same = ap (write_cnt (port_rules p) v) (sym st.shown) ∙ acts-cnt p y is_y div now v (subst Within (P.cnt-port t div w now v) q);
        settled = inl (P.cnt-fine t div w now b v).near;
      })

  -- ARR: kept for the next update, or in use at once
  waits-arr : (v : ℕ) → Ok (stored_arr v (seen y div now)) (R.with_arr y (bit_and v (max y)))
  unfolding cnt_at
  waits-arr v = record {
    same = sym (matched-none (port_rules p) (seen (R.with_arr y (bit_and v (max y))) div now) (record { q0 = mute-y.q0; q1 = mute-y.q1; q2 = mute-y.q2; q3 = mute-y.q3 }));
    settled = inl st.near;
  }

  arr-waits : (v : ℕ) → ARPE y.regs.cr1 ≡ true → write_arr (port_rules p) v (seen y div now) ≡ stored_arr v (seen y div now)
  unfolding write_arr
  arr-waits v e = rw e

  arr-y : (v : ℕ) (a : Bool) → ARPE y.regs.cr1 ≡ a → Within (cond a (R.with_arr y (bit_and v (max y))) (new_arr y div now v))
      → Ok (write_arr (port_rules p) v (seen y div now)) (cond a (R.with_arr y (bit_and v (max y))) (new_arr y div now v))
  arr-y v true e q = subst (λ (x : M.Timer). Ok x (R.with_arr y (bit_and v (max y)))) (sym (arr-waits v e)) (waits-arr v)
  arr-y v false e q = record {
    same = acts-arr p y is_y div now st.near st.here st.fresh v e q;
    settled = inl (P.arr-fine t div w now b v false).near;
  }

  arr : (v : ℕ) → Within (R.arr_written t v now).timer → Ok (write_arr (port_rules p) v s) (R.arr_written t v now).timer
  arr v q =
      subst (Ok (write_arr (port_rules p) v s)) (sym (P.arr-port t div w now v))
      (subst (λ (x : M.Timer). Ok (write_arr (port_rules p) v x) (P.arr_of t div w now y v)) st.shown (arr-y v (ARPE y.regs.cr1) refl (subst Within (P.arr-port t div w now v) q)))

  -- CCMRx
  ccmr-y : (i v : ℕ) → Ok (write_ccmr (port_rules p) i v (seen y div now)) (R.with_ccmr y i v)
  ccmr-y i v = record {
    same = acts-ccmr p y is_y div now i v;
    settled = inl st.near;
  }

  ccmr : (i v : ℕ) → Ok (write_ccmr (port_rules p) i v s) (R.ccmr_written t i v now).timer
  ccmr i v = subst (Ok (write_ccmr (port_rules p) i v s)) (sym (P.ccmr-port t div w now i v)) (subst (λ (x : M.Timer). Ok (write_ccmr (port_rules p) i v x) (R.with_ccmr y i v)) st.shown (ccmr-y i v))

  -- CCRx: kept for the next update, or in use at once
  waits-ccr : (ch v : ℕ) → Ok (stored_ccr ch v (seen y div now)) (R.with_ccr y ch (bit_and v (max y)))
  unfolding cnt_at
  waits-ccr ch v = record {
    same = sym (matched-none (port_rules p) (seen (R.with_ccr y ch (bit_and v (max y))) div now) (record { q0 = mute-y.q0; q1 = mute-y.q1; q2 = mute-y.q2; q3 = mute-y.q3 }));
    settled = inl st.near;
  }

  ccr-waits : (ch v : ℕ) → Out.OCxPE (ccmr_byte y ch) ≡ true → write_ccr (port_rules p) ch v (seen y div now) ≡ stored_ccr ch v (seen y div now)
  unfolding write_ccr
  ccr-waits ch v e = rw e

  ccr-y : (ch v : ℕ) (a : Bool) → Out.OCxPE (ccmr_byte y ch) ≡ a → Ok (write_ccr (port_rules p) ch v (seen y div now)) (cond a (R.with_ccr y ch (bit_and v (max y))) (new_ccr y div now ch v))
  ccr-y ch v true e = subst (λ (x : M.Timer). Ok x (R.with_ccr y ch (bit_and v (max y)))) (sym (ccr-waits ch v e)) (waits-ccr ch v)
  ccr-y ch v false e = record {
    same = acts-ccr p y is_y div now st.near st.here st.fresh ch v e;
    settled = inl st.near;
  }

  ccr : (ch v : ℕ) → Ok (write_ccr (port_rules p) ch v s) (R.ccr_written t ch v now).timer
  ccr ch v =
      subst (Ok (write_ccr (port_rules p) ch v s)) (sym (P.ccr-port t div w now ch v))
      (subst (λ (x : M.Timer). Ok (write_ccr (port_rules p) ch v x) (P.ccr_of t div w now y ch v)) st.shown (ccr-y ch v (Out.OCxPE (ccmr_byte y ch)) refl))

  -- ---- any register

  -- of the writes that the offset selects
  abbrev Goes : M.Timer → Written → Type 0
  Goes x p = Within p.timer → Ok x p.timer

  five : (c0 c1 c2 c3 c4 : Bool) (x0 x1 x2 x3 x4 x5 : M.Timer) (p0 p1 p2 p3 p4 p5 : Written)
      → Goes x0 p0 → Goes x1 p1 → Goes x2 p2 → Goes x3 p3 → Goes x4 p4 → Goes x5 p5
      → Goes (cond c0 x0 (cond c1 x1 (cond c2 x2 (cond c3 x3 (cond c4 x4 x5))))) (cond c0 p0 (cond c1 p1 (cond c2 p2 (cond c3 p3 (cond c4 p4 p5)))))
  five true c1 c2 c3 c4 x0 x1 x2 x3 x4 x5 p0 p1 p2 p3 p4 p5 g0 g1 g2 g3 g4 g5 = g0
  five false true c2 c3 c4 x0 x1 x2 x3 x4 x5 p0 p1 p2 p3 p4 p5 g0 g1 g2 g3 g4 g5 = g1
  five false false true c3 c4 x0 x1 x2 x3 x4 x5 p0 p1 p2 p3 p4 p5 g0 g1 g2 g3 g4 g5 = g2
  five false false false true c4 x0 x1 x2 x3 x4 x5 p0 p1 p2 p3 p4 p5 g0 g1 g2 g3 g4 g5 = g3
  five false false false false true x0 x1 x2 x3 x4 x5 p0 p1 p2 p3 p4 p5 g0 g1 g2 g3 g4 g5 = g4
  five false false false false false x0 x1 x2 x3 x4 x5 p0 p1 p2 p3 p4 p5 g0 g1 g2 g3 g4 g5 = g5

  unchanged : Ok s t
  unchanged = record { same = sym (matched-none (port_rules p) s mute); settled = inr d }

  ccer : (v : ℕ) → Ok (W.stored 8 v s) (R.ccer_written t v now).timer
  unfolding cnt_at R.ccer_written
  ccer v = stored t.regs.cr2 t.regs.smcr t.regs.dier t.regs.sr v t.regs.psc

  channel : (off v : ℕ) → Goes (write_channel (port_rules p) off v s) (R.channel_written t off v now)
  unfolding write_channel R.channel_written
  channel off v =
      five (eqb t.inst.channels 0) (eqb off 0x18) (eqb off 0x1c) (eqb off 0x20) (is_ccr off)
      s (write_ccmr (port_rules p) 0 (R.kept 6 v) s) (write_ccmr (port_rules p) 1 (R.kept 7 v) s) (W.stored 8 (R.kept 8 v) s) (write_ccr (port_rules p) (ccr_channel off) (R.kept (off / 4) v) s) s
      (R.only t) (R.ccmr_written t 0 (R.kept 6 v) now) (R.ccmr_written t 1 (R.kept 7 v) now) (R.ccer_written t (R.kept 8 v) now) (R.ccr_written t (R.ccr_channel off) (R.kept (off / 4) v) now) (R.only t)
      (λ k. unchanged) (λ k. ccmr 0 (R.kept 6 v)) (λ k. ccmr 1 (R.kept 7 v)) (λ k. ccer (R.kept 8 v)) (λ k. ccr (ccr_channel off) (R.kept (off / 4) v)) (λ k. unchanged)

  -- CR2, SMCR, DIER, SR and PSC
  cr2 : (v : ℕ) → Ok (W.stored 1 v s) (R.with_cr2 t v)
  unfolding cnt_at
  cr2 v = stored v t.regs.smcr t.regs.dier t.regs.sr t.regs.ccer t.regs.psc

  smcr : (v : ℕ) → Ok (W.stored 2 v s) (R.with_smcr t v)
  unfolding cnt_at
  smcr v = stored t.regs.cr2 v t.regs.dier t.regs.sr t.regs.ccer t.regs.psc

  dier : (v : ℕ) → Ok (W.stored 3 v s) (R.with_dier t v)
  unfolding cnt_at
  dier v = stored t.regs.cr2 t.regs.smcr v t.regs.sr t.regs.ccer t.regs.psc

  sr : (v : ℕ) → Ok (W.write_sr v s) (R.with_sr t (R.kept_sr t.regs.sr v))
  unfolding cnt_at
  sr v = stored t.regs.cr2 t.regs.smcr t.regs.dier (R.kept_sr t.regs.sr v) t.regs.ccer t.regs.psc

  psc : (v : ℕ) → Ok (W.stored 10 v s) (R.with_psc t v)
  unfolding cnt_at
  psc v = stored t.regs.cr2 t.regs.smcr t.regs.dier t.regs.sr t.regs.ccer v

  nine : (c0 c1 c2 c3 c4 c5 c6 c7 c8 : Bool) (x0 x1 x2 x3 x4 x5 x6 x7 x8 x9 : M.Timer) (p0 p1 p2 p3 p4 p5 p6 p7 p8 p9 : Written)
      → Goes x0 p0 → Goes x1 p1 → Goes x2 p2 → Goes x3 p3 → Goes x4 p4 → Goes x5 p5 → Goes x6 p6 → Goes x7 p7 → Goes x8 p8 → Goes x9 p9
      → Goes (cond c0 x0 (cond c1 x1 (cond c2 x2 (cond c3 x3 (cond c4 x4 (cond c5 x5 (cond c6 x6 (cond c7 x7 (cond c8 x8 x9)))))))))
      (cond c0 p0 (cond c1 p1 (cond c2 p2 (cond c3 p3 (cond c4 p4 (cond c5 p5 (cond c6 p6 (cond c7 p7 (cond c8 p8 p9)))))))))
  nine true c1 c2 c3 c4 c5 c6 c7 c8 x0 x1 x2 x3 x4 x5 x6 x7 x8 x9 p0 p1 p2 p3 p4 p5 p6 p7 p8 p9 g0 g1 g2 g3 g4 g5 g6 g7 g8 g9 = g0
  nine false true c2 c3 c4 c5 c6 c7 c8 x0 x1 x2 x3 x4 x5 x6 x7 x8 x9 p0 p1 p2 p3 p4 p5 p6 p7 p8 p9 g0 g1 g2 g3 g4 g5 g6 g7 g8 g9 = g1
  nine false false true c3 c4 c5 c6 c7 c8 x0 x1 x2 x3 x4 x5 x6 x7 x8 x9 p0 p1 p2 p3 p4 p5 p6 p7 p8 p9 g0 g1 g2 g3 g4 g5 g6 g7 g8 g9 = g2
  nine false false false true c4 c5 c6 c7 c8 x0 x1 x2 x3 x4 x5 x6 x7 x8 x9 p0 p1 p2 p3 p4 p5 p6 p7 p8 p9 g0 g1 g2 g3 g4 g5 g6 g7 g8 g9 = g3
  nine false false false false c4 c5 c6 c7 c8 x0 x1 x2 x3 x4 x5 x6 x7 x8 x9 p0 p1 p2 p3 p4 p5 p6 p7 p8 p9 g0 g1 g2 g3 g4 g5 g6 g7 g8 g9 =
      five c4 c5 c6 c7 c8 x4 x5 x6 x7 x8 x9 p4 p5 p6 p7 p8 p9 g4 g5 g6 g7 g8 g9

  pub writes : (off v : ℕ) → Within (R.reg_written t off v now div).timer → Ok (write (port_rules p) off v s) (R.reg_written t off v now div).timer
  unfolding write R.reg_written
  writes off v =
      nine (eqb off 0x00) (eqb off 0x04) (eqb off 0x08) (eqb off 0x0c) (eqb off 0x10) (eqb off 0x14) (eqb off 0x24) (eqb off 0x28) (eqb off 0x2c)
      (write_cr1 (port_rules p) v s) (W.stored 1 (R.kept 1 v) s) (W.stored 2 (R.kept 2 v) s) (W.stored 3 (R.kept 3 v) s) (W.write_sr v s) (write_egr (port_rules p) v s) (write_cnt (port_rules p) (R.kept 9 v) s)
      (W.stored 10 (R.kept 10 v) s) (write_arr (port_rules p) (R.kept 11 v) s) (write_channel (port_rules p) off v s)
      (R.booked (R.cr1_written t v now div)) (R.only (R.with_cr2 t (R.kept 1 v))) (R.only (R.with_smcr t (R.kept 2 v))) (R.lined (R.with_dier t (R.kept 3 v)))
      (R.lined (R.with_sr t (R.kept_sr t.regs.sr v))) (R.generated (R.egr_written t v now div) now) (R.counted (R.cnt_written t (R.kept 9 v) now))
      (R.only (R.with_psc t (R.kept 10 v))) (R.arr_written t (R.kept 11 v) now) (R.channel_written t off v now)
      (cr1 v) (λ k. cr2 (R.kept 1 v)) (λ k. smcr (R.kept 2 v)) (λ k. dier (R.kept 3 v)) (λ k. sr v) (λ k. egr v) (cnt (R.kept 9 v)) (λ k. psc (R.kept 10 v)) (arr (R.kept 11 v)) (channel off v)
