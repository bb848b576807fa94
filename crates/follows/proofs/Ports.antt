-- What the port's writes leave, of the timer synchronized at the write; and that each leaves such a timer again. Assumes nothing.
use Prim.Native.Nat.{ℕ, ◌-◌, ◌/◌, ◌≤◌}
use mathlib.Core.Path.{◌≡◌, refl, sym, ap, ◌∙◌, subst}
use mathlib.Core.Bool.{Bool, true, false, cond}
use native.Mathlib.Nat.{le_refl}
use native.Mathlib.Omega.{arith}
use lib.Dec.{eqb}
use lib.Bits.{bit_and}
use lib.ListN.{length, length-set}
use Rattle.rm0440.specs.Bits.{field, is_set, CEN, ARPE}
use Rattle.rm0440.specs.Counter.{step_cycles}
use Rattle.rm0440.specs.Output as Out
use Rattle.tim.specs.declared.Timer.{Timer}
use Rattle.tim.specs.declared.Count.{Count}
use Rattle.tim.specs.Timer.{max, with_regs, with_count, ccmr_byte, with_cr1}
use Rattle.tim.specs.Count.{cnt_at, synced, at_count}
use Rattle.tim.specs.Change as T
use Rattle.regs.specs.declared.Written.{Written}
use Rattle.regs.specs.Regs as R
use Rattle.stepping.proofs.Agrees.{sync-base}
use Rattle.follows.specs.Seen.{Timed, Left}
use Rattle.follows.proofs.Standing.{either-sync, Near, near_new, Stands, stands}
use Rattle.follows.proofs.Acting.{new_cnt, new_arr, new_ccr}
use Rattle.follows.proofs.Control.{new, port, new_cr1}
use Rattle.follows.proofs.Generated.{flagged_ug, flagged, fresh-base, four, four_is, new_egr}

-- one of a write that synchronizes
pub record Fine (div now : ℕ) (u : Timer) : Type 0 where
  pub left : Left div now u
  pub near : Near u now

-- ---- of a synchronized timer

-- CR1
module _ (y : Timer) (v now div : ℕ) (w : Timed y div) where
  abbrev u : Timer
  u = new y v now div

  -- a write that neither starts nor stops
  pub record Kept (z : Timer) : Type 0 where
    pub count : z.count ≡ y.count
    pub cr1 : z.regs.cr1 ≡ R.kept_cr1 y v
    pub sized : length z.chan.cc_done ≡ 4

  kept : Kept (R.turned y.regs.cr1 u)
  unfolding R.turned T.recomputed
  kept = go (eqb (field 4 1 y.regs.cr1) (field 4 1 (R.kept_cr1 y v)))
    where
      go : (b : Bool) → Kept (cond b u (T.recomputed u))
      go true = record { count = refl; cr1 = refl; sized = w.sized }
      go false = record { count = refl; cr1 = refl; sized = refl }

  timed-kept : (z : Timer) → Kept z → (CEN (R.kept_cr1 y v) ≡ false → y.count.running ≡ false) → Timed z div
  timed-kept z k h = record {
    pos = w.pos;
    timed = ap (λ (c : Count). c.tick) k.count ∙ w.timed ∙ ap (λ (c : Count). step_cycles c.psc_act div) (sym k.count);
    halted = λ e. ap (λ (c : Count). c.running) k.count ∙ h (ap (λ (x : ℕ). CEN x) (sym k.cr1) ∙ e);
    sized = k.sized;
  }

  timed-started : CEN (R.kept_cr1 y v) ≡ true → Timed (T.started u now div) div
  unfolding T.started T.recomputed
  timed-started is = record { pos = w.pos; timed = refl; halted = λ e. absurd (let z : ◌≡◌ {A = ℕ} 0 1 = cc in omega arith); sized = refl }

  timed-stopped : Timed (T.stopped u now) div
  unfolding T.stopped
  timed-stopped =
      either-sync u now (λ (z : Timer). Timed (T.with_running z false) div)
      (λ k b. record { pos = w.pos; timed = w.timed; halted = λ q. refl; sized = w.sized }) (record { pos = w.pos; timed = w.timed; halted = λ q. refl; sized = w.sized })

  stopped-off : (T.stopped u now).count.running ≡ false
  unfolding T.stopped
  stopped-off = refl

  started-base : (T.started u now div).count.base ≡ now
  unfolding T.started T.recomputed
  started-base = refl

  stopped-base : y.count.base ≤ now → (T.stopped u now).count.base ≤ now
  unfolding T.stopped
  stopped-base b = sync-base u now b

  pub fine-cr1 : y.count.base ≤ now → Near y now → Fine div now (new_cr1 y v now div)
  fine-cr1 b near = go (CEN y.regs.cr1) (CEN (R.kept_cr1 y v)) refl refl
    where
      turned : (CEN (R.kept_cr1 y v) ≡ false → y.count.running ≡ false) → Fine div now (R.turned y.regs.cr1 u)
      turned h = record {
        left = record {
          timed = timed-kept (R.turned y.regs.cr1 u) kept h;
          based = subst (λ (c : Count). c.base ≤ now) (sym kept.count) b;
        };
        near = subst (λ (c : Count). c.running ≡ true → (now - c.base) / c.tick ≡ 0) (sym kept.count) near;
      }

      go : (was is : Bool) → CEN y.regs.cr1 ≡ was → CEN (R.kept_cr1 y v) ≡ is → Fine div now (port y v now div was is)
      go true true p q = turned (λ e. absurd (let z : ◌≡◌ {A = ℕ} 0 1 = cc in omega arith))
      go false false p q = turned (λ e. w.halted p)
      go false true p q = record { left = record { timed = timed-started q; based = rw started-base (le_refl now) }; near = near_new (T.started u now div) now started-base }
      go true false p q = record { left = record { timed = timed-stopped; based = stopped-base b }; near = λ r. absurd (let z : ◌≡◌ {A = ℕ} 0 1 = cc stopped-off in omega arith) }

-- CNT, ARR, UG
timed-cnt : (y : Timer) (div now v : ℕ) → Timed y div → Timed (new_cnt y div now v) div
unfolding T.recomputed
timed-cnt y div now v w = record { pos = w.pos; timed = w.timed; halted = w.halted; sized = refl }

cnt-base : (y : Timer) (div now v : ℕ) → (new_cnt y div now v).count.base ≡ now
unfolding T.recomputed
cnt-base y div now v = refl

timed-arr : (y : Timer) (div now v : ℕ) → Timed y div → Timed (new_arr y div now v) div
unfolding T.recomputed
timed-arr y div now v w = record { pos = w.pos; timed = w.timed; halted = w.halted; sized = refl }

arr-near : (y : Timer) (div now v : ℕ) → y.count.base ≤ now → Near y now → ((new_arr y div now v).count.base ≤ now) × Near (new_arr y div now v) now
unfolding T.recomputed
arr-near y div now v b n = (b, n)

timed-ug : (y : Timer) (v now div : ℕ) → Timed y div → Timed (four v (flagged_ug y now div)) div
unfolding T.restarted T.recomputed_after_update
timed-ug y v now div w = record { pos = w.pos; timed = refl; halted = w.halted; sized = refl }

-- ---- of any timer

module _ (t : Timer) (div : ℕ) (w : Timed t div) (now : ℕ) where
  abbrev pub y : Timer
  y = synced t now

  pub st : Stands t div now y
  st = stands t div w now

  pub cr1-port : (v : ℕ) → R.cr1_written t v now div ≡ new_cr1 y v now div
  unfolding R.cr1_written
  cr1-port v =
      either-sync t now (λ (z : Timer). cond (CEN (R.kept_cr1 t v)) (cond (CEN t.regs.cr1) (R.turned t.regs.cr1 (with_cr1 z (R.kept_cr1 t v))) (T.started (with_cr1 z (R.kept_cr1 t v)) now div))
      (cond (CEN t.regs.cr1) (T.stopped (with_cr1 z (R.kept_cr1 t v)) now) (R.turned t.regs.cr1 (with_cr1 z (R.kept_cr1 t v)))) ≡ new_cr1 z v now div) (λ k b. refl) refl

  pub egr-port : (v : ℕ) → R.egr_written t v now div ≡ new_egr y v now div
  unfolding R.egr_written R.egr_update
  egr-port v = four_is v (cond (is_set 0 v) (T.generated y now div) y)

  pub cnt-port : (v : ℕ) → R.cnt_written t v now ≡ new_cnt y div now v
  unfolding R.cnt_written
  cnt-port v =
      either-sync t now (λ (z : Timer). T.recomputed (with_count z (at_count z.count (bit_and v (max t)) now)) ≡ new_cnt z div now v) (λ k b. refl) refl

  abbrev pub arr_of : Timer → ℕ → Timer
  arr_of z v = cond (ARPE z.regs.cr1) (R.with_arr z (bit_and v (max z))) (new_arr z div now v)

  pub arr-port : (v : ℕ) → (R.arr_written t v now).timer ≡ arr_of y v
  unfolding R.arr_written
  arr-port v =
      either-sync t now (λ (z : Timer). (cond (ARPE t.regs.cr1) (R.only (R.with_arr z (bit_and v (max t)))) (R.booked (T.recomputed (R.with_arr_act (R.with_arr z (bit_and v (max t))) (bit_and v (max t)))))).timer ≡ arr_of z v)
      (λ k b. go (ARPE t.regs.cr1) _ _) (go (ARPE t.regs.cr1) _ _)
    where
      go : (a : Bool) (p q : Timer) → (cond a (R.only p) (R.booked q)).timer ≡ cond a p q
      go true p q = refl
      go false p q = refl

  pub ccmr-port : (i v : ℕ) → (R.ccmr_written t i v now).timer ≡ R.with_ccmr y i v
  unfolding R.ccmr_written
  ccmr-port i v = refl

  abbrev pub ccr_of : Timer → ℕ → ℕ → Timer
  ccr_of z ch v = cond (Out.OCxPE (ccmr_byte z ch)) (R.with_ccr z ch (bit_and v (max z))) (new_ccr z div now ch v)

  pub ccr-port : (ch v : ℕ) → (R.ccr_written t ch v now).timer ≡ ccr_of y ch v
  unfolding R.ccr_written
  ccr-port ch v =
      either-sync t now (λ (z : Timer). (cond (Out.OCxPE (ccmr_byte t ch)) (R.only (R.with_ccr z ch (bit_and v (max t))))
      (R.driven (R.settled_channel (R.with_ccr_act (R.with_ccr z ch (bit_and v (max t))) ch (bit_and v (max t))) ch) (cnt_at (R.with_ccr_act (R.with_ccr z ch (bit_and v (max t))) ch (bit_and v (max t))) now) true)).timer ≡ ccr_of z ch v)
      (λ k b. go (Out.OCxPE (ccmr_byte t ch)) _ _ _) (go (Out.OCxPE (ccmr_byte t ch)) _ _ _)
    where
      go : (a : Bool) (p q : Timer) (c : ℕ) → (cond a (R.only p) (R.driven q c true)).timer ≡ cond a p q
      go true p q c = refl
      go false p q c = refl

  -- ---- each leaves such a timer

  module _ (b : t.count.base ≤ now) where
    based : y.count.base ≤ now
    based = sync-base t now b

    pub cr1-fine : (v : ℕ) → Fine div now (new_cr1 y v now div)
    cr1-fine v = fine-cr1 y v now div st.timed based st.near

    egr-done : (v : ℕ) (g : Bool) → Fine div now (four v (cond g (T.generated y now div) y))
    egr-done v false = record {
      left = record { timed = record { pos = st.timed.pos; timed = st.timed.timed; halted = st.timed.halted; sized = st.timed.sized }; based = based };
      near = st.near;
    }
    egr-done v true =
        subst (λ (z : Timer). Fine div now (four v z)) (sym (flagged y now div)) (record {
          left = record { timed = timed-ug y v now div st.timed; based = rw (fresh-base y now div) (le_refl now) };
          near = near_new (four v (flagged_ug y now div)) now (fresh-base y now div);
        })

    pub egr-fine : (v : ℕ) → Fine div now (new_egr y v now div)
    egr-fine v = egr-done v (is_set 0 v)

    pub cnt-fine : (v : ℕ) → Fine div now (new_cnt y div now v)
    cnt-fine v = record {
      left = record { timed = timed-cnt y div now v st.timed; based = rw (cnt-base y div now v) (le_refl now) };
      near = near_new (new_cnt y div now v) now (cnt-base y div now v);
    }

    pub arr-fine : (v : ℕ) (a : Bool) → Fine div now (cond a (R.with_arr y (bit_and v (max y))) (new_arr y div now v))
    arr-fine v true = record {
      left = record { timed = record { pos = st.timed.pos; timed = st.timed.timed; halted = st.timed.halted; sized = st.timed.sized }; based = based };
      near = st.near;
    }
    arr-fine v false =
        let n = arr-near y div now v based st.near in
        record { left = record { timed = timed-arr y div now v st.timed; based = n.0 }; near = n.1 }

    pub ccmr-fine : (i v : ℕ) → Fine div now (R.with_ccmr y i v)
    ccmr-fine i v = record {
      left = record { timed = record { pos = st.timed.pos; timed = st.timed.timed; halted = st.timed.halted; sized = st.timed.sized }; based = based };
      near = st.near;
    }

    pub ccr-fine : (ch v : ℕ) (a : Bool) → Fine div now (cond a (R.with_ccr y ch (bit_and v (max y))) (new_ccr y div now ch v))
    ccr-fine ch v true = record {
      left = record { timed = record { pos = st.timed.pos; timed = st.timed.timed; halted = st.timed.halted; sized = st.timed.sized }; based = based };
      near = st.near;
    }
    ccr-fine ch v false = record {
      left = record {
        timed = record {
          pos = st.timed.pos;
          timed = st.timed.timed;
          halted = st.timed.halted;
          sized = length-set y.chan.cc_done ch (T.behind (R.with_ccr_act (R.with_ccr y ch (bit_and v (max y))) ch (bit_and v (max y))) ch) ∙ st.timed.sized;
        };
        based = based;
      };
      near = st.near;
    }

    -- a register that is only stored
    stored-left : (a e c f g p : ℕ) → Left div now (with_regs t (record { cr1 = t.regs.cr1; cr2 = a; smcr = e; dier = c; sr = f; ccer = g; psc = p; arr = t.regs.arr }))
    stored-left a e c f g p = record { timed = record { pos = w.pos; timed = w.timed; halted = w.halted; sized = w.sized }; based = b }

    abbrev L : Written → Type 0
    L p = Left div now p.timer

    five : (c0 c1 c2 c3 c4 : Bool) (p0 p1 p2 p3 p4 p5 : Written) → L p0 → L p1 → L p2 → L p3 → L p4 → L p5
        → L (cond c0 p0 (cond c1 p1 (cond c2 p2 (cond c3 p3 (cond c4 p4 p5)))))
    five true c1 c2 c3 c4 p0 p1 p2 p3 p4 p5 g0 g1 g2 g3 g4 g5 = g0
    five false true c2 c3 c4 p0 p1 p2 p3 p4 p5 g0 g1 g2 g3 g4 g5 = g1
    five false false true c3 c4 p0 p1 p2 p3 p4 p5 g0 g1 g2 g3 g4 g5 = g2
    five false false false true c4 p0 p1 p2 p3 p4 p5 g0 g1 g2 g3 g4 g5 = g3
    five false false false false true p0 p1 p2 p3 p4 p5 g0 g1 g2 g3 g4 g5 = g4
    five false false false false false p0 p1 p2 p3 p4 p5 g0 g1 g2 g3 g4 g5 = g5

    ccmr-left : (i v : ℕ) → L (R.ccmr_written t i v now)
    ccmr-left i v = subst (Left div now) (sym (ccmr-port i v)) (ccmr-fine i v).left

    ccr-left : (ch v : ℕ) → L (R.ccr_written t ch v now)
    ccr-left ch v = subst (Left div now) (sym (ccr-port ch v)) (ccr-fine ch v (Out.OCxPE (ccmr_byte y ch))).left

    ccer-left : (v : ℕ) → L (R.ccer_written t v now)
    unfolding R.ccer_written
    ccer-left v = stored-left t.regs.cr2 t.regs.smcr t.regs.dier t.regs.sr v t.regs.psc

    channel-left : (off v : ℕ) → L (R.channel_written t off v now)
    unfolding R.channel_written
    channel-left off v =
        five (eqb t.inst.channels 0) (eqb off 0x18) (eqb off 0x1c) (eqb off 0x20) (R.is_ccr off)
        (R.only t) (R.ccmr_written t 0 (R.kept 6 v) now) (R.ccmr_written t 1 (R.kept 7 v) now) (R.ccer_written t (R.kept 8 v) now) (R.ccr_written t (R.ccr_channel off) (R.kept (off / 4) v) now) (R.only t)
        (record { timed = w; based = b }) (ccmr-left 0 (R.kept 6 v)) (ccmr-left 1 (R.kept 7 v)) (ccer-left (R.kept 8 v)) (ccr-left (R.ccr_channel off) (R.kept (off / 4) v)) (record { timed = w; based = b })

    nine : (c0 c1 c2 c3 c4 c5 c6 c7 c8 : Bool) (p0 p1 p2 p3 p4 p5 p6 p7 p8 p9 : Written)
        → L p0 → L p1 → L p2 → L p3 → L p4 → L p5 → L p6 → L p7 → L p8 → L p9
        → L (cond c0 p0 (cond c1 p1 (cond c2 p2 (cond c3 p3 (cond c4 p4 (cond c5 p5 (cond c6 p6 (cond c7 p7 (cond c8 p8 p9)))))))))
    nine true c1 c2 c3 c4 c5 c6 c7 c8 p0 p1 p2 p3 p4 p5 p6 p7 p8 p9 g0 g1 g2 g3 g4 g5 g6 g7 g8 g9 = g0
    nine false true c2 c3 c4 c5 c6 c7 c8 p0 p1 p2 p3 p4 p5 p6 p7 p8 p9 g0 g1 g2 g3 g4 g5 g6 g7 g8 g9 = g1
    nine false false true c3 c4 c5 c6 c7 c8 p0 p1 p2 p3 p4 p5 p6 p7 p8 p9 g0 g1 g2 g3 g4 g5 g6 g7 g8 g9 = g2
    nine false false false true c4 c5 c6 c7 c8 p0 p1 p2 p3 p4 p5 p6 p7 p8 p9 g0 g1 g2 g3 g4 g5 g6 g7 g8 g9 = g3
    nine false false false false c4 c5 c6 c7 c8 p0 p1 p2 p3 p4 p5 p6 p7 p8 p9 g0 g1 g2 g3 g4 g5 g6 g7 g8 g9 =
        five c4 c5 c6 c7 c8 p4 p5 p6 p7 p8 p9 g4 g5 g6 g7 g8 g9

    -- any write, at any cycle, with events due or not
    pub left : (off v : ℕ) → Left div now (R.reg_written t off v now div).timer
    unfolding R.reg_written
    left off v =
        nine (eqb off 0x00) (eqb off 0x04) (eqb off 0x08) (eqb off 0x0c) (eqb off 0x10) (eqb off 0x14) (eqb off 0x24) (eqb off 0x28) (eqb off 0x2c)
        (R.booked (R.cr1_written t v now div)) (R.only (R.with_cr2 t (R.kept 1 v))) (R.only (R.with_smcr t (R.kept 2 v))) (R.lined (R.with_dier t (R.kept 3 v)))
        (R.lined (R.with_sr t (R.kept_sr t.regs.sr v))) (R.generated (R.egr_written t v now div) now) (R.counted (R.cnt_written t (R.kept 9 v) now))
        (R.only (R.with_psc t (R.kept 10 v))) (R.arr_written t (R.kept 11 v) now) (R.channel_written t off v now)
        (subst (Left div now) (sym (cr1-port v)) (cr1-fine v).left)
        (stored-left (R.kept 1 v) t.regs.smcr t.regs.dier t.regs.sr t.regs.ccer t.regs.psc)
        (stored-left t.regs.cr2 (R.kept 2 v) t.regs.dier t.regs.sr t.regs.ccer t.regs.psc)
        (stored-left t.regs.cr2 t.regs.smcr (R.kept 3 v) t.regs.sr t.regs.ccer t.regs.psc)
        (stored-left t.regs.cr2 t.regs.smcr t.regs.dier (R.kept_sr t.regs.sr v) t.regs.ccer t.regs.psc)
        (subst (Left div now) (sym (egr-port v)) (egr-fine v).left)
        (subst (Left div now) (sym (cnt-port (R.kept 9 v))) (cnt-fine (R.kept 9 v)).left)
        (stored-left t.regs.cr2 t.regs.smcr t.regs.dier t.regs.sr t.regs.ccer (R.kept 10 v))
        (subst (Left div now) (sym (arr-port (R.kept 11 v))) (arr-fine (R.kept 11 v) (ARPE y.regs.cr1)).left)
        (channel-left off v)
