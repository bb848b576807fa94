-- Writes of CR1, of a timer that stands where it is read: a start, a stop, and a write that is neither. Assumes nothing.
use Prim.Native.Nat.{ℕ, ◌%◌, ◌≤◌}
use mathlib.Core.Path.{◌≡◌, refl, sym, ap, ◌∙◌, subst}
use mathlib.Core.Bool.{Bool, true, false, cond, not, ◌&&◌}
use lib.Dec.{eqb, ltb, leb}
use lib.ListN.{get_or}
use Rattle.rm0440.specs.Bits.{CEN, field}
use Rattle.rm0440.specs.Rules.{port_rules}
use Rattle.rm0440.specs.State as M
use Rattle.rm0440.specs.Clock.{matched}
use Rattle.rm0440.specs.Write.{answered, resettled, write_cr1}
use Rattle.tim.specs.declared.Timer.{Timer}
use Rattle.tim.specs.Timer.{down, with_cr1}
use Rattle.tim.specs.Count.{blocked, counts, cnt_at, synced}
use Rattle.tim.specs.Change as T
use Rattle.regs.specs.Regs as R
use Rattle.stepping.proofs.Synced.{not-counts, by-sync}
use Rattle.follows.specs.Seen.{raw, clocks_at, per, seen, rules_of, Within}
use Rattle.follows.proofs.Standing.{answers, Near, near-cnt, seen-new, seen-rests}
use Rattle.follows.proofs.Acting.{none_over}

module _ (y : Timer) (v now div : ℕ) where
  abbrev pub new : Timer
  new = with_cr1 y (R.kept_cr1 y v)

  -- the port's write, by CEN before and after it
  abbrev pub port : Bool → Bool → Timer
  port was is = cond is (cond was (R.turned y.regs.cr1 new) (T.started new now div)) (cond was (T.stopped new now) (R.turned y.regs.cr1 new))

  abbrev pub new_cr1 : Timer
  new_cr1 = port (CEN y.regs.cr1) (CEN (R.kept_cr1 y v))

-- a counter that is off does not overrun
off-over : (b x : Bool) → (not b && false) && x ≡ false
off-over true x = refl
off-over false x = refl

module _ (y : Timer) (v now div : ℕ) (near : Near y now) (here : cnt_at y now ≡ y.count.cnt0) where
  abbrev u : Timer
  u = new y v now div

  -- the machine's registers are new, the count is not
  abbrev told : M.Timer
  told = M.with_cr1 (R.kept_cr1 y v) (seen y div now)

  -- ---- a start

  abbrev begun : ℕ → M.Timer
  begun k = resettled (M.with_count told true 0 k)

  -- if the start counts, it is from within the reload
  abbrev Free : Type 0
  Free = not (blocked y) && true ≡ true → y.count.cnt0 ≤ y.count.arr_act

  start_seen : Free → seen (T.started u now div) div now ≡ begun (cnt_at y now)
  unfolding T.started T.recomputed T.behind
  start_seen h = seen-new (T.started u now div) div now refl h ∙ ap begun (sym here)

  start-within : Within (T.started u now div) → Free
  unfolding T.started T.recomputed
  start-within q = q

  starts : CEN y.regs.cr1 ≡ false → CEN (R.kept_cr1 y v) ≡ true → Free
      → write_cr1 (rules_of y) v (seen y div now) ≡ matched (rules_of y) (seen (T.started u now div) div now)
  unfolding write_cr1
  starts was is h = rw (is, was) (answers y.inst.manual (seen y div now) (begun (cnt_at y now)) over ∙ ap (matched (rules_of y)) (sym (start_seen h)))
    where
      over : ((not (blocked y) && true) && (true && (not (down u) && ltb y.count.arr_act (cnt_at y now)))) ≡ false
      over = none_over (not (blocked y) && true) (down u) y.count.arr_act (cnt_at y now) (λ e. rw here (h e))

  -- ---- neither

  module _ (h : Within y) where
    abbrev shown_at : Timer → ℕ → M.Timer
    shown_at u k = M.with_count (raw u) y.count.running (cond (counts y) (clocks_at y div now % per y) 0) k

    new-cnt : cnt_at u now ≡ cnt_at y now
    new-cnt = near-cnt u now near h ∙ sym here

    new-seen : seen u div now ≡ told
    new-seen = ap (shown_at u) new-cnt

    settled-seen : seen (T.recomputed u) div now ≡ resettled told
    unfolding T.recomputed T.behind
    settled-seen =
        ap (shown_at (T.recomputed u)) (near-cnt (T.recomputed u) now near h ∙ sym here)
        ∙ ap (λ (k : ℕ). M.with_matches told y.chan.oc
        (M.each (λ ch. cond (ltb ch y.inst.channels) (cond (down u) (ltb k (get_or y.chan.ccr_act ch 0)) (leb (get_or y.chan.ccr_act ch 0) k)) false))) (sym here)

    over : (counts y && (true && (not (down u) && ltb y.count.arr_act (cnt_at y now)))) ≡ false
    over = none_over (counts y) (down u) y.count.arr_act (cnt_at y now) (λ e. rw here (h e))

    -- CEN set before and after
    goes_on : CEN y.regs.cr1 ≡ true → CEN (R.kept_cr1 y v) ≡ true → write_cr1 (rules_of y) v (seen y div now) ≡ matched (rules_of y) (seen (R.turned y.regs.cr1 u) div now)
    unfolding write_cr1 R.turned
    goes_on was is = rw (is, was) (go (eqb (field 4 1 y.regs.cr1) (field 4 1 (R.kept_cr1 y v))))
      where
        go : (b : Bool) → answered (rules_of y) (seen y div now) (cond (not b) (resettled told) told) ≡ matched (rules_of y) (seen (cond b u (T.recomputed u)) div now)
        go true = answers y.inst.manual (seen y div now) told over ∙ ap (matched (rules_of y)) (sym new-seen)
        go false = answers y.inst.manual (seen y div now) (resettled told) over ∙ ap (matched (rules_of y)) (sym settled-seen)

    -- CEN clear before and after, and the counter stands
    stays-off : CEN y.regs.cr1 ≡ false → CEN (R.kept_cr1 y v) ≡ false → y.count.running ≡ false
        → write_cr1 (rules_of y) v (seen y div now) ≡ matched (rules_of y) (seen (R.turned y.regs.cr1 u) div now)
    unfolding write_cr1 R.turned
    stays-off was is off = rw (is, was) (go (eqb (field 4 1 y.regs.cr1) (field 4 1 (R.kept_cr1 y v))))
      where
        still : M.with_count told false 0 (cnt_at y now) ≡ told
        still = rw (not-counts y off, off)

        go : (b : Bool) → answered (rules_of y) (seen y div now) (cond (not b) (resettled (M.with_count told false 0 (cnt_at y now))) (M.with_count told false 0 (cnt_at y now)))
            ≡ matched (rules_of y) (seen (cond b u (T.recomputed u)) div now)
        go true = answers y.inst.manual (seen y div now) (M.with_count told false 0 (cnt_at y now)) (off-over (blocked y) _) ∙ ap (matched (rules_of y)) (still ∙ sym new-seen)
        go false = answers y.inst.manual (seen y div now) (resettled (M.with_count told false 0 (cnt_at y now))) (off-over (blocked y) _) ∙ ap (matched (rules_of y)) (ap resettled still ∙ sym settled-seen)

    -- ---- a stop: the part of a step is dropped (stop-phase)

    stop-seen : seen (T.stopped u now) div now ≡ M.with_count told false 0 (cnt_at y now)
    unfolding T.stopped
    stop-seen =
        sym (seen-rests (T.with_running (synced u now) false) div now (not-counts (T.with_running (synced u now) false) refl))
        ∙ by-sync u now (λ (z : Timer). raw (T.with_running z false) ≡ M.with_count told false 0 (cnt_at y now)) (λ e. ap (M.with_count told false 0) new-cnt) (λ b r. ap (M.with_count told false 0) (sym here))
        (λ e. ap (M.with_count told false 0) (sym here))

    stops : CEN y.regs.cr1 ≡ true → CEN (R.kept_cr1 y v) ≡ false → write_cr1 (rules_of y) v (seen y div now) ≡ matched (rules_of y) (seen (T.stopped u now) div now)
    unfolding write_cr1
    stops was is = rw (is, was) (answers y.inst.manual (seen y div now) (M.with_count told false 0 (cnt_at y now)) (off-over (blocked y) _) ∙ ap (matched (rules_of y)) (sym stop-seen))

    -- ---- any write

    control-acts : (CEN y.regs.cr1 ≡ false → y.count.running ≡ false) → Within (new_cr1 y v now div) → write_cr1 (rules_of y) v (seen y div now) ≡ matched (rules_of y) (seen (new_cr1 y v now div) div now)
    control-acts off q = go (CEN y.regs.cr1) (CEN (R.kept_cr1 y v)) refl refl q
      where
        go : (was is : Bool) → CEN y.regs.cr1 ≡ was → CEN (R.kept_cr1 y v) ≡ is → Within (port y v now div was is) → write_cr1 (rules_of y) v (seen y div now) ≡ matched (rules_of y) (seen (port y v now div was is) div now)
        go true true a b q = goes_on a b
        go true false a b q = stops a b
        go false true a b q = starts a b (start-within q)
        go false false a b q = stays-off a b (off a)

pub acts-cr1 : (p : Bool) (y : Timer) → y.inst.manual ≡ p → (v now div : ℕ) → Near y now → cnt_at y now ≡ y.count.cnt0 → Within y → (CEN y.regs.cr1 ≡ false → y.count.running ≡ false)
    → Within (new_cr1 y v now div) → write_cr1 (port_rules p) v (seen y div now) ≡ matched (port_rules p) (seen (new_cr1 y v now div) div now)
acts-cr1 p y is v now div near here h off q =
    subst (λ (b : Bool). write_cr1 (port_rules b) v (seen y div now) ≡ matched (port_rules b) (seen (new_cr1 y v now div) div now)) is (control-acts y v now div near here h off q)
