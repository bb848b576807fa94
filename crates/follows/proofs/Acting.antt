-- Writes of CNT, ARR, CCMRx and CCRx, of a timer that stands where it is read. Assumes nothing.
use Prim.Native.Nat.{ℕ, ◌%◌, ◌≤◌}
use mathlib.Core.Path.{◌≡◌, refl, sym, ap, ◌∙◌, subst}
use mathlib.Core.Bool.{Bool, true, false, cond, not, ◌&&◌}
use native.Mathlib.Nat.{sub_self, zero-div, zero-mod}
use lib.Dec.{eqb, ltb, leb}
use lib.Bits.{bit_and}
use lib.ListN.{get_or, set}
use borrow.Author.Tests.{le-ltb}
use Rattle.rm0440.specs.Bits.{ARPE}
use Rattle.rm0440.specs.Output as Out
use Rattle.rm0440.specs.Rules.{Rules, port_rules}
use Rattle.rm0440.specs.State as M
use Rattle.rm0440.specs.Clock.{matched}
use Rattle.rm0440.specs.Write.{left_cnt, left_arr, left_ccr, write_cnt, write_arr, write_ccmr, write_ccr}
use Rattle.tim.specs.declared.Timer.{Timer}
use Rattle.tim.specs.Timer.{down, max, with_count, ccmr_byte}
use Rattle.tim.specs.Count.{blocked, counts, cnt_at, at_count}
use Rattle.tim.specs.Change as T
use Rattle.regs.specs.Regs as R
use Rattle.follows.specs.Seen.{raw, clocks_at, per, seen, rules_of, Within}
use Rattle.follows.proofs.Standing.{answers, Near, near-cnt, seen-new, no-overrun}

-- a counter that goes on within its reload does not overrun it
pub none_over : (run d : Bool) (arr cnt : ℕ) → (run ≡ true → cnt ≤ arr) → run && (true && (not d && ltb arr cnt)) ≡ false
none_over false d arr cnt h = refl
none_over true true arr cnt h = refl
none_over true false arr cnt h = le-ltb arr cnt (h refl)

-- the part of a step where a reload is written: blocked by it none, and from a blocked counter on a whole step
part : (new old on : Bool) (k : ℕ) → (old ≡ true → on ≡ true → k ≡ 0) → cond (not new && on) k 0 ≡ cond new 0 (cond (not old && on) k 0)
part true old on k h = refl
part false false on k h = refl
part false true true k h = h refl refl
part false true false k h = refl

-- what the port leaves

module _ (y : Timer) (div now : ℕ) where
  abbrev pub new_cnt : ℕ → Timer
  new_cnt v = T.recomputed (with_count y (at_count y.count (bit_and v (max y)) now))

  abbrev pub new_arr : ℕ → Timer
  new_arr v = T.recomputed (R.with_arr_act (R.with_arr y (bit_and v (max y))) (bit_and v (max y)))

  abbrev pub new_ccr : ℕ → ℕ → Timer
  new_ccr ch v = R.settled_channel (R.with_ccr_act (R.with_ccr y ch (bit_and v (max y))) ch (bit_and v (max y))) ch

-- the rules by the mode of y itself, and by p, which it is
module _ (y : Timer) (div now : ℕ) where
  abbrev r : Rules
  r = rules_of y

  -- ---- CNT

  cnt-raw : (v : ℕ) → raw (new_cnt y div now v) ≡ left_cnt r v (seen y div now)
  unfolding T.recomputed T.behind
  cnt-raw v = refl

  cnt-seen : (v : ℕ) → Within (new_cnt y div now v) → seen (new_cnt y div now v) div now ≡ left_cnt r v (seen y div now)
  unfolding T.recomputed
  cnt-seen v h = seen-new (new_cnt y div now v) div now refl h ∙ cnt-raw v

  count-acts : (v : ℕ) → Within (new_cnt y div now v) → write_cnt r v (seen y div now) ≡ matched r (seen (new_cnt y div now v) div now)
  unfolding write_cnt T.recomputed
  count-acts v h =
      answers y.inst.manual (seen y div now) (left_cnt r v (seen y div now)) (none_over (counts y) (down y) y.count.arr_act (bit_and v (max y)) h)
      ∙ ap (matched r) (sym (cnt-seen v h))

  -- ---- CCMRx: no case but mode-change-latch and preload-cleared, which are the Rust's rules themselves

  modes-act : (i v : ℕ) → write_ccmr r i v (seen y div now) ≡ matched r (seen (R.with_ccmr y i v) div now)
  unfolding write_ccmr cnt_at
  modes-act i v = answers y.inst.manual (seen y div now) (seen (R.with_ccmr y i v) div now) (no-overrun y now)

  -- ---- ARR and CCRx that act at once

  module _ (near : Near y now) (here : cnt_at y now ≡ y.count.cnt0) (fresh : blocked y ≡ true → y.count.running ≡ true → y.count.base ≡ now) where
    -- the machine's state with the reload, and the record settled at a count
    abbrev with_reload : ℕ → ℕ → ℕ → ℕ → M.Timer
    with_reload v q c k =
        let s = M.with_regs (seen y div now) y.regs.cr1 y.regs.sr (set (raw y).regs 11 (bit_and v (max y))) in
        let a = M.with_count (M.with_shadows s y.count.psc_act (bit_and v (max y)) y.chan.ccr_act) y.count.running q c in
        M.with_matches a y.chan.oc (M.each (λ ch. cond (ltb ch y.inst.channels) (cond (down y) (ltb k (get_or y.chan.ccr_act ch 0)) (leb (get_or y.chan.ccr_act ch 0) k)) false))

    arr-seen : (v : ℕ) → Within (new_arr y div now v) → seen (new_arr y div now v) div now ≡ left_arr r v (seen y div now)
    unfolding T.recomputed T.behind
    arr-seen v h =
        ap (λ (c : ℕ). with_reload v (cond (counts (new_arr y div now v)) (clocks_at y div now % per y) 0) c y.count.cnt0) (near-cnt (new_arr y div now v) now near h ∙ sym here)
        ∙ ap (λ (k : ℕ). with_reload v (cond (counts (new_arr y div now v)) (clocks_at y div now % per y) 0) (cnt_at y now) k) (sym here)
        ∙ ap (λ (q : ℕ). with_reload v q (cnt_at y now) (cnt_at y now)) (part (y.inst.manual && eqb (bit_and v (max y)) 0) (blocked y) y.count.running (clocks_at y div now % per y) (λ b o. none (fresh b o)))
      where
        none : y.count.base ≡ now → clocks_at y div now % per y ≡ 0
        none e = rw (e, sub_self now, zero-div div) (zero-mod (per y))

    reload-acts : (v : ℕ) → ARPE y.regs.cr1 ≡ false → Within (new_arr y div now v) → write_arr r v (seen y div now) ≡ matched r (seen (new_arr y div now v) div now)
    unfolding write_arr T.recomputed
    reload-acts v a h =
        rw a (answers y.inst.manual (seen y div now) (left_arr r v (seen y div now)) (none_over (counts (new_arr y div now v)) (down y) (bit_and v (max y)) (cnt_at y now) (λ e. rw here (h e)))
        ∙ ap (matched r) (sym (arr-seen v h)))

    ccr-seen : (ch v : ℕ) → seen (new_ccr y div now ch v) div now ≡ left_ccr ch v (seen y div now)
    unfolding T.behind cnt_at
    ccr-seen ch v =
        ap (λ (k : ℕ). M.with_matches (M.with_shadows (M.with_channel_regs (seen y div now) y.chan.ccmr (set y.chan.ccr ch (bit_and v (max y))))
        y.count.psc_act y.count.arr_act (set y.chan.ccr_act ch (bit_and v (max y)))) y.chan.oc
        (set y.chan.cc_done ch (cond (down y) (ltb k (get_or (set y.chan.ccr_act ch (bit_and v (max y))) ch 0)) (leb (get_or (set y.chan.ccr_act ch (bit_and v (max y))) ch 0) k)))) (sym here)

    compare-acts : (ch v : ℕ) → Out.OCxPE (ccmr_byte y ch) ≡ false → write_ccr r ch v (seen y div now) ≡ matched r (seen (new_ccr y div now ch v) div now)
    unfolding write_ccr
    compare-acts ch v e = rw e (answers y.inst.manual (seen y div now) (left_ccr ch v (seen y div now)) (no-overrun y now) ∙ ap (matched r) (sym (ccr-seen ch v)))

module _ (p : Bool) (y : Timer) (is : y.inst.manual ≡ p) (div now : ℕ) where
  pub acts-cnt : (v : ℕ) → Within (new_cnt y div now v) → write_cnt (port_rules p) v (seen y div now) ≡ matched (port_rules p) (seen (new_cnt y div now v) div now)
  acts-cnt v h = subst (λ (b : Bool). write_cnt (port_rules b) v (seen y div now) ≡ matched (port_rules b) (seen (new_cnt y div now v) div now)) is (count-acts y div now v h)

  pub acts-ccmr : (i v : ℕ) → write_ccmr (port_rules p) i v (seen y div now) ≡ matched (port_rules p) (seen (R.with_ccmr y i v) div now)
  acts-ccmr i v = subst (λ (b : Bool). write_ccmr (port_rules b) i v (seen y div now) ≡ matched (port_rules b) (seen (R.with_ccmr y i v) div now)) is (modes-act y div now i v)

  module _ (near : Near y now) (here : cnt_at y now ≡ y.count.cnt0) (fresh : blocked y ≡ true → y.count.running ≡ true → y.count.base ≡ now) where
    pub acts-arr : (v : ℕ) → ARPE y.regs.cr1 ≡ false → Within (new_arr y div now v) → write_arr (port_rules p) v (seen y div now) ≡ matched (port_rules p) (seen (new_arr y div now v) div now)
    acts-arr v a h =
        subst (λ (b : Bool). write_arr (port_rules b) v (seen y div now) ≡ matched (port_rules b) (seen (new_arr y div now v) div now)) is (reload-acts y div now near here fresh v a h)

    pub acts-ccr : (ch v : ℕ) → Out.OCxPE (ccmr_byte y ch) ≡ false → write_ccr (port_rules p) ch v (seen y div now) ≡ matched (port_rules p) (seen (new_ccr y div now ch v) div now)
    acts-ccr ch v e =
        subst (λ (b : Bool). write_ccr (port_rules b) ch v (seen y div now) ≡ matched (port_rules b) (seen (new_ccr y div now ch v) div now)) is (compare-acts y div now near here fresh ch v e)
