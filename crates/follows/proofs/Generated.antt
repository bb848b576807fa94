-- Writes of EGR: UG, and CC1G to CC4G. Assumes nothing.
use Prim.Native.Nat.{ℕ, ◌+◌, ◌≤◌}
use mathlib.Core.Path.{◌≡◌, refl, sym, ap, ◌∙◌}
use mathlib.Core.Bool.{Bool, true, false, cond, ◌&&◌, ◌||◌}
use native.Mathlib.Nat.{le_refl}
use native.Mathlib.Omega.{arith}
use lib.Bits.{bit_or}
use lib.ListN.{get_or, set}
use Rattle.rm0440.specs.Bits.{is_set, UDIS, URS}
use Rattle.rm0440.specs.Output as Out
use Rattle.rm0440.specs.Rules.{port_rules}
use Rattle.rm0440.specs.Clock.{matched}
use Rattle.rm0440.specs.Write.{generated, generated_cc, write_egr}
use Rattle.tim.specs.declared.Timer.{Timer}
use Rattle.tim.specs.Timer.{down, is_output, oc_mode, with_chan}
use Rattle.tim.specs.Count.{cnt_at}
use Rattle.tim.specs.Change as T
use Rattle.regs.specs.Regs as R
use Rattle.follows.specs.Seen.{raw, seen, Within}
use Rattle.follows.proofs.Leap.{Silent, matched-none}
use Rattle.follows.proofs.Standing.{seen-new}

-- ---- UG

-- its timer, the flag apart
abbrev fresh : Timer → ℕ → ℕ → Timer
fresh y now div = T.recomputed_after_update (T.restarted (T.loaded y) now div)

abbrev ug_sr : Timer → ℕ
ug_sr y = cond (UDIS y.regs.cr1 || URS y.regs.cr1) y.regs.sr (bit_or y.regs.sr T.UIF)

abbrev pub flagged_ug : Timer → ℕ → ℕ → Timer
flagged_ug y now div = R.with_sr (fresh y now div) (ug_sr y)

pub flagged : (y : Timer) (now div : ℕ) → T.generated y now div ≡ flagged_ug y now div
unfolding T.generated T.restarted T.recomputed_after_update
flagged y now div = go (UDIS y.regs.cr1) (URS y.regs.cr1)
  where
    go : (u v : Bool) → cond v (fresh y now div) (cond u (fresh y now div) (T.with_flag (fresh y now div) T.UIF))
        ≡ R.with_sr (fresh y now div) (cond (u || v) y.regs.sr (bit_or y.regs.sr T.UIF))
    go true true = refl
    go true false = refl
    go false true = refl
    go false false = refl

fresh-raw : (p : Bool) (y : Timer) (now div : ℕ) → raw (flagged_ug y now div) ≡ generated (port_rules p) (seen y div now)
unfolding T.restarted T.recomputed_after_update
fresh-raw p y now div = refl

fresh-within : (y : Timer) (now div : ℕ) → Within (flagged_ug y now div)
unfolding T.restarted T.recomputed_after_update
fresh-within y now div e = either (down y) y.regs.arr
  where
    either : (d : Bool) (a : ℕ) → cond d a 0 ≤ a
    either true a = le_refl a
    either false a = omega arith

pub fresh-base : (y : Timer) (now div : ℕ) → (flagged_ug y now div).count.base ≡ now
unfolding T.restarted T.recomputed_after_update
fresh-base y now div = refl

pub ug-seen : (p : Bool) (y : Timer) (now div : ℕ) → seen (T.generated y now div) div now ≡ generated (port_rules p) (seen y div now)
ug-seen p y now div =
    ap (λ (u : Timer). seen u div now) (flagged y now div) ∙ seen-new (flagged_ug y now div) div now (fresh-base y now div) (fresh-within y now div) ∙ fresh-raw p y now div

-- ---- CC1G to CC4G

-- the port's generated match of channel ch, as one timer
abbrev one : ℕ → Bool → Timer → Timer
one ch b y = with_chan (R.with_sr y (cond b (bit_or y.regs.sr (T.cc_flag ch)) y.regs.sr)) (record {
  ccmr = y.chan.ccmr;
  ccr = y.chan.ccr;
  ccr_act = y.chan.ccr_act;
  cc_done = y.chan.cc_done;
  oc = cond b (set y.chan.oc ch (Out.at_match (oc_mode y ch) (get_or y.chan.oc ch false))) y.chan.oc;
})

one-is : (v ch : ℕ) (y : Timer) → R.egr_match v ch y ≡ one ch (is_set (ch + 1) v && is_output y ch) y
unfolding T.matched
one-is v ch y = go (is_set (ch + 1) v) (is_output y ch)
  where
    go : (a b : Bool) → cond a (cond b (T.matched y ch) y) y ≡ one ch (a && b) y
    go true true = refl
    go true false = refl
    go false b = refl

abbrev pub four : ℕ → Timer → Timer
four v y = one 3 (is_set 4 v && is_output y 3) (one 2 (is_set 3 v && is_output y 2) (one 1 (is_set 2 v && is_output y 1) (one 0 (is_set 1 v && is_output y 0) y)))

pub four_is : (v : ℕ) (y : Timer) → R.egr_match v 3 (R.egr_match v 2 (R.egr_match v 1 (R.egr_match v 0 y))) ≡ four v y
four_is v y =
    ap (λ (z : Timer). R.egr_match v 3 (R.egr_match v 2 (R.egr_match v 1 z))) (one-is v 0 y)
    ∙ ap (λ (z : Timer). R.egr_match v 3 (R.egr_match v 2 z)) (one-is v 1 (one 0 (is_set 1 v && is_output y 0) y))
    ∙ ap (R.egr_match v 3) (one-is v 2 (one 1 (is_set 2 v && is_output y 1) (one 0 (is_set 1 v && is_output y 0) y)))
    ∙ one-is v 3 (one 2 (is_set 3 v && is_output y 2) (one 1 (is_set 2 v && is_output y 1) (one 0 (is_set 1 v && is_output y 0) y)))

pub four-seen : (p : Bool) (v : ℕ) (y : Timer) (div now : ℕ) → seen (four v y) div now ≡ generated_cc (port_rules p) v (seen y div now)
unfolding cnt_at T.cc_flag
four-seen p v y div now = refl

-- ---- the whole

abbrev pub new_egr : Timer → ℕ → ℕ → ℕ → Timer
new_egr y v now div = four v (cond (is_set 0 v) (T.generated y now div) y)

module _ (p : Bool) (y : Timer) (v now div : ℕ) where
  -- with UG what the new count meets is delivered; without, what the count meets is delivered already
  pub acts-egr : Silent (port_rules p) (seen y div now) → write_egr (port_rules p) v (seen y div now) ≡ matched (port_rules p) (seen (new_egr y v now div) div now)
  unfolding write_egr cnt_at
  acts-egr q = go (is_set 0 v)
    where
      go : (b : Bool) → cond b (matched (port_rules p) (generated_cc (port_rules p) v (generated (port_rules p) (seen y div now)))) (generated_cc (port_rules p) v (seen y div now))
          ≡ matched (port_rules p) (seen (four v (cond b (T.generated y now div) y)) div now)
      go true = ap (matched (port_rules p)) (sym (four-seen p v (T.generated y now div) div now ∙ ap (generated_cc (port_rules p) v) (ug-seen p y now div)))
      go false = sym (four-seen p v y div now) ∙ sym (matched-none (port_rules p) (seen (four v y) div now) (record { q0 = q.q0; q1 = q.q1; q2 = q.q2; q3 = q.q3 }))
