-- What the stores of a write do to the board, over any board: each step's equation in, the definition's timer out. Assumes nothing.
use Rattle.std.specs.Prelude.{Some, None}
use mathlib.Core.Path.{◌≡◌, refl, ap, sym, ◌∙◌}
use mathlib.Core.Bool.{Bool, true, false}
use mathlib.Core.List.{List}
use Prim.Native.Nat.{ℕ, ◌/◌, ◌%◌, ◌<◌}
use native.Mathlib.Omega.{arith}
use borrow.Author.Tests.{eq-eqb, ne_eqb}
use lib.Bits.{bit_and}
use lib.Dec.{eqb}
use lib.ListN.{length, set}
use lib.Seq.{get_or-set_same}
use lib.Ieee.{Float}
use Rattle.rm0440.specs.Output as Out
use Rattle.tim.specs.declared.Timer.{Timer}
use Rattle.tim.specs.declared.Chan.{Chan}
use Rattle.tim.specs.Timer.{Fit, with_count, ccmr_byte}
use Rattle.tim.specs.Count.{at_count, synced}
use Rattle.tim.specs.Change.{behind, behind_of, with_done}
use Rattle.tim.proofs.Fit.{either}
use Rattle.regs.specs.Regs.{kept_width, with_ccr, with_ccr_act, settled_channel, ccr_written}
use Rattle.codec.specs.Codec.{decode_timer}
use Rattle.machine.specs.Board.{Board, timer_at, with_timer}
use Rattle.state.specs.View.{view}
use Rattle.state.proofs.InRange.{bounded}
use Rattle.fields.proofs.Words.{same-timer, changed-twice, held}
use Rattle.context.proofs.Laws.{stored_there}
use Rattle.regfile.proofs.Synced.{acts-at}

pub loaded-fit : (w : List ℕ) (x : List Float) (i : ℕ) (t : Timer) → t ≡ timer_at (view w x) i → Fit t
loaded-fit w x i t h = rw h ((bounded w x).timer-fit i)

-- ---- the reference moved

synced-at : (t : Timer) (cycle : ℕ) → with_count t (at_count t.count (synced t cycle).count.cnt0 (synced t cycle).count.base) ≡ synced t cycle
unfolding synced
synced-at t cycle = either (λ (u : Timer). with_count t (at_count t.count u.count.cnt0 u.count.base) ≡ u) t.count.running refl refl

synced-stopped : (t : Timer) (cycle : ℕ) → t.count.running ≡ false → synced t cycle ≡ t
unfolding synced
synced-stopped t cycle r = rw r

module _ (b : Board) (i cycle : ℕ) (t : Timer) (load : t ≡ timer_at b i) where
  pub sync-running : (b₁ : Board) (s : Timer) → s ≡ synced t cycle
      → b₁ ≡ with_timer b i (with_count (timer_at b i) (at_count (timer_at b i).count s.count.cnt0 s.count.base)) → b₁ ≡ with_timer b i (synced (timer_at b i) cycle)
  sync-running b₁ s e q =
      q ∙ ap (with_timer b i)
      (ap (λ (u : Timer). with_count (timer_at b i) (at_count (timer_at b i).count u.count.cnt0 u.count.base)) (e ∙ ap (λ (u : Timer). synced u cycle) load)
      ∙ synced-at (timer_at b i) cycle)

  pub sync-stopped : t.count.running ≡ false → b ≡ with_timer b i (synced (timer_at b i) cycle)
  sync-stopped r =
      sym (same-timer b i) ∙ ap (with_timer b i) (sym (synced-stopped (timer_at b i) cycle (sym (ap (λ (u : Timer). u.count.running) load) ∙ r)))

-- ---- a compare

-- a channel settled, of the loaded timer
pub done-set : (b b₁ : Board) (i ch ccr : ℕ) (t : Timer) (d : Bool) → t ≡ timer_at b i → d ≡ behind_of t ccr
    → b₁ ≡ with_timer b i (with_done (timer_at b i) (set (timer_at b i).chan.cc_done ch d))
    → b₁ ≡ with_timer b i (with_done (timer_at b i) (set (timer_at b i).chan.cc_done ch (behind_of (timer_at b i) ccr)))
done-set b b₁ i ch ccr t d load e q =
    q ∙ ap (λ (y : Bool). with_timer b i (with_done (timer_at b i) (set (timer_at b i).chan.cc_done ch y))) (e ∙ ap (λ (y : Timer). behind_of y ccr) load)

-- settled, of the compare that was just set
settled-of : (t : Timer) (ch v : ℕ) → ch < length t.chan.ccr_act → with_done (with_ccr_act t ch v) (set t.chan.cc_done ch (behind_of (with_ccr_act t ch v) v)) ≡ settled_channel (with_ccr_act t ch v) ch
unfolding behind
settled-of t ch v h = rw (get_or-set_same t.chan.ccr_act ch v 0 h)

chan-synced : (t : Timer) (cycle : ℕ) → (synced t cycle).chan ≡ t.chan
unfolding synced
chan-synced t cycle = either (λ (u : Timer). u.chan ≡ t.chan) t.count.running refl refl

act-length : (w : List ℕ) (x : List Float) (i : ℕ) → i < 8 → length (timer_at (view w x) i).chan.ccr_act ≡ 4
unfolding decode_timer
act-length w x i h = ap (λ (t : Timer). length t.chan.ccr_act) (held w i h x)

module _ (w : List ℕ) (x : List Float) (i ch v cycle : ℕ) (h : i < 8) (g : ch < 4) (t : Timer) (load : t ≡ timer_at (view w x) i)
    (m : ℕ) (wide : m ≡ Rattle.tim.specs.Timer.max t) (mode : ℕ) (byte : mode ≡ ccmr_byte (timer_at (view w x) i) ch) where
  abbrev b : Board
  b = view w x

  abbrev u : Timer
  u = timer_at b i

  kept : bit_and v m ≡ kept_width u v
  kept = ap (bit_and v) (wide ∙ ap (λ (y : Timer). Rattle.tim.specs.Timer.max y) load)

  preload : (on : Bool) → eqb (mode / 8 % 2) 1 ≡ on → Out.OCxPE (ccmr_byte u ch) ≡ on
  preload on e = ap (λ (n : ℕ). eqb (n / 8 % 2) 1) (sym byte) ∙ e

  pub waits-drive : mode / 8 % 2 ≡ 1 → None ≡ (ccr_written u ch v cycle).drive
  unfolding ccr_written
  waits-drive e = rw (preload true (eq-eqb _ _ e))

  n : i < length b.timers
  n = omega (arith, (bounded w x).timers-length)

  pub acts-drive : (mode / 8 % 2 ≡ 1 → ⊥) → (b₁ : Board) → b₁ ≡ with_timer b i (ccr_written u ch v cycle).timer → (cnt : ℕ)
      → cnt ≡ (timer_at b₁ i).count.cnt0 → Some cnt ≡ (ccr_written u ch v cycle).drive
  acts-drive e b₁ s cnt c =
      ap (λ (k : ℕ). Some k) (c ∙ ap (λ (y : Timer). y.count.cnt0) (stored_there b b₁ i (ccr_written u ch v cycle).timer n s))
      ∙ acts-at u ch v cycle ((bounded w x).timer-fit i).tick-pos (preload false (ne_eqb _ _ e))

  module _ (b₁ b₂ : Board) (p : b₁ ≡ with_timer b i (synced u cycle)) (q : b₂ ≡ with_timer b₁ i (with_ccr (timer_at b₁ i) ch (bit_and v m))) where
    stored : b₂ ≡ with_timer b i (with_ccr (synced u cycle) ch (bit_and v m))
    stored = changed-twice b b₁ b₂ i (λ y. synced y cycle) (λ y. with_ccr y ch (bit_and v m)) n p q

    pub ccr-waits : mode / 8 % 2 ≡ 1 → b₂ ≡ with_timer b i (ccr_written u ch v cycle).timer
    unfolding ccr_written
    ccr-waits e = stored ∙ ap (λ (k : ℕ). with_timer b i (with_ccr (synced u cycle) ch k)) kept ∙ rw (preload true (eq-eqb _ _ e))

    pub ccr-acts : (mode / 8 % 2 ≡ 1 → ⊥) → (b₃ b₄ : Board) → b₃ ≡ with_timer b₂ i (with_ccr_act (timer_at b₂ i) ch (bit_and v m))
        → b₄ ≡ with_timer b₃ i (with_done (timer_at b₃ i) (set (timer_at b₃ i).chan.cc_done ch (behind_of (timer_at b₃ i) (bit_and v m))))
        → b₄ ≡ with_timer b i (ccr_written u ch v cycle).timer
    unfolding ccr_written
    ccr-acts e b₃ b₄ r s =
        let k : ℕ = bit_and v m in
        let long : ch < length (synced u cycle).chan.ccr_act = omega (arith, act-length w x i h, ap (λ (y : Chan). length y.ccr_act) (chan-synced u cycle)) in
        changed-twice b b₃ b₄ i (λ y. with_ccr_act (with_ccr (synced y cycle) ch k) ch k) (λ y. with_done y (set y.chan.cc_done ch (behind_of y k))) n
        (changed-twice b b₂ b₃ i (λ y. with_ccr (synced y cycle) ch k) (λ y. with_ccr_act y ch k) n stored r) s
        ∙ ap (with_timer b i) (settled-of (with_ccr (synced u cycle) ch k) ch k long)
        ∙ ap (λ (k : ℕ). with_timer b i (settled_channel (with_ccr_act (with_ccr (synced u cycle) ch k) ch k) ch)) kept
        ∙ rw (preload false (ne_eqb _ _ e))
