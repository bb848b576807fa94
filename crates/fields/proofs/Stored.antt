-- What each function's stores do to the board. Assumes nothing.
use mathlib.Core.Path.{◌≡◌, ap, sym, ◌∙◌}
use mathlib.Core.Bool.{Bool}
use mathlib.Core.List.{List}
use Prim.Native.Nat.{ℕ, zero, suc, ◌+◌, ◌*◌, ◌%◌, ◌<◌}
use native.Mathlib.Omega.{arith}
use lib.ListN.{length, get_or, set, drop}
use lib.Seq.{get_or-drop}
use lib.Ieee.{Float}
use mir.Val.{bool_byte}
use Rattle.tim.specs.declared.Timer.{Timer}
use Rattle.tim.specs.declared.Inst.{Inst}
use Rattle.tim.specs.Timer.{with_count}
use Rattle.tim.specs.Count.{at_count}
use Rattle.tim.specs.Change.{with_done}
use Rattle.regs.specs.Regs.{with_ccr, with_ccr_act}
use Rattle.codec.specs.Codec.{u32_at, decode_timer}
use Rattle.codec.specs.Pin.{flag_at}
use Rattle.machine.specs.Board.{timer_at, with_timer}
use Rattle.state.proofs.Cut.{front_at}
use Rattle.state.specs.View.{view}
use Rattle.fields.specs.Field.{with_reg}
use Rattle.fields.proofs.Words.{block, held, unchanged, changed, fields-set, field-set}
use Rattle.fields.proofs.Decoded as D

module _ (w : List ℕ) (i : ℕ) (size : length w ≡ 5276) (h : i < 8) where
  pub reg-set : (k v : ℕ) → k < 6 → v < 4294967296
      → (x : List Float) → view (set w (i * 40 + (7 + k)) v) x ≡ with_timer (view w x) i (with_reg (timer_at (view w x) i) k v)
  reg-set k v g f = field-set w i h (7 + k) v (λ t. with_reg t k v) size (omega arith) (D.reg (drop (i * 40) w) k v g f)

  pub ccr-set : (ch v : ℕ) → ch < 4 → v < 4294967296
      → (x : List Float) → view (set w (i * 40 + (17 + ch)) v) x ≡ with_timer (view w x) i (with_ccr (timer_at (view w x) i) ch v)
  ccr-set ch v g f = field-set w i h (17 + ch) v (λ t. with_ccr t ch v) size (omega arith) (D.ccr (drop (i * 40) w) ch v g f)

  pub ccr-act-set : (ch v : ℕ) → ch < 4 → v < 4294967296
      → (x : List Float) → view (set w (i * 40 + (21 + ch)) v) x ≡ with_timer (view w x) i (with_ccr_act (timer_at (view w x) i) ch v)
  ccr-act-set ch v g f = field-set w i h (21 + ch) v (λ t. with_ccr_act t ch v) size (omega arith) (D.ccr-act (drop (i * 40) w) ch v g f)

  pub done-set : (ch : ℕ) (on : Bool) → ch < 4
      → (x : List Float) → view (set w (i * 40 + (25 + ch)) (bool_byte on)) x
      ≡ with_timer (view w x) i (with_done (timer_at (view w x) i) (set (timer_at (view w x) i).chan.cc_done ch on))
  done-set ch on g =
      field-set w i h (25 + ch) (bool_byte on) (λ t. with_done t (set t.chan.cc_done ch on)) size (omega arith) (D.done (drop (i * 40) w) ch on g)

  -- several words, each by its place in the timer
  pub at_set : (cnt base : ℕ) → cnt < 4294967296 → base < 9223372036854775808
      → (x : List Float) → view (set (set w (i * 40 + 35) cnt) (i * 40 + 36) base) x
      ≡ with_timer (view w x) i (with_count (timer_at (view w x) i) (at_count (timer_at (view w x) i).count cnt base))
  at_set cnt base f g =
      fields-set w i h _ _ (λ t. with_count t (at_count t.count cnt base))
      (changed w i h _ _ 36 base (omega arith) (changed w i h _ _ 35 cnt (omega arith) (unchanged w i h size)))
      (D.at (drop (i * 40) w) cnt base f g)

-- ---- words read

-- seven numbers and a mode as the fixed parts
abbrev pub inst_of : ℕ → ℕ → ℕ → ℕ → ℕ → ℕ → ℕ → Bool → Inst
inst_of n width channels apb irq reg bit mode = record { n = n; width = width; channels = channels; apb = apb; irq = irq; en_reg = reg; en_bit = bit; manual = mode }

module _ (w : List ℕ) (i : ℕ) (x : List Float) (h : i < 8) where
  at-word : (k : ℕ) → k < 40 → get_or (block w i) k 0 ≡ get_or w (i * 40 + k) 0
  at-word k f = front_at 0 40 (drop (i * 40) w) k f ∙ get_or-drop (i * 40) w k 0

  word : (k : ℕ) → k < 40 → get_or (block w i) k 0 % 4294967296 ≡ get_or w (i * 40 + k) 0 % 4294967296
  word k f = ap (λ (n : ℕ). n % 4294967296) (at-word k f)

  -- a mode word
  pub ccmr-read : (q : ℕ) → q < 2 → get_or (timer_at (view w x) i).chan.ccmr q 0 ≡ get_or w (i * 40 + (15 + q)) 0 % 4294967296
  unfolding decode_timer
  ccmr-read q g = ap (λ (t : Timer). get_or t.chan.ccmr q 0) (held w i h x) ∙ go q g
    where
      go : (q : ℕ) → q < 2 → get_or (decode_timer (block w i)).chan.ccmr q 0 ≡ get_or w (i * 40 + (15 + q)) 0 % 4294967296
      go zero f = word 15 (omega arith)
      go (suc zero) f = word 16 (omega arith)
      go (suc (suc q)) f = absurd (omega arith)

  -- the counter
  pub cnt-read : (timer_at (view w x) i).count.cnt0 ≡ get_or w (i * 40 + 35) 0 % 4294967296
  unfolding decode_timer
  cnt-read = ap (λ (t : Timer). t.count.cnt0) (held w i h x) ∙ word 35 (omega arith)

  -- the fixed parts
  pub inst-read : inst_of (u32_at w (i * 40)) (u32_at w (i * 40 + 1)) (u32_at w (i * 40 + 2)) (u32_at w (i * 40 + 3)) (u32_at w (i * 40 + 4)) (u32_at w (i * 40 + 5)) (u32_at w (i * 40 + 6)) (flag_at w (i * 40 + 39))
      ≡ (timer_at (view w x) i).inst
  unfolding decode_timer
  inst-read =
      let start : i * 40 + 0 ≡ i * 40 = omega arith in
      sym (ap (λ (t : Timer). t.inst) (held w i h x)
      ∙ simp (word 0 (omega arith) ∙ ap (u32_at w) start, word 1 (omega arith), word 2 (omega arith), word 3 (omega arith), word 4 (omega arith), word 5 (omega arith), word 6 (omega arith), at-word 39 (omega arith)))
