-- What words with some of them changed decode to. Assumes nothing.
use mathlib.Core.Path.{◌≡◌, refl}
use mathlib.Core.Bool.{Bool, true, false}
use mathlib.Core.List.{List}
use Prim.Native.Nat.{ℕ, zero, suc, ◌+◌, ◌%◌, ◌<◌}
use native.Mathlib.Nat.{mod-eq_of_lt}
use native.Mathlib.Omega.{arith}
use lib.Dec.{eqb}
use lib.ListN.{set}
use mir.Val.{bool_byte}
use Rattle.tim.specs.declared.Timer.{Timer}
use Rattle.tim.specs.Timer.{with_count}
use Rattle.tim.specs.Count.{at_count}
use Rattle.tim.specs.Change.{with_done}
use Rattle.regs.specs.Regs.{with_ccr, with_ccr_act}
use Rattle.codec.specs.Codec.{decode_timer}
use Rattle.state.specs.Parts.{front}
use Rattle.fields.specs.Field.{with_reg}

flag : (b : Bool) → eqb (bool_byte b % 2) 1 ≡ b
flag true = refl
flag false = refl

module _ (m : List ℕ) where
  abbrev was : Timer
  was = decode_timer (front 0 40 m)

  pub reg : (k v : ℕ) → k < 6 → v < 4294967296 → decode_timer (set (front 0 40 m) (7 + k) v) ≡ with_reg was k v
  unfolding decode_timer front
  reg zero v h g = rw (mod-eq_of_lt g)
  reg (suc zero) v h g = rw (mod-eq_of_lt g)
  reg (suc (suc zero)) v h g = rw (mod-eq_of_lt g)
  reg (suc (suc (suc zero))) v h g = rw (mod-eq_of_lt g)
  reg (suc (suc (suc (suc zero)))) v h g = rw (mod-eq_of_lt g)
  reg (suc (suc (suc (suc (suc zero))))) v h g = rw (mod-eq_of_lt g)
  reg (suc (suc (suc (suc (suc (suc k)))))) v h g = absurd (omega arith)

  pub at : (cnt base : ℕ) → cnt < 4294967296 → base < 9223372036854775808
      → decode_timer (set (set (front 0 40 m) 35 cnt) 36 base) ≡ with_count was (at_count was.count cnt base)
  unfolding decode_timer front
  at cnt base h g = rw (mod-eq_of_lt h, mod-eq_of_lt g)

  pub ccr : (ch v : ℕ) → ch < 4 → v < 4294967296 → decode_timer (set (front 0 40 m) (17 + ch) v) ≡ with_ccr was ch v
  unfolding decode_timer front
  ccr zero v h g = rw (mod-eq_of_lt g)
  ccr (suc zero) v h g = rw (mod-eq_of_lt g)
  ccr (suc (suc zero)) v h g = rw (mod-eq_of_lt g)
  ccr (suc (suc (suc zero))) v h g = rw (mod-eq_of_lt g)
  ccr (suc (suc (suc (suc ch)))) v h g = absurd (omega arith)

  pub ccr-act : (ch v : ℕ) → ch < 4 → v < 4294967296 → decode_timer (set (front 0 40 m) (21 + ch) v) ≡ with_ccr_act was ch v
  unfolding decode_timer front
  ccr-act zero v h g = rw (mod-eq_of_lt g)
  ccr-act (suc zero) v h g = rw (mod-eq_of_lt g)
  ccr-act (suc (suc zero)) v h g = rw (mod-eq_of_lt g)
  ccr-act (suc (suc (suc zero))) v h g = rw (mod-eq_of_lt g)
  ccr-act (suc (suc (suc (suc ch)))) v h g = absurd (omega arith)

  pub done : (ch : ℕ) (on : Bool) → ch < 4 → decode_timer (set (front 0 40 m) (25 + ch) (bool_byte on)) ≡ with_done was (set was.chan.cc_done ch on)
  unfolding decode_timer front
  done zero on h = rw (flag on)
  done (suc zero) on h = rw (flag on)
  done (suc (suc zero)) on h = rw (flag on)
  done (suc (suc (suc zero))) on h = rw (flag on)
  done (suc (suc (suc (suc ch)))) on h = absurd (omega arith)
