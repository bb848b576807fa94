-- A timer's parts, and names for what is read of them.
use Rattle.std.specs.Prelude.{Bool, false, cond, ℕ, ◌/◌, ◌≤◌, ◌<◌, eqb, ltb, get_or}
use Rattle.rm0440.specs.Bits.{DIR}
use Rattle.rm0440.specs.Output as Out
use Rattle.tim.specs.declared.Timer.{Timer}
use Rattle.tim.specs.declared.Regs.{Regs}
use Rattle.tim.specs.declared.Chan.{Chan}
use Rattle.tim.specs.declared.Count.{Count}

-- the bounds that every timer of the board has: no sum or product of the code can overflow
pub record Bounds (psc psc_act tick base : ℕ) : Type 0 where
  pub psc-lt : psc < 65536
  pub psc_act-lt : psc_act < 65536
  pub tick-pos : 0 < tick
  pub tick-le : tick ≤ 536870912
  pub base-lt : base < 9223372036854775808

abbrev pub Fit : Timer → Type 0
Fit t = Bounds t.regs.psc t.count.psc_act t.count.tick t.count.base

-- what a call brings: a cycle of at most 2^62, and a divider of the clock tree, "1 to 8,192"
pub record Ready (t : Timer) (now div : ℕ) : Type 0 where
  pub fit : Fit t
  pub now-lt : now < 9223372036854775808
  pub div-pos : 0 < div
  pub div-le : div ≤ 8192

-- the timer with one part another
abbrev pub with_regs : Timer → Regs → Timer
with_regs t r = record { inst = t.inst; regs = r; chan = t.chan; count = t.count }

abbrev pub with_cr1 : Timer → ℕ → Timer
with_cr1 t v = with_regs t (record { cr1 = v; cr2 = t.regs.cr2; smcr = t.regs.smcr; dier = t.regs.dier; sr = t.regs.sr; ccer = t.regs.ccer; psc = t.regs.psc; arr = t.regs.arr })

abbrev pub with_chan : Timer → Chan → Timer
with_chan t h = record { inst = t.inst; regs = t.regs; chan = h; count = t.count }

abbrev pub with_count : Timer → Count → Timer
with_count t k = record { inst = t.inst; regs = t.regs; chan = t.chan; count = k }

-- the largest number of the timer's width
abbrev pub max : Timer → ℕ
max t = cond (eqb t.inst.width 32) 4294967295 65535

-- counting down: DIR, which a timer without channels lacks
abbrev pub down : Timer → Bool
down t = cond (eqb t.inst.channels 0) false (DIR t.regs.cr1)

-- channel ch's byte of CCMR1 or CCMR2
abbrev pub ccmr_byte : Timer → ℕ → ℕ
ccmr_byte t ch = Out.ccmr_byte ch (get_or t.chan.ccmr (ch / 2) 0)

abbrev pub oc_mode : Timer → ℕ → ℕ
oc_mode t ch = Out.OCxM (ccmr_byte t ch)

-- "channel below the timer's channel count, an output"
abbrev pub is_output : Timer → ℕ → Bool
is_output t ch = cond (ltb ch t.inst.channels) (Out.is_output (ccmr_byte t ch)) false

-- the compare value in use
abbrev pub ccr_in_use : Timer → ℕ → ℕ
ccr_in_use t ch = get_or t.chan.ccr_act ch 0
