-- The programmed pilot, and how far a timer that runs it has come.
use Prim.Native.Nat.{ℕ, ◌+◌, ◌-◌, ◌*◌, ◌≤◌, ◌<◌, min}
use mathlib.Core.Path.{◌≡◌, refl}
use mathlib.Core.Bool.{Bool, true, false, ◌&&◌}
use mathlib.Core.List.{[]}
use native.Mathlib.Omega.{arith}
use lib.Dec.{eqb, ltb}
use borrow.Author.Tests.{ne_eqb}
use lib.ListN.{get_or}
use Rattle.rm0440.specs.Bits.{OPM}
use Rattle.rm0440.specs.Counter.{step_cycles}
use Rattle.rm0440.specs.Output as Out
use Rattle.tim.specs.declared.Timer.{Timer}
use Rattle.tim.specs.Timer.{down, is_output, oc_mode, ccr_in_use}
use Rattle.tim.specs.Count.{counts}
use Rattle.tim.specs.Next.{next_steps}
use Rattle.sig.specs.Signal.{tim_signal}
use Rattle.gpio.specs.Gpio.{bit}
use Rattle.accuracy.proofs.Wave.{wave}

-- what is programmed: timer number, bus and channel, prescaler and divider, cycles of a step, reload, compare, and the first update's cycle
pub record Aim : Type 0 where
  pub n : ℕ
  pub apb : ℕ
  pub ch : ℕ
  pub psc : ℕ
  pub div : ℕ
  pub tick : ℕ
  pub reload : ℕ
  pub compare : ℕ
  pub first : ℕ

abbrev pub period : Aim → ℕ
period a = a.tick * (a.reload + 1)

abbrev pub high : Aim → ℕ
high a = a.tick * min a.compare (a.reload + 1)

abbrev pub signal_of : Aim → ℕ
signal_of a = tim_signal a.n a.ch

-- a timer without what events and quiet writes change: flags, levels, channels done, and how far it has come
abbrev pub frame : Timer → Timer
frame t = record {
  inst = t.inst;
  regs = record { cr1 = t.regs.cr1; cr2 = 0; smcr = 0; dier = 0; sr = 0; ccer = t.regs.ccer; psc = t.regs.psc; arr = t.regs.arr };
  chan = record { ccmr = t.chan.ccmr; ccr = t.chan.ccr; ccr_act = t.chan.ccr_act; oc = []; cc_done = [] };
  count = record { psc_act = t.count.psc_act; arr_act = t.count.arr_act; cnt0 = 0; base = 0; tick = t.count.tick; running = t.count.running };
}

-- a timer that is set so, and runs upward
pub record Programmed (a : Aim) (t : Timer) : Type 0 where
  pub number : t.inst.n ≡ a.n
  pub bus : t.inst.apb ≡ a.apb
  pub channel : a.ch < t.inst.channels
  pub four : a.ch < 4
  pub running : t.count.running ≡ true
  pub upward : down t ≡ false
  pub one-pulse : OPM t.regs.cr1 ≡ false
  pub psc-is : t.regs.psc ≡ a.psc
  pub psc-act : t.count.psc_act ≡ a.psc
  pub arr_is : t.regs.arr ≡ a.reload
  pub arr-act : t.count.arr_act ≡ a.reload
  pub ccr-is : get_or t.chan.ccr a.ch 0 ≡ a.compare
  pub ccr-act : ccr_in_use t a.ch ≡ a.compare
  pub tick_is : t.count.tick ≡ a.tick
  pub step_is : step_cycles a.psc a.div ≡ a.tick
  pub output : is_output t a.ch ≡ true
  pub enabled : Out.CCxE a.ch t.regs.ccer ≡ true
  pub polarity : Out.CCxP a.ch t.regs.ccer ≡ false
  pub mode : oc_mode t a.ch ≡ Out.pwm_mode1
  pub above_zero : t.inst.manual ≡ true → 0 < a.reload

-- of the frame, so that what leaves it leaves this, by computation
abbrev pub Fixed : Aim → Timer → Type 0
Fixed a t = Programmed a (frame t)

-- so it counts
pub counting : (a : Aim) (t : Timer) → Fixed a t → counts t ≡ true
counting a t f = rw (free t.inst.manual f.above_zero, f.running)
  where
    free : (m : Bool) → (m ≡ true → 0 < a.reload) → m && eqb t.count.arr_act 0 ≡ false
    free false h = refl
    free true h = ne_eqb t.count.arr_act 0 (λ e. omega (arith, h refl, f.arr-act, e))

-- the next event's cycle
abbrev pub due : Timer → ℕ
due t = t.count.base + (next_steps t).steps * t.count.tick

-- before the first update; or in the period k after it, where a channel that is done was due before what is next
pub record Coming (a : Aim) (t : Timer) : Type 0 where
  pub update : t.count.base + (a.reload + 1 - t.count.cnt0) * a.tick ≡ a.first

pub record InPeriod (a : Aim) (k : ℕ) (t : Timer) : Type 0 where
  pub base-is : t.count.base ≡ a.first + k * period a
  pub cnt-is : t.count.cnt0 ≡ 0
  pub passed : get_or t.chan.cc_done a.ch false ≡ true → a.compare ≤ a.reload → a.compare ≤ (next_steps t).steps

pub data Phase (a : Aim) (t : Timer) : Type 0 where
  coming : Coming a t → Phase a t
  in_period : (k : ℕ) → InPeriod a k t → Phase a t

-- from a timer to the next by an event at its cycle: what was programmed still is, and until the event after it the wave has the level of
-- the count x
pub record Goes (a : Aim) (t t₁ : Timer) (x : ℕ) : Type 0 where
  pub fixed : Fixed a t₁
  pub phase : Phase a t₁
  pub later : due t ≤ due t₁
  pub wave-is : (c : ℕ) → a.first ≤ c → due t ≤ c → c < due t₁ → wave (period a) (high a) a.first c ≡ bit (ltb x a.compare)
