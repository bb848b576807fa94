-- The bench figures of document 01 that speak of counting: inputs beside expected values.
use Prim.Native.Nat.{ℕ}
use mathlib.Core.Bool.{false}
use mathlib.Core.Path.{◌≡◌, refl}
use mathlib.Core.List.{List, [], ◌∷◌, map}
use Rattle.rm0440.specs.Registers.{mask, bits}
use Rattle.rm0440.specs.Counter.{tick, tick_up, tick_down, after}
use Rattle.tim.specs.declared.Timer.{Timer}
use Rattle.tim.specs.declared.Inst.{Inst}
use Rattle.tim.specs.Timer.{down}
use Rattle.tim.specs.Count.{up_from, down_from, ticks_at, cnt_at, synced}
use Rattle.tim.specs.Change.{behind, recomputed, started, stopped, retimed, reset_state}
use Rattle.regs.specs.Regs.{turned, cr1_written, cnt_written, arr_written, reg_written, reg_read}

-- timer 2: 32 bits, four channels
abbrev pub inst : Inst
inst = record { n = 2; width = 32; channels = 4; apb = 1; irq = 28; en_reg = 0; en_bit = 0; manual = false }

abbrev pub write : ℕ → ℕ → ℕ → ℕ → Timer → Timer
write off v now t timer = (reg_written timer off v now t).timer

-- out of reset, ARR 9 and CNT written, then started by a write to CR1 at a cycle; a step is t cycles
abbrev pub run : ℕ → ℕ → ℕ → ℕ → Timer
run cr1 cnt start t = write 0x00 cr1 start t (write 0x24 cnt 0 t (write 0x2c 9 0 t (reset_state inst t)))

-- CR1: CEN; DIR and CEN
abbrev pub up : ℕ
up = 0x01

abbrev pub dn : ℕ
dn = 0x11

pub record Figure : Type 0 where
  pub timer : Timer
  pub cycle : ℕ
  pub cnt : ℕ

-- a timer, a cycle, and CNT then
unfoldable pub figures : List Figure
figures =
    record { timer = run up 0 100 1; cycle = 109; cnt = 9 }
    ∷ record { timer = run up 0 100 1; cycle = 110; cnt = 0 }
    ∷ record { timer = run up 0 100 1; cycle = 125; cnt = 5 }
    ∷ record { timer = run up 0 0 8; cycle = 79; cnt = 9 }
    ∷ record { timer = run up 0 0 8; cycle = 80; cnt = 0 }
    ∷ record { timer = run dn 4 0 1; cycle = 4; cnt = 0 }
    ∷ record { timer = run dn 4 0 1; cycle = 5; cnt = 9 }
    ∷ record { timer = run dn 4 0 1; cycle = 15; cnt = 9 }
    ∷ record { timer = retimed (run up 0 0 8) 13 4; cycle = 13; cnt = 2 }
    ∷ []

-- the definitions give them all: CNT read at the cycle
pub figures-read : map (λ (f : Figure). reg_read f.timer 0x24 f.cycle) figures ≡ map (λ (f : Figure). f.cnt) figures
unfolding figures mask bits reg_read reg_written cr1_written cnt_written arr_written turned started stopped recomputed behind retimed reset_state synced cnt_at up_from down_from
figures-read = refl

-- and so does RM0440's counter, by steps
pub figures-stepped :
    map (λ (f : Figure). after (tick (down f.timer) f.timer.count.arr_act) (ticks_at f.timer f.cycle) f.timer.count.cnt0) figures
    ≡ map (λ (f : Figure). f.cnt) figures
unfolding figures mask bits reg_read reg_written cr1_written cnt_written arr_written turned started stopped recomputed behind retimed reset_state synced cnt_at up_from down_from after tick_up tick_down
figures-stepped = refl
