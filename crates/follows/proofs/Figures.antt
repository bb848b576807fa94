-- Two writes of a timer that runs, computed: the port's beside the machine's.
use mathlib.Core.Bool.{true, false}
use mathlib.Core.List.{[], ◌∷◌}
use mathlib.Core.Path.{◌≡◌, refl}
use Prim.Native.Nat.{ℕ}
use Rattle.rm0440.specs.Registers.{mask, bits}
use Rattle.rm0440.specs.Clock.{matched}
use Rattle.rm0440.specs.Write.{answered, write_egr, write_arr, write}
use Rattle.tim.specs.declared.Timer.{Timer}
use Rattle.tim.specs.Count.{up_from, cnt_at, synced}
use Rattle.tim.specs.Change as T
use Rattle.regs.specs.Regs as R
use Rattle.follows.specs.Seen.{seen, rules_of, written}

-- timer 2, by a value of CR1, running from count 0 at cycle 0; reload 99, a step of 10 cycles
abbrev running : ℕ → Timer
running cr1 = record {
  inst = record { n = 2; width = 32; channels = 1; apb = 1; irq = 28; en_reg = 0; en_bit = 0; manual = false };
  regs = record { cr1 = cr1; cr2 = 0; smcr = 0; dier = 0; sr = 0; ccer = 0; psc = 9; arr = 99 };
  chan = record {
    ccmr = 0 ∷ 0 ∷ [];
    ccr = 50 ∷ 0 ∷ 0 ∷ 0 ∷ [];
    ccr_act = 50 ∷ 0 ∷ 0 ∷ 0 ∷ [];
    cc_done = false ∷ false ∷ false ∷ false ∷ [];
    oc = false ∷ false ∷ false ∷ false ∷ [];
  };
  count = record { psc_act = 9; arr_act = 99; cnt0 = 0; base = 0; tick = 10; running = true };
}

-- UG 5 cycles into a step: the prescaler's count is cleared
pub ug : seen (written (running 1) 0x14 1 25 1) 1 25 ≡ write (rules_of (running 1)) 0x14 1 (seen (running 1) 1 25)
unfolding mask bits matched write_egr write up_from cnt_at synced T.generated T.restarted T.recomputed_after_update T.matched T.cc_flag R.egr_update R.egr_written R.reg_written
ug = refl

-- ARR with ARPE: the reload in use stays
pub preload : seen (written (running 0x81) 0x2c 49 25 1) 1 25 ≡ write (rules_of (running 0x81)) 0x2c 49 (seen (running 0x81) 1 25)
unfolding mask bits matched answered write_arr write up_from cnt_at synced T.recomputed T.behind R.arr_written R.reg_written
preload = refl
