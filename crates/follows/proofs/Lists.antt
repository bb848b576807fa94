-- The call lists of docs/differences, of the cases that the machine has: the state before the call that shows the difference meets the case. Computed.
use mathlib.Core.Bool.{Bool, true, false, ◌&&◌}
use mathlib.Core.List.{List, [], ◌∷◌}
use mathlib.Core.Path.{◌≡◌, refl}
use Prim.Native.Nat.{ℕ}
use Rattle.rm0440.specs.Registers.{mask, bits}
use Rattle.rm0440.specs.Output.{ocref, at_match}
use Rattle.rm0440.specs.Rules.{manual, rust}
use Rattle.rm0440.specs.State.{Timer}
use Rattle.rm0440.specs.Clock.{wraps, restarted, pulse_ended, update_event, wrapped, matched, stepped, clock, clocks}
use Rattle.rm0440.specs.Write.{answered, kept_cr1, new_cr1, write_cr1, write_egr, left_cnt, write_cnt, left_arr, write_arr, stored_ccmr, write_ccmr, write_ccr, write_channel, write}
use Rattle.rm0440.specs.Cases as C
use Rattle.rm0440.specs.Cases.{some}
use Rattle.rm0440.specs.WriteCases as W

-- a timer out of reset
abbrev pub fresh : ℕ → ℕ → Timer
fresh channels max = record {
  channels = channels;
  max = max;
  cr1 = 0;
  sr = 0;
  regs = 0 ∷ 0 ∷ 0 ∷ 0 ∷ 0 ∷ 0 ∷ 0 ∷ 0 ∷ 0 ∷ 0 ∷ 0 ∷ max ∷ [];
  modes = 0 ∷ 0 ∷ [];
  compares = 0 ∷ 0 ∷ 0 ∷ 0 ∷ [];
  psc = 0;
  arr = max;
  ccr = 0 ∷ 0 ∷ 0 ∷ 0 ∷ [];
  on = false;
  pre = 0;
  cnt = 0;
  ref = false ∷ false ∷ false ∷ false ∷ [];
  done = false ∷ false ∷ false ∷ false ∷ [];
}

-- the lists' timers: timer 6 of 16 bits without channels, and timer 2 of 32 bits with one channel
abbrev pub t6 : Timer
t6 = fresh 0 65535

abbrev pub t2 : Timer
t2 = fresh 1 4294967295

-- a write, and clocks, by the Rust's rules
abbrev pub w : ℕ → ℕ → Timer → Timer
w off v t = write rust off v t

abbrev pub after : ℕ → Timer → Timer
after n t = clocks rust n t

-- running with a reload; with a step of 10 clocks
abbrev pub from : Timer → ℕ → ℕ → Timer
from t reload cr1 = w 0 cr1 (w 0x2c reload t)

abbrev pub slow : Timer → Timer
slow t = w 0x14 1 (w 0x28 9 t)

-- the write of CNT or ARR, of a state, meets counter and compare equal where the two rules differ
abbrev pub unlike : Timer → Timer → Bool
unlike t left = some (W.unlike rust t left)

abbrev pub matched_once : Timer
matched_once = after 3 (w 0 0x11 (w 0x24 5 (w 0x34 5 (slow t2))))

unfoldable pub meets : List Bool
meets =
    C.reload-zero (from t6 0 1)
    ∷ C.above-reload rust (left_cnt manual 10 (after 5 (from t6 9 1)))
    ∷ W.centre-written (w 0x2c 3 t2) (kept_cr1 t2 0x21)
    ∷ C.centre-aligned (from t2 3 0x21)
    ∷ W.start-delay t6 (new_cr1 manual t6 1)
    -- stop-phase
    ∷ W.stop-phase (after 9 (w 0 1 (slow t2))) (new_cr1 manual (after 9 (w 0 1 (slow t2))) 0)
    ∷ W.cnt-write-phase (after 5 (w 0 1 (slow t6)))
    ∷ C.one-pulse rust (after 1 (from t6 1 9))
    ∷ C.one-pulse-udis rust (after 1 (from t6 1 0xb))
    ∷ W.one-pulse-ug (after 1 (from t6 1 9))
    ∷ W.ug-under-udis (w 0 3 (w 0x28 7 t6))
    -- preload-cleared
    ∷ W.arpe-cleared (w 0x2c 4 (w 0 0x80 (w 0x2c 9 t6))) (new_cr1 manual (w 0x2c 4 (w 0 0x80 (w 0x2c 9 t6))) 1)
    -- and of OCxPE, which no list has
    ∷ some (W.ocpe-cleared (stored_ccmr 0 0 (w 0x34 5 (w 0x18 8 t2))))
    -- done-equality and stopped-match (the list's starts meet start-delay); match-again; one-pulse-last-match
    ∷ unlike (w 0x34 5 t2) (left_cnt manual 5 (w 0x34 5 t2))
    ∷ unlike matched_once (left_arr manual 9 matched_once)
    ∷ C.done-equality rust (w 0 9 (w 0x24 1 (w 0x2c 1 t2)))
    ∷ C.compare-above-reload rust (after 9 (w 0 1 (w 0x34 20 (w 0x2c 9 t2))))
    ∷ some (W.mode-change-latch (w 0x20 1 (w 0x18 0x50 t2)) (stored_ccmr 0 0 (w 0x20 1 (w 0x18 0x50 t2))))
    ∷ some (W.ccg-latches 2 (w 0x20 1 (w 0x18 0x10 t2)))
    ∷ W.trigger-generation 0x40
    ∷ []

abbrev pub all : List Bool → Bool
all [] = true
all (b ∷ bs) = b && all bs

pub met : all meets ≡ true
unfolding meets mask bits ocref at_match wraps restarted pulse_ended update_event wrapped matched stepped clock clocks answered write_cr1 write_egr write_cnt write_arr write_ccmr write_ccr write_channel write
met = refl
