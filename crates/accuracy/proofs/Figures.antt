-- Document 01's twelve bench figures marked P, as one group: inputs beside expected values, and a single claim that the definitions give
-- them all.
use Prim.Native.Nat.{ℕ, ◌+◌, ◌^◌}
use mathlib.Core.Path.{◌≡◌, refl}
use mathlib.Core.Bool.{false}
use mathlib.Core.List.{List, [], ◌∷◌, map}
use lib.IntN.{pos}
use lib.Ieee.{Float, fin}
use Rattle.tim.specs.declared.Timer.{Timer}
use Rattle.tim.specs.Change.{retimed, reset_state}
use Rattle.tim.specs.Timer.{with_regs}
use Rattle.regs.specs.Regs.{reg_written, reg_read}
use Rattle.periph.specs.Lane.{lane_read, lane_write}
use Rattle.sig.specs.Signal.{tim_signal}
use Rattle.real.specs.Real.{nearest_to}
use Rattle.pins.specs.Pins.{only_held, blank, with_ext, with_level, resolved}
use Rattle.pins.specs.declared.ExtDrive.TheVariants as ext
use Rattle.pins.proofs.Figures.{v5·0, v3·0, v2·0, v1·5}
use Rattle.stepping.proofs.Figures.{inst, run, up, dn}
use Rattle.accuracy.proofs.Computed.{computed}
use Rattle.accuracy.proofs.Bench.{Bench, bench-holds}

-- CNT of a timer at cycles
abbrev counts : Timer → List ℕ → List ℕ
counts t cycles = map (reg_read t 0x24) cycles

-- an input's level at supply 5.0 for analogue volts; `held` is its level before
abbrev levels : ℕ → List Float → List ℕ
levels held volts = map (λ (v : Float). (resolved (with_ext (with_level blank held v5·0 only_held) (ext.Analog v)) v5·0).level) volts

-- a timer whose SR holds a value
abbrev flagged : ℕ → Timer
flagged sr =
    with_regs (reset_state inst 1) (record { cr1 = 0; cr2 = 0; smcr = 0; dier = 0; sr = sr; ccer = 0; psc = 0; arr = 0 })

pub record Twelve : Type 0 where
  -- "Upward, t 1, reload 9, started at cycle 100 from counter 0": "CNT at 109 is 9, at 110 is 0, at 125 is 5"
  pub upward : counts (run up 0 100 1) (109 ∷ 110 ∷ 125 ∷ []) ≡ 9 ∷ 0 ∷ 5 ∷ []
  -- "t 8, started at cycle 0: at 79 is 9, at 80 is 0"
  pub slower : counts (run up 0 0 8) (79 ∷ 80 ∷ []) ≡ 9 ∷ 0 ∷ []
  -- "down from 4, started at 0: at 4 is 0, at 5 and at 15 is 9"
  pub downward : counts (run dn 4 0 1) (4 ∷ 5 ∷ 15 ∷ []) ≡ 0 ∷ 9 ∷ 9 ∷ []
  -- "compare 3, a steady pilot, high at 100: edges low 103, high 110, low 113. Cycles 110 to 112: H 3, difference 21, the bound; 113 to 119: H 0, also 21."
  pub pilot : Bench
  -- "two-byte read at offset 3 of aabbccdd gives aa"
  pub lane-read : lane_read 0xaabb_ccdd 3 2 ≡ 0xaa
  -- "two-byte write there of 1234 over 0 gives 34000000"
  pub lane-write : lane_write 0 3 2 0x1234 ≡ 0x3400_0000
  -- "timer 2 channel 0 is signal 194"
  pub signal : tim_signal 2 0 ≡ 194
  -- "timer 4 channel 3 is 229"
  pub last-signal : tim_signal 4 3 ≡ 229
  -- "t 8, started at cycle 0, changed to t 4 at 13: CNT at 13 is 2"
  pub changed : counts (retimed (run up 0 0 8) 13 4) (13 ∷ []) ≡ 2 ∷ []
  -- "2^53 + 1 becomes 2^53; 2^53 + 3 becomes 2^53 + 4", which is (2^51 + 1) x 2^2
  pub nearest : map nearest_to ((2 ^ 53 + 1) ∷ (2 ^ 53 + 3) ∷ []) ≡ fin false 1 (pos 53) ∷ fin false (2 ^ 51 + 1) (pos 2) ∷ []
  -- "supply 5.0: 3.0 V is high, 1.5 low, 2.0 holds"
  pub analogue : (held : ℕ) → levels held (v3·0 ∷ v1·5 ∷ v2·0 ∷ []) ≡ 1 ∷ 0 ∷ held ∷ []
  -- "SR 1f, written fffffffe, is 1e"
  pub flags : (reg_written (flagged 0x1f) 0x10 0xffff_fffe 0 1).timer.regs.sr ≡ 0x1e

pub twelve : Twelve
unfolding computed
twelve = record {
  upward = refl;
  slower = refl;
  downward = refl;
  pilot = bench-holds;
  lane-read = refl;
  lane-write = refl;
  signal = refl;
  last-signal = refl;
  changed = refl;
  nearest = refl;
  analogue = λ held. refl;
  flags = refl;
}
