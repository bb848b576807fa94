-- Figures of the machine, computed: inputs beside expected values. Assumes nothing.
use mathlib.Core.Bool.{Bool, true, false, cond, ◌&&◌}
use mathlib.Core.List.{List, [], ◌∷◌}
use mathlib.Core.Path.{◌≡◌, refl}
use Prim.Native.Nat.{ℕ, zero, suc, ◌%◌}
use lib.Dec.{eqb}
use lib.ListN.{get_or}
use Rattle.rm0440.specs.Registers.{mask, bits}
use Rattle.rm0440.specs.Output.{ocref, at_match}
use Rattle.rm0440.specs.Rules.{Rules, manual, port_rules, rust}
use Rattle.rm0440.specs.State.{Timer, down}
use Rattle.rm0440.specs.Clock.{wraps, restarted, pulse_ended, update_event, wrapped, matched, stepped, clock}
use Rattle.rm0440.specs.Level.{level}
use Rattle.rm0440.specs.Write.{answered, write_cr1, write_egr, write_cnt, write_arr, write_ccmr, write_ccr, write_channel, write}
use Rattle.rm0440.specs.Read.{read}

-- TIM3 out of reset: 16 bits, four channels
abbrev pub fresh : Timer
fresh = record {
  channels = 4;
  max = 65535;
  cr1 = 0;
  sr = 0;
  regs = 0 ∷ 0 ∷ 0 ∷ 0 ∷ 0 ∷ 0 ∷ 0 ∷ 0 ∷ 0 ∷ 0 ∷ 0 ∷ 65535 ∷ [];
  modes = 0 ∷ 0 ∷ [];
  compares = 0 ∷ 0 ∷ 0 ∷ 0 ∷ [];
  psc = 0;
  arr = 65535;
  ccr = 0 ∷ 0 ∷ 0 ∷ 0 ∷ [];
  on = false;
  pre = 0;
  cnt = 0;
  ref = false ∷ false ∷ false ∷ false ∷ [];
  done = false ∷ false ∷ false ∷ false ∷ [];
}

-- ARR, CCR1, CNT, CCMR1 (mode), CCER, then CR1
abbrev pub pilot : Rules → ℕ → ℕ → ℕ → ℕ → ℕ → Timer
pilot r arr ccr cnt ccmr cr1 = write r 0 cr1 (write r 0x10 0 (write r 0x20 1 (write r 0x18 ccmr (write r 0x34 ccr (write r 0x24 cnt (write r 0x2c arr fresh))))))

-- what is seen of a timer over n clocks, from now on
unfoldable pub over : {A : Type 0} → Rules → (Timer → A) → ℕ → Timer → List A
over r f zero t = []
over r f (suc n) t = f t ∷ over r f n (clock r t)

abbrev pub bit : Bool → ℕ
bit b = cond b 1 0

abbrev pub out : Timer → ℕ
out t = bit (level t 0)

abbrev pub count : Timer → ℕ
count t = t.cnt

-- UIF and CC1IF
abbrev pub sr : Timer → ℕ
sr t = read 0x10 t % 4

-- the reload in use and the reload written, ARPE and UDIS set, after UG
abbrev pub under_udis : Rules → List ℕ
under_udis r = let t = write r 0x14 1 (write r 0x2c 7 (write r 0 0x82 fresh)) in t.arr ∷ read 0x2c t ∷ []

-- running upward with a step of 3 clocks
abbrev pub slow : Rules → Timer
slow r = write r 0 1 (write r 0x14 1 (write r 0x28 2 fresh))

-- in manual mode, reload 0 written 1 clock into the step from 1
abbrev pub held : Timer
held = let r = port_rules true in write r 0x2c 0 (clock r (clock r (clock r (clock r (slow r)))))

-- prescaler, reload and compare of channel 1 in use after writes of 2, 6 and 1, and again after UG; CR1 and CCMR1 as given
abbrev pub in_use : Timer → List ℕ → List ℕ
in_use t rest = t.psc ∷ t.arr ∷ get_or t.ccr 0 0 ∷ rest

abbrev pub preloaded : ℕ → ℕ → List ℕ
preloaded cr1 ccmr =
    let a = write rust 0x18 ccmr (write rust 0 cr1 (write rust 0x34 3 (write rust 0x2c 4 fresh))) in
    let b = write rust 0x34 1 (write rust 0x2c 6 (write rust 0x28 2 a)) in
    in_use b (in_use (write rust 0x14 1 b) [])

abbrev pub four_compares : Timer
four_compares = write rust 0 1 (write rust 0x40 4 (write rust 0x3c 3 (write rust 0x38 2 (write rust 0x34 1 fresh))))

pub record Figure : Type 0 where
  pub got : List ℕ
  pub expected : List ℕ

-- pilot RULES RELOAD COMPARE COUNTER CCMR1 CR1
unfoldable pub figures : List Figure
figures =
    -- PWM mode 1 upward, reload 9, compare 3: by the manual one clock late (start-delay), by the Rust not
    record { got = over manual out 25 (pilot manual 9 3 0 0x60 1); expected = 1 ∷ 1 ∷ 1 ∷ 1 ∷ 0 ∷ 0 ∷ 0 ∷ 0 ∷ 0 ∷ 0 ∷ 0 ∷ 1 ∷ 1 ∷ 1 ∷ 0 ∷ 0 ∷ 0 ∷ 0 ∷ 0 ∷ 0 ∷ 0 ∷ 1 ∷ 1 ∷ 1 ∷ 0 ∷ [] }
    ∷ record { got = over rust out 25 (pilot rust 9 3 0 0x60 1); expected = 1 ∷ 1 ∷ 1 ∷ 0 ∷ 0 ∷ 0 ∷ 0 ∷ 0 ∷ 0 ∷ 0 ∷ 1 ∷ 1 ∷ 1 ∷ 0 ∷ 0 ∷ 0 ∷ 0 ∷ 0 ∷ 0 ∷ 0 ∷ 1 ∷ 1 ∷ 1 ∷ 0 ∷ 0 ∷ [] }
    -- downward from 4, reload 9; its SR with compare 2: CC1IF, then UIF too
    ∷ record { got = over rust count 8 (pilot rust 9 2 4 0x60 0x11); expected = 4 ∷ 3 ∷ 2 ∷ 1 ∷ 0 ∷ 9 ∷ 8 ∷ 7 ∷ [] }
    ∷ record { got = over rust sr 8 (pilot rust 9 2 4 0x60 0x11); expected = 0 ∷ 0 ∷ 2 ∷ 2 ∷ 2 ∷ 3 ∷ 3 ∷ 3 ∷ [] }
    -- one-pulse, reload 2: by the manual CEN falls and the counter stands; by the Rust CEN stays; under UDIS the manual goes on
    ∷ record { got = over manual (read 0) 6 (pilot manual 2 9 0 0 9); expected = 9 ∷ 9 ∷ 9 ∷ 9 ∷ 8 ∷ 8 ∷ [] }
    ∷ record { got = over manual count 7 (pilot manual 2 9 0 0 9); expected = 0 ∷ 0 ∷ 1 ∷ 2 ∷ 0 ∷ 0 ∷ 0 ∷ [] }
    ∷ record { got = over rust (read 0) 6 (pilot rust 2 9 0 0 9); expected = 9 ∷ 9 ∷ 9 ∷ 9 ∷ 9 ∷ 9 ∷ [] }
    ∷ record { got = over rust count 7 (pilot rust 2 9 0 0 9); expected = 0 ∷ 1 ∷ 2 ∷ 0 ∷ 0 ∷ 0 ∷ 0 ∷ [] }
    ∷ record { got = over manual count 7 (pilot manual 2 9 0 0 11); expected = 0 ∷ 0 ∷ 1 ∷ 2 ∷ 0 ∷ 1 ∷ 2 ∷ [] }
    -- by the Rust it stops there, in manual mode it goes on, CEN set, and ends where UDIS is clear
    ∷ record { got = over rust count 7 (pilot rust 2 9 0 0 11); expected = 0 ∷ 1 ∷ 2 ∷ 0 ∷ 0 ∷ 0 ∷ 0 ∷ [] }
    ∷ record { got = over (port_rules true) count 7 (pilot (port_rules true) 2 9 0 0 11); expected = 0 ∷ 1 ∷ 2 ∷ 0 ∷ 1 ∷ 2 ∷ 0 ∷ [] }
    ∷ record { got = over (port_rules true) (read 0) 7 (pilot (port_rules true) 2 9 0 0 11); expected = 11 ∷ 11 ∷ 11 ∷ 11 ∷ 11 ∷ 11 ∷ 11 ∷ [] }
    ∷ record { got = over (port_rules true) (read 0) 5 (pilot (port_rules true) 2 9 0 0 9); expected = 9 ∷ 9 ∷ 9 ∷ 8 ∷ 8 ∷ [] }
    -- centre-aligned, reload 4: the count; DIR; PWM mode 1 with compare 2 is high 4 of 8
    ∷ record { got = over manual count 20 (pilot manual 4 2 0 0x60 0x61); expected = 0 ∷ 0 ∷ 1 ∷ 2 ∷ 3 ∷ 4 ∷ 3 ∷ 2 ∷ 1 ∷ 0 ∷ 1 ∷ 2 ∷ 3 ∷ 4 ∷ 3 ∷ 2 ∷ 1 ∷ 0 ∷ 1 ∷ 2 ∷ [] }
    ∷ record { got = over manual (λ t. bit (down t)) 11 (pilot manual 4 2 0 0x60 0x61); expected = 0 ∷ 0 ∷ 0 ∷ 0 ∷ 0 ∷ 1 ∷ 1 ∷ 1 ∷ 1 ∷ 0 ∷ 0 ∷ [] }
    ∷ record { got = over manual out 20 (pilot manual 4 2 0 0x60 0x61); expected = 1 ∷ 1 ∷ 1 ∷ 0 ∷ 0 ∷ 0 ∷ 0 ∷ 1 ∷ 1 ∷ 1 ∷ 1 ∷ 0 ∷ 0 ∷ 0 ∷ 0 ∷ 1 ∷ 1 ∷ 1 ∷ 1 ∷ 0 ∷ [] }
    -- CMS 1 flags compare 2 on the way down, CMS 2 on the way up; UIF at each turn
    ∷ record { got = over manual sr 10 (pilot manual 4 2 0 0x60 0x21); expected = 0 ∷ 0 ∷ 0 ∷ 0 ∷ 0 ∷ 1 ∷ 1 ∷ 3 ∷ 3 ∷ 3 ∷ [] }
    ∷ record { got = over manual sr 10 (pilot manual 4 2 0 0x60 0x41); expected = 0 ∷ 0 ∷ 0 ∷ 2 ∷ 2 ∷ 3 ∷ 3 ∷ 3 ∷ 3 ∷ 3 ∷ [] }
    -- toggle mode with CMS 1: every match acts on the output, those on the way down alone set the flag
    ∷ record { got = over manual out 12 (pilot manual 4 2 0 0x30 0x21); expected = 0 ∷ 0 ∷ 0 ∷ 1 ∷ 1 ∷ 1 ∷ 1 ∷ 0 ∷ 0 ∷ 0 ∷ 0 ∷ 1 ∷ [] }
    ∷ record { got = over manual sr 8 (pilot manual 4 2 0 0x30 0x21); expected = 0 ∷ 0 ∷ 0 ∷ 0 ∷ 0 ∷ 1 ∷ 1 ∷ 3 ∷ [] }
    -- ARPE set and ARR written 6 on the way: at the overflow the counter takes the reload just loaded
    ∷ record { got = over manual count 12 (write manual 0x2c 6 (pilot manual 4 2 0 0x60 0xe1)); expected = 0 ∷ 0 ∷ 1 ∷ 2 ∷ 3 ∷ 6 ∷ 5 ∷ 4 ∷ 3 ∷ 2 ∷ 1 ∷ 0 ∷ [] }
    -- once started, a pilot is outside every case: both rules give the same levels
    ∷ record { got = over manual out 13 (pilot rust 9 3 0 0x60 1); expected = 1 ∷ 1 ∷ 1 ∷ 0 ∷ 0 ∷ 0 ∷ 0 ∷ 0 ∷ 0 ∷ 0 ∷ 1 ∷ 1 ∷ 1 ∷ [] }
    -- reload 0: blocked by the manual; by the Rust an update at each step
    ∷ record { got = over manual sr 4 (pilot manual 0 9 0 0 1); expected = 0 ∷ 0 ∷ 0 ∷ 0 ∷ [] }
    ∷ record { got = over rust sr 4 (pilot rust 0 9 0 0 1); expected = 0 ∷ 1 ∷ 1 ∷ 1 ∷ [] }
    -- in manual mode it is blocked too, also above 0 (a step of 3 clocks, counter 1); from a reload that returns on it counts a whole step
    ∷ record { got = over (port_rules true) sr 4 (pilot (port_rules true) 0 9 0 0 1); expected = 0 ∷ 0 ∷ 0 ∷ 0 ∷ [] }
    ∷ record { got = over (port_rules true) count 4 held; expected = 1 ∷ 1 ∷ 1 ∷ 1 ∷ [] }
    ∷ record { got = over (port_rules true) count 5 (write (port_rules true) 0x2c 9 held); expected = 1 ∷ 1 ∷ 1 ∷ 2 ∷ 2 ∷ [] }
    -- counter 6 above the reload 4 counts on; the Rust serves 5 and wraps at once
    ∷ record { got = over manual count 4 (pilot manual 4 9 6 0 1); expected = 6 ∷ 6 ∷ 7 ∷ 8 ∷ [] }
    ∷ record { got = over rust count 4 (pilot rust 4 9 5 0 1); expected = 0 ∷ 1 ∷ 2 ∷ 3 ∷ [] }
    -- UG under UDIS: the manual keeps the reload in use, the Rust loads the written one (ARPE set first)
    ∷ record { got = under_udis manual; expected = 65535 ∷ 7 ∷ [] }
    ∷ record { got = under_udis rust; expected = 7 ∷ 7 ∷ [] }
    -- a step of 3 clocks: UG inside one begins a whole step; CNT written there does not, by the Rust it does
    ∷ record { got = over rust count 5 (write rust 0x14 1 (clock rust (slow rust))); expected = 0 ∷ 0 ∷ 0 ∷ 1 ∷ 1 ∷ [] }
    ∷ record { got = over manual count 5 (write manual 0x24 0 (clock manual (slow rust))); expected = 0 ∷ 0 ∷ 1 ∷ 1 ∷ 1 ∷ [] }
    ∷ record { got = over rust count 5 (write rust 0x24 0 (clock rust (slow rust))); expected = 0 ∷ 0 ∷ 0 ∷ 1 ∷ 1 ∷ [] }
    -- preload: PSC, ARR with ARPE and CCR1 with OC1PE act at the next update; without, ARR and CCR1 at once
    ∷ record { got = preloaded 0x80 8; expected = 0 ∷ 4 ∷ 3 ∷ 2 ∷ 6 ∷ 1 ∷ [] }
    ∷ record { got = preloaded 0 0; expected = 0 ∷ 6 ∷ 1 ∷ 2 ∷ 6 ∷ 1 ∷ [] }
    -- each channel has its own flag: compares 1 to 4 upward, one after the other
    ∷ record { got = over rust (read 0x10) 6 four_compares; expected = 0 ∷ 2 ∷ 6 ∷ 14 ∷ 30 ∷ 30 ∷ [] }
    ∷ []

-- the figures that the definitions do not give: none
abbrev pub same : List ℕ → List ℕ → Bool
same [] [] = true
same [] (b ∷ bs) = false
same (a ∷ xs) [] = false
same (a ∷ xs) (b ∷ bs) = eqb a b && same xs bs

abbrev pub wrong : List Figure → List (List ℕ)
wrong [] = []
wrong (f ∷ fs) = cond (same f.got f.expected) (wrong fs) (f.got ∷ wrong fs)

pub figures-hold : wrong figures ≡ []
unfolding figures over pulse_ended update_event answered mask bits ocref at_match wraps restarted wrapped matched level stepped clock write_cr1 write_egr write_cnt write_arr write_ccmr write_ccr write_channel write read
figures-hold = refl
