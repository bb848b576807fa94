-- The board (document 01, "A call arrives at the board"): what a call reads and changes.
use Rattle.std.specs.Prelude.{false, List, [], ◌∷◌, ◌++◌, map, ℕ, zero, suc, ◌+◌, ◌-◌, ◌*◌, ◌%◌, get_or, set, replicate, length}
use Rattle.std.specs.Float.Ieee as Ieee
use Rattle.tim.specs.declared.Inst.{Inst}
use Rattle.tim.specs.Change.{reset_state}
use Rattle.pins.specs.Pins.{blank, only_held}
use Rattle.pins.specs.Clock as Clock
use Rattle.clk.specs.Clk.{flat_tree}
use Rattle.nvic.specs.Nvic.{idle}
use Rattle.scheduler.specs.Booking.{empty}
use Rattle.sig.specs.Signal.{idle_level}
use Rattle.tim.specs.declared.Timer.{Timer}
use Rattle.gpio.specs.declared.Gpio.{Gpio}
use Rattle.gpio.specs.declared.PinCfg.{PinCfg}
use Rattle.clk.specs.declared.ClockTree.{ClockTree}
use Rattle.pins.specs.declared.ClockModel.{ClockModel}
use Rattle.nvic.specs.Nvic.{Nvic}

-- the pins and what they are wired to: 128 pins, the signal table of 128 x 16 entries, the pin that routes each of 256 signals
-- (128 is no pin), the level that each signal wants, and the supply
pub record Pads : Type 0 where
  pub gpio : List Gpio
  pub af : List ℕ
  pub route : List ℕ
  pub sig_level : List ℕ
  pub vcc : Ieee.Float

-- the clock tree, cycles to time, and the nine clock-enable words
pub record Clocks : Type 0 where
  pub tree : ClockTree
  pub clock : ClockModel
  pub enr : List ℕ

-- the numbers of timers and pins, and the cycle of the last changing call
pub record Counts : Type 0 where
  pub timers : ℕ
  pub pins : ℕ
  pub last : ℕ

-- 8 timers, of which the first so many are the board's; the booked cycle of each, 2^64 - 1 if none
pub record Board : Type 0 where
  pub timers : List Timer
  pub booking : List ℕ
  pub nvic : Nvic
  pub pads : Pads
  pub clocks : Clocks
  pub counts : Counts

-- ---- places that hold no timer and no pin

abbrev pub no_inst : Inst
no_inst = record { n = 0; width = 0; channels = 0; apb = 0; irq = 0; en_reg = 0; en_bit = 0; manual = false }

abbrev pub no_timer : Timer
no_timer = record {
  inst = no_inst;
  regs = record { cr1 = 0; cr2 = 0; smcr = 0; dier = 0; sr = 0; ccer = 0; psc = 0; arr = 0 };
  chan = record {
    ccmr = 0 ∷ 0 ∷ [];
    ccr = 0 ∷ 0 ∷ 0 ∷ 0 ∷ [];
    ccr_act = 0 ∷ 0 ∷ 0 ∷ 0 ∷ [];
    cc_done = false ∷ false ∷ false ∷ false ∷ [];
    oc = false ∷ false ∷ false ∷ false ∷ [];
  };
  count = record { psc_act = 0; arr_act = 0; cnt0 = 0; base = 0; tick = 1; running = false };
}

-- the configuration after a reset: an input
abbrev pub plain_cfg : PinCfg
plain_cfg = record { mode = 0; open_drain = false; odr = 0; pullup = false; pulldown = false }

abbrev pub blank_gpio : Gpio
blank_gpio = record { cfg = plain_cfg; pin = blank; sig = 0 }

-- past the last pin: as blank, without volts
abbrev pub no_gpio : Gpio
no_gpio = record { cfg = plain_cfg; pin = record { mcu = blank.mcu; ext = blank.ext; level = 0; volts = Ieee.nan; source = only_held }; sig = 0 }

-- the route of a signal that no pin takes
abbrev pub no_pin : ℕ
no_pin = 128

-- ---- what stands at an index, and a board with one thing another

abbrev pub timer_at : Board → ℕ → Timer
timer_at b i = get_or b.timers i no_timer

abbrev pub gpio_at : Pads → ℕ → Gpio
gpio_at p i = get_or p.gpio i no_gpio

abbrev pub route_of : Pads → ℕ → ℕ
route_of p s = get_or p.route s no_pin

abbrev pub level_of : Pads → ℕ → ℕ
level_of p s = get_or p.sig_level s 0

-- entry of pin i and function f: "the function number counts mod 16"
abbrev pub function_of : Pads → ℕ → ℕ → ℕ
function_of p i f = get_or p.af (i * 16 + f % 16) 0

abbrev pub with_gpio : Pads → ℕ → Gpio → Pads
with_gpio p i g = record { gpio = set p.gpio i g; af = p.af; route = p.route; sig_level = p.sig_level; vcc = p.vcc }

abbrev pub with_route : Pads → ℕ → ℕ → Pads
with_route p s i = record { gpio = p.gpio; af = p.af; route = set p.route s i; sig_level = p.sig_level; vcc = p.vcc }

abbrev pub with_sig_level : Pads → ℕ → ℕ → Pads
with_sig_level p s l = record { gpio = p.gpio; af = p.af; route = p.route; sig_level = set p.sig_level s l; vcc = p.vcc }

abbrev pub with_timer : Board → ℕ → Timer → Board
with_timer b i t = record { timers = set b.timers i t; booking = b.booking; nvic = b.nvic; pads = b.pads; clocks = b.clocks; counts = b.counts }

abbrev pub with_booking : Board → List ℕ → Board
with_booking b m = record { timers = b.timers; booking = m; nvic = b.nvic; pads = b.pads; clocks = b.clocks; counts = b.counts }

abbrev pub with_nvic : Board → Nvic → Board
with_nvic b n = record { timers = b.timers; booking = b.booking; nvic = n; pads = b.pads; clocks = b.clocks; counts = b.counts }

abbrev pub with_pads : Board → Pads → Board
with_pads b p = record { timers = b.timers; booking = b.booking; nvic = b.nvic; pads = p; clocks = b.clocks; counts = b.counts }

abbrev pub with_clocks : Board → Clocks → Board
with_clocks b c = record { timers = b.timers; booking = b.booking; nvic = b.nvic; pads = b.pads; clocks = c; counts = b.counts }

abbrev pub with_last : Board → ℕ → Board
with_last b cycle = record {
  timers = b.timers;
  booking = b.booking;
  nvic = b.nvic;
  pads = b.pads;
  clocks = b.clocks;
  counts = record { timers = b.counts.timers; pins = b.counts.pins; last = cycle };
}

-- ---- the board after set-up

-- n signals' levels from s on: "idle UART lines are high"
unfoldable pub idle_levels : ℕ → ℕ → List ℕ
idle_levels s zero = []
idle_levels s (suc n) = idle_level s ∷ idle_levels (s + 1) n

-- a list filled up to n places
abbrev pub filled : {A : Type 0} → ℕ → A → List A → List A
filled n x xs = xs ++ replicate (n - length xs) x

-- "starts as `ArmSys::new` and `Timer::new` do, with `ClockTree::flat` of the frequency given and 0 as the cycle of the last changing call"
unfoldable pub fresh_board : Ieee.Float → Ieee.Float → ℕ → ℕ → List Inst → List ℕ → Board
fresh_board hz vcc pins lines insts table = record {
  timers = filled 8 no_timer (map (λ (i : Inst). reset_state i 1) insts);
  booking = empty;
  nvic = record { nirq = lines; lines = replicate 256 idle };
  pads = record {
    gpio = replicate 128 blank_gpio;
    af = filled 2048 0 table;
    route = replicate 256 no_pin;
    sig_level = idle_levels 0 256;
    vcc = vcc;
  };
  clocks = record { tree = flat_tree hz; clock = Clock.new_clock hz; enr = replicate 9 0 };
  counts = record { timers = length insts; pins = pins; last = 0 };
}

-- 1.0, by its bits
abbrev pub one : Ieee.Float
one = Ieee.of_bits Ieee.binary64 0x3ff0_0000_0000_0000

-- "The first board is blank: no timers, pins or lines, 1 Hz, 1 volt, the rest as after set-up."
abbrev pub first_board : Board
first_board = fresh_board one one 0 0 [] []
