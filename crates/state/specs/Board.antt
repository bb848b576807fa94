-- What stands at an index of the board, and the board with one thing another: what the accessors read and set, over machine's.
use Rattle.std.specs.Prelude.{List, ℕ, ◌+◌, ◌*◌, ◌≤◌, get_or, set}
use Rattle.std.specs.Float.Ieee as Ieee
use Rattle.tim.specs.declared.Timer.{Timer}
use Rattle.tim.specs.declared.Inst.{Inst}
use Rattle.gpio.specs.declared.Gpio.{Gpio}
use Rattle.clk.specs.declared.ClockTree.{ClockTree}
use Rattle.pins.specs.declared.ClockModel.{ClockModel}
use Rattle.scheduler.specs.Booking.{cycle_of, rebook}
use Rattle.machine.specs.Board.{Board, Counts, gpio_at, route_of, level_of, with_gpio, with_route, with_sig_level, with_booking, with_nvic, with_pads, with_clocks}

-- ---- the pin and the numbers at a place

abbrev pub pin_at : Board → ℕ → Gpio
pin_at b p = gpio_at b.pads p

-- the pin that routes signal s, 128 if none
abbrev pub route_at : Board → ℕ → ℕ
route_at b s = route_of b.pads s

abbrev pub sig_level_at : Board → ℕ → ℕ
sig_level_at b s = level_of b.pads s

-- the signal of pin p's alternate function f
abbrev pub af_at : Board → ℕ → ℕ → ℕ
af_at b p f = get_or b.pads.af (p * 16 + f) 0

abbrev pub enr_at : Board → ℕ → ℕ
enr_at b i = get_or b.clocks.enr i 0

abbrev pub booked_at : Board → ℕ → ℕ
booked_at b owner = cycle_of b.booking owner

-- ---- the board with one part another

-- the timer with these fixed parts
abbrev pub with_inst : Timer → Inst → Timer
with_inst t k = record { inst = k; regs = t.regs; chan = t.chan; count = t.count }

-- owner booked at a cycle
abbrev pub booking_set : Board → ℕ → ℕ → Board
booking_set b owner cycle = with_booking b (rebook b.booking owner cycle)

abbrev pub with_counts : Board → Counts → Board
with_counts b c = record { timers = b.timers; booking = b.booking; nvic = b.nvic; pads = b.pads; clocks = b.clocks; counts = c }

abbrev pub with_gpios : Board → List Gpio → Board
with_gpios b gs = with_pads b (record { gpio = gs; af = b.pads.af; route = b.pads.route; sig_level = b.pads.sig_level; vcc = b.pads.vcc })

abbrev pub pin_set : Board → ℕ → Gpio → Board
pin_set b p g = with_pads b (with_gpio b.pads p g)

abbrev pub with_vcc : Board → Ieee.Float → Board
with_vcc b v = with_pads b (record { gpio = b.pads.gpio; af = b.pads.af; route = b.pads.route; sig_level = b.pads.sig_level; vcc = v })

-- entry k of the signal table, that of pin k / 16 and its function k % 16
abbrev pub with_af_at : Board → ℕ → ℕ → Board
with_af_at b k s = with_pads b (record { gpio = b.pads.gpio; af = set b.pads.af k s; route = b.pads.route; sig_level = b.pads.sig_level; vcc = b.pads.vcc })

abbrev pub route_set : Board → ℕ → ℕ → Board
route_set b s p = with_pads b (with_route b.pads s p)

abbrev pub sig_level_set : Board → ℕ → ℕ → Board
sig_level_set b s level = with_pads b (with_sig_level b.pads s level)

abbrev pub with_tree : Board → ClockTree → Board
with_tree b t = with_clocks b (record { tree = t; clock = b.clocks.clock; enr = b.clocks.enr })

abbrev pub with_clock : Board → ClockModel → Board
with_clock b k = with_clocks b (record { tree = b.clocks.tree; clock = k; enr = b.clocks.enr })

abbrev pub with_enr : Board → ℕ → ℕ → Board
with_enr b i v = with_clocks b (record { tree = b.clocks.tree; clock = b.clocks.clock; enr = set b.clocks.enr i v })

-- the numbers of timers, pins and interrupt lines
abbrev pub with_sizes : Board → ℕ → ℕ → ℕ → Board
with_sizes b timers pins lines =
    with_nvic (with_counts b (record { timers = timers; pins = pins; last = b.counts.last })) (record { nirq = lines; lines = b.nvic.lines })

-- "1 to 8,192": a divider, and the six of a tree
pub record Divider (d : ℕ) : Type 0 where
  pub pos : 1 ≤ d
  pub le : d ≤ 8192

pub record Divided (t : ClockTree) : Type 0 where
  pub ppre1 : Divider t.ppre1
  pub ppre2 : Divider t.ppre2
  pub ppre3 : Divider t.ppre3
  pub ppre4 : Divider t.ppre4
  pub tim1 : Divider t.tim1
  pub tim2 : Divider t.tim2
