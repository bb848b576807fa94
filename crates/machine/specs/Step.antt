-- What each call does (document 01): the refusals, in the order of the table (Refusals.antt), then the call.
use Rattle.std.specs.Prelude.{Bool, true, false, cond, not, ◌&&◌, ◌||◌, List, [], ◌∷◌, ◌++◌, ℕ, zero, suc, ◌+◌, ◌*◌, ◌/◌, eqb, ltb, leb, get_or, set, length, Option, is_some, unwrap_or}
use Rattle.tim.specs.declared.Timer.{Timer}
use Rattle.tim.specs.declared.Inst.{Inst}
use Rattle.regs.specs.declared.Written.{Written}
use Rattle.regs.specs.Regs as R
use Rattle.tim.specs.Change.{reset_state, retimed}
use Rattle.rm0440.specs.Bits.{is_set}
use Rattle.periph.specs.Lane.{lane_read, lane_write}
use Rattle.real.specs.Real.{positive, bits_of}
use Rattle.clk.specs.declared.ClockTree.{ClockTree}
use Rattle.clk.specs.Clk.{good, differing}
use Rattle.pins.specs.Clock as Clock
use Rattle.gpio.specs.declared.PinCfg.{PinCfg}
use Rattle.pins.specs.declared.Pin.{Pin}
use Rattle.pins.specs.Pins.{source_number}
use Rattle.nvic.specs.Nvic as N
use Rattle.scheduler.specs.Booking as S
use Rattle.gpio.specs.declared.Edge.{Edge}
use Rattle.book.specs.Book.{Entry, entry_of, entries_of}
use Rattle.machine.specs.Board.{Board, timer_at, gpio_at, with_timer, with_pads, with_nvic, with_booking, with_clocks, with_last, fresh_board}
use Rattle.machine.specs.Sys as Sys
use Rattle.machine.specs.Deliver.{divider_of, line_settled, rebooked, delivered, after_delivery}
use Rattle.machine.specs.Why.{is_behind, why_low}
use Rattle.machine.specs.Call.{Setup, Question, reading, peeking, booked, next, level, volts, line, time, why, BookCall, pin_setting, outside_drive, pin_reset, writing, resetting, delivery, Call, set_up, clock_tree, enable, clear_pending, ask, lend, if_why, Outcome, refused, served}

-- ---- refusals: "The lowest number that applies is given."

-- n where the test holds, else what follows
abbrev pub refuse_if : Bool → ℕ → Board → Outcome → Outcome
refuse_if test n b o = cond test (refused n b) o

-- 2: "no timer, pin or enable word of that index"
abbrev pub absent : ℕ → ℕ → Bool
absent i count = leb count i

-- 3: "a read or write size other than 1, 2, 4"
abbrev pub odd_size : ℕ → Bool
odd_size size = not (eqb size 1 || (eqb size 2 || eqb size 4))

-- 5: "the cycle is above 2^62, or below the cycle of the last changing call"
abbrev pub cycle_astray : Board → ℕ → Bool
cycle_astray b cycle = ltb 4611686018427387904 cycle || ltb cycle b.counts.last

-- 6: fewer places than the call needs
abbrev pub book_full : ℕ → ℕ → Bool
book_full need places = ltb places need

-- ---- set-up: "Set-up limits"

-- no number among the others
unfoldable pub fresh : ℕ → List Inst → Bool
fresh n [] = true
fresh n (i ∷ is) = not (eqb i.n n) && fresh n is

abbrev pub inst_good : Inst → Bool
inst_good i =
    leb 1 i.n && leb i.n 24 && (eqb i.width 16 || eqb i.width 32) && leb i.channels 4 && leb i.en_reg 8 && leb i.en_bit 31

unfoldable pub insts_good : List Inst → Bool
insts_good [] = true
insts_good (i ∷ is) = inst_good i && fresh i.n is && insts_good is

unfoldable pub entries_below : ℕ → List ℕ → Bool
entries_below n [] = true
entries_below n (x ∷ xs) = ltb x n && entries_below n xs

unfoldable pub within_limits : Setup → Bool
within_limits s =
    leb 1 (length s.timers) && leb (length s.timers) 8 && leb 1 s.pins && leb s.pins 128 && leb s.lines 256 && insts_good s.timers
    && positive s.vcc && eqb (length s.table) (s.pins * 16) && entries_below 256 s.table

-- ---- a timer

-- "with the enable bit clear a read gives 0 and a write does nothing"
abbrev pub clock_on : Board → Timer → Bool
clock_on b t = is_set t.inst.en_bit (get_or b.clocks.enr t.inst.en_reg 0)

-- "The register is chosen by the offset with its low two bits cleared."
abbrev pub register : ℕ → ℕ
register offset = offset / 4 * 4

-- "A partial write merges its lane into the register's present value (0 for EGR)"
abbrev pub present : Timer → ℕ → ℕ → ℕ
present t off cycle = cond (eqb off 0x14) 0 (R.reg_read t off cycle)

unfoldable pub written : Board → Timer → ℕ → ℕ → ℕ → ℕ → Written
written b t offset size value cycle =
    R.reg_written t (register offset) (lane_write (present t (register offset) cycle) offset size value) cycle (divider_of b t)

-- 7: "an ungated write to CR1, CNT or ARR after which the timer would run upward with counter above active reload + 1"
abbrev pub counter_astray : ℕ → Timer → Bool
counter_astray off t = (eqb off 0x00 || (eqb off 0x24 || eqb off 0x2c)) && R.astray t

-- what follows from a write: the outputs, the line, the booking
unfoldable pub followed : Board → ℕ → ℕ → Written → Outcome
followed b i cycle w =
    let t = w.timer in
    let d = Sys.drive_outputs t (unwrap_or w.drive 0) b.pads in
    let p = cond (is_some w.drive) d.pads b.pads in
    let c = with_pads (with_timer b i t) p in
    let l = cond w.line (line_settled i t c) c in
    let k = cond w.book (rebooked i t cycle l) l in
    record { number = 0; value = 0; entries = cond (is_some w.drive) (entries_of cycle d.changes) []; board = with_last k cycle }

-- timer reset: reset values, no booking, the line and the outputs settled
unfoldable pub timer_reset : Board → ℕ → ℕ → Outcome
timer_reset b i cycle =
    let t = reset_state (timer_at b i).inst (divider_of b (timer_at b i)) in
    let d = Sys.drive_outputs t 0 b.pads in
    let c = line_settled i t (with_pads (with_timer b i t) d.pads) in
    record {
      number = 0;
      value = 0;
      entries = entries_of cycle d.changes;
      board = with_last (with_booking c (S.cancel c.booking i)) cycle;
    }

unfoldable pub delivered_to : Board → ℕ → ℕ → ℕ → Outcome
delivered_to b i cycle places =
    let r = delivered b i cycle places in
    record { number = r.number; value = r.events; entries = r.entries; board = with_last (after_delivery b i cycle r.timer r.pads) cycle }

-- ---- the clock tree: "`set_clock_tree`, then if it changed `on_clock_change` for each timer in index order"

-- timer i with the tree's divider: its step, and its booking if it runs
unfoldable pub timer_retimed : ℕ → ℕ → Board → Board
timer_retimed i cycle b =
    let t = retimed (timer_at b i) cycle (divider_of b (timer_at b i)) in
    cond t.count.running (rebooked i t cycle (with_timer b i t)) (with_timer b i t)

-- n timers from i on
unfoldable pub all_retimed : ℕ → ℕ → ℕ → Board → Board
all_retimed zero i cycle b = b
all_retimed (suc n) i cycle b = all_retimed n (i + 1) cycle (timer_retimed i cycle b)

unfoldable pub tree_set : Board → ClockTree → ℕ → Board
tree_set b t cycle =
    let c = with_clocks b (record { tree = t; clock = Clock.hz_set b.clocks.clock t.hclk_hz cycle; enr = b.clocks.enr }) in
    cond (differing b.clocks.tree t) (all_retimed b.counts.timers 0 cycle c) c

-- ---- pins

-- "A mode above 3 acts as input, output bit and pulls are yes or no"
abbrev pub yes : ℕ → Bool
yes n = not (eqb n 0)

abbrev pub cfg_of : ℕ → ℕ → ℕ → ℕ → ℕ → PinCfg
cfg_of mode open_drain out pullup pulldown = record {
  mode = cond (leb mode 3) mode 0;
  open_drain = yes open_drain;
  odr = cond (yes out) 1 0;
  pullup = yes pullup;
  pulldown = yes pulldown;
}

-- a pin's change becomes an entry at the call's cycle
abbrev pub moved : Board → ℕ → Sys.Move → Outcome
moved b cycle m = record { number = 0; value = 0; entries = entry_of cycle m.change; board = with_last (with_pads b m.pads) cycle }

unfoldable pub changes_of : ℕ → List (Option Edge) → List Entry
changes_of cycle [] = []
changes_of cycle (c ∷ cs) = entry_of cycle c ++ changes_of cycle cs

abbrev pub pins_reset : Board → ℕ → Outcome
pins_reset b cycle =
    let r = Sys.reset_pins b.pads b.counts.pins in
    record { number = 0; value = 0; entries = changes_of cycle r.changes; board = with_last (with_pads b r.pads) cycle }

-- ---- calls that ask

-- the numbers 2, 3 and 5 of a question, then what follows
abbrev pub asking : Board → Question → Outcome → Outcome
asking b (reading timer offset size cycle) o =
    refuse_if (absent timer b.counts.timers) 2 b (refuse_if (odd_size size) 3 b (refuse_if (cycle_astray b cycle) 5 b o))
asking b (peeking timer offset cycle) o = refuse_if (absent timer b.counts.timers) 2 b (refuse_if (cycle_astray b cycle) 5 b o)
asking b (booked timer) o = refuse_if (absent timer b.counts.timers) 2 b o
asking b next o = o
asking b (level pin) o = refuse_if (absent pin b.counts.pins) 2 b o
asking b (volts pin) o = refuse_if (absent pin b.counts.pins) 2 b o
asking b (line irq) o = o
asking b (time cycle) o = refuse_if (cycle_astray b cycle) 5 b o
asking b (why pin cycle) o = refuse_if (absent pin b.counts.pins) 2 b (refuse_if (cycle_astray b cycle) 5 b o)

-- "The pin level query's value becomes level + 2 × source" (document 02, F-5)
abbrev pub level_query : Pin → ℕ
level_query p = p.level + 2 * source_number p.source

-- the value: "the register for a read or peek, .. what a query asks"
abbrev pub told : Board → Question → ℕ
told b (reading timer offset size cycle) =
    let t = timer_at b timer in cond (clock_on b t) (lane_read (R.reg_read t (register offset) cycle) offset size) 0
told b (peeking timer offset cycle) = R.reg_read (timer_at b timer) (register offset) cycle
told b (booked timer) = S.cycle_of b.booking timer
told b next = S.least b.booking
told b (level pin) = level_query (gpio_at b.pads pin).pin
told b (volts pin) = bits_of (gpio_at b.pads pin).pin.volts
told b (line irq) = N.state_of (N.line_at b.nvic irq)
told b (time cycle) = bits_of (Clock.time_at b.clocks.clock cycle)
told b (why pin cycle) = cond (is_behind b pin cycle) 0 (why_low b pin cycle)

-- the number of a question that is not refused: 0, or "8 "backlog", with value 0 and no change"
abbrev pub asked_number : Board → Question → ℕ
asked_number b q = if_why (λ pin cycle. cond (is_behind b pin cycle) 8 0) 0 q

-- nothing changes, whatever is asked
abbrev pub answering : Board → Question → Outcome
answering b q = record { number = asked_number b q; value = told b q; entries = []; board = b }

-- ---- calls that are lent a book

-- the numbers 2 and 3 of such a call, then what follows
abbrev pub fitting : Board → BookCall → Outcome → Outcome
fitting b (pin_setting pin mode open_drain out pullup pulldown function) o = refuse_if (absent pin b.counts.pins) 2 b o
fitting b (outside_drive pin e) o = refuse_if (absent pin b.counts.pins) 2 b o
fitting b pin_reset o = o
fitting b (writing timer offset size value) o = refuse_if (absent timer b.counts.timers) 2 b (refuse_if (odd_size size) 3 b o)
fitting b (resetting timer) o = refuse_if (absent timer b.counts.timers) 2 b o
fitting b (delivery timer) o = refuse_if (absent timer b.counts.timers) 2 b o

-- 11: "Setting a pin to a non-zero signal that another pin now routes shall be turned away. Setting the same pin again is served."
abbrev pub socket_taken : Board → BookCall → Bool
socket_taken b (pin_setting pin mode open_drain out pullup pulldown function) =
    Sys.taken b.pads pin (Sys.selected b.pads pin (cfg_of mode open_drain out pullup pulldown) function)
socket_taken b (outside_drive pin e) = false
socket_taken b pin_reset = false
socket_taken b (writing timer offset size value) = false
socket_taken b (resetting timer) = false
socket_taken b (delivery timer) = false

-- 6: "a write, delivery, timer reset, pin setting or outside drive with under 4 places; a pin reset with fewer places than pins"
abbrev pub needed : Board → BookCall → ℕ
needed b (pin_setting pin mode open_drain out pullup pulldown function) = 4
needed b (outside_drive pin e) = 4
needed b pin_reset = b.counts.pins
needed b (writing timer offset size value) = 4
needed b (resetting timer) = 4
needed b (delivery timer) = 4

-- what it does; a write can still be refused with 7
abbrev pub doing : Board → BookCall → ℕ → ℕ → Outcome
doing b (pin_setting pin mode open_drain out pullup pulldown function) cycle places =
    moved b cycle (Sys.set_pin b.pads pin (cfg_of mode open_drain out pullup pulldown) function)
doing b (outside_drive pin e) cycle places = moved b cycle (Sys.drive_pin b.pads pin e)
doing b pin_reset cycle places = pins_reset b cycle
doing b (writing timer offset size value) cycle places =
    let t = timer_at b timer in
    let w = written b t offset size value cycle in
    cond (clock_on b t)
    (refuse_if (counter_astray (register offset) w.timer) 7 b (followed b timer cycle w))
    (served 0 (with_last b cycle))
doing b (resetting timer) cycle places = timer_reset b timer cycle
doing b (delivery timer) cycle places = delivered_to b timer cycle places

-- ---- every call

unfoldable pub step : Board → Call → Outcome
step b (set_up s) =
    refuse_if (not (within_limits s)) 1 b
    (refuse_if (not (positive s.hz)) 4 b
    (served 0 (fresh_board s.hz s.vcc s.pins s.lines s.timers s.table)))
step b (clock_tree t cycle) =
    refuse_if (not (good t)) 4 b
    (refuse_if (cycle_astray b cycle) 5 b
    (served 0 (with_last (tree_set b t cycle) cycle)))
step b (enable word value) =
    refuse_if (absent word 9) 2 b
    (served 0 (with_clocks b (record { tree = b.clocks.tree; clock = b.clocks.clock; enr = set b.clocks.enr word value })))
step b (clear_pending irq) = served 0 (with_nvic b (N.clear_pending b.nvic irq))
step b (ask q) = asking b q (answering b q)
step b (lend k cycle places) =
    fitting b k
    (refuse_if (cycle_astray b cycle) 5 b
    (refuse_if (socket_taken b k) 11 b
    (refuse_if (book_full (needed b k) places) 6 b
    (doing b k cycle places))))

-- a list of calls: each gets the board that the last one left
unfoldable pub run : Board → List Call → List Outcome
run b [] = []
run b (c ∷ cs) = step b c ∷ run (step b c).board cs

-- the board after a list of calls
unfoldable pub board_after : Board → List Call → Board
board_after b [] = b
board_after b (c ∷ cs) = board_after (step b c).board cs
