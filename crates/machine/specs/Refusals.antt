-- The table of document 01, and what document 02 adds to it, call by call: the numbers that a call can be refused with, in order, and when each applies.
use Rattle.std.specs.Prelude.{Bool, true, false, cond, not, ◌&&◌, ◌||◌, List, [], ◌∷◌, map, ℕ, suc, ◌+◌, ◌*◌, ◌/◌, eqb, ltb, leb, length, Float}
use Rattle.std.specs.Float.Ieee as Ieee
use Rattle.std.specs.Float.{nan, inf, fin}
use Rattle.rm0440.specs.Bits.{DIR}
use Rattle.tim.specs.declared.Timer.{Timer}
use Rattle.tim.specs.declared.Inst.{Inst}
use Rattle.tim.specs.Next.{next_event}
use Rattle.real.specs.Real.{zero_float}
use Rattle.clk.specs.declared.ClockTree.{ClockTree}
use Rattle.clk.specs.Clk.{timer_div}
use Rattle.machine.specs.Board.{Board, timer_at, route_of, function_of, no_pin}
use Rattle.machine.specs.Deliver.{delivered, due_by}
use Rattle.machine.specs.Call.{Setup, Question, reading, peeking, booked, next, level, volts, line, time, why, BookCall, pin_setting, outside_drive, pin_reset, writing, resetting, delivery, Call, set_up, clock_tree, enable, clear_pending, ask, lend, if_lent, if_delivery, if_why}
use Rattle.machine.specs.Step.{clock_on, written}
use Rattle.machine.specs.Why.{is_behind}

infixl 20 ◌when◌
-- a number, and whether it applies
pub data Refusal : Type 0 where
  ◌when◌ : (number : ℕ) (applies : Bool) → Refusal

-- ---- numbers low to high, lists, and floats, as the table speaks of them

abbrev pub from_to : ℕ → ℕ → ℕ → Bool
from_to low high n = leb low n && leb n high

-- each of a list passes
unfoldable pub all : {A : Type 0} → (A → Bool) → List A → Bool
all f [] = true
all f (x ∷ xs) = f x && all f xs

-- "all different"
unfoldable pub different : List ℕ → Bool
different [] = true
different (n ∷ ns) = all (λ m. not (eqb m n)) ns && different ns

-- "finite and above 0"
abbrev pub finite : Float → Bool
finite nan = false
finite (inf s) = false
finite (fin s m e) = true

unfoldable pub finite_above_zero : Float → Bool
finite_above_zero f = finite f && Ieee.lt zero_float f

-- ---- the numbers

-- 1, wrong board: "set-up outside the sizes above or limits below".
-- "1 to 8 timers, 1 to 128 pins, .. 0 to 256 lines"
abbrev pub board_sizes : Setup → Bool
board_sizes s = from_to 1 8 (length s.timers) && from_to 1 128 s.pins && leb s.lines 256

-- "timer numbers 1 to 24 ..; width 16 or 32; 0 to 4 channels; enable word 0 to 8, bit 0 to 31"
abbrev pub timer_limits : Inst → Bool
timer_limits i =
    from_to 1 24 i.n && (eqb i.width 16 || eqb i.width 32) && leb i.channels 4 && leb i.en_reg 8 && leb i.en_bit 31

-- ".., all different; ..; supply volts finite and above 0; signal table of exactly pins × 16 entries below 256"
unfoldable pub limits : Setup → Bool
limits s =
    board_sizes s && all timer_limits s.timers && different (map (λ (i : Inst). i.n) s.timers) && finite_above_zero s.vcc
    && eqb (length s.table) (s.pins * 16) && all (λ (e : ℕ). ltb e 256) s.table

abbrev pub wrong_board : Setup → Refusal
wrong_board s = 1 when not (limits s)

-- 2, no such post: "no timer, pin or enable word of that index"
abbrev pub no_such_index : ℕ → ℕ → Refusal
no_such_index index count = 2 when leb count index

-- 3, odd plug: "a read or write size other than 1, 2, 4"
abbrev pub bad_size : ℕ → Refusal
bad_size size = 3 when not (eqb size 1 || (eqb size 2 || eqb size 4))

-- 4, bad clock: "a tree divider, or a divider that `timer_div` makes of the tree, outside 1 to 8,192, or a frequency not finite and above 0"
abbrev pub tree_dividers : ClockTree → List ℕ
tree_dividers t = t.ppre1 ∷ t.ppre2 ∷ t.ppre3 ∷ t.ppre4 ∷ t.tim1 ∷ t.tim2 ∷ []

-- buses 1, 2 and 3, and 4 for every other: `timer_div` gives them all the same
abbrev pub made_dividers : ClockTree → List ℕ
made_dividers t = map (λ (bus : ℕ). timer_div t bus) (1 ∷ 2 ∷ 3 ∷ 4 ∷ [])

unfoldable pub good_tree : ClockTree → Bool
good_tree t =
    (all (from_to 1 8192) (tree_dividers t) && all (from_to 1 8192) (made_dividers t)) && (finite_above_zero t.sysclk_hz && finite_above_zero t.hclk_hz)

abbrev pub bad_tree : ClockTree → Refusal
bad_tree t = 4 when not (good_tree t)

abbrev pub bad_frequency : Float → Refusal
bad_frequency hz = 4 when not (finite_above_zero hz)

-- 5, clock astray: "the cycle is above 2^62, or below the cycle of the last changing call"
abbrev pub clock_astray : Board → ℕ → Refusal
clock_astray b cycle = 5 when (ltb 4611686018427387904 cycle || ltb cycle b.counts.last)

-- 6, book full: "a write, delivery, timer reset, pin setting or outside drive with under 4 places; a pin reset with fewer places than pins"
abbrev pub book_full : ℕ → ℕ → Refusal
book_full need places = 6 when ltb places need

-- 7, counter astray: "an ungated write to CR1, CNT or ARR after which the timer would run upward with counter above active reload + 1"
abbrev pub to_counter : ℕ → Bool
to_counter register = eqb register 0x00 || (eqb register 0x24 || eqb register 0x2c)

-- a timer without channels lacks DIR
abbrev pub runs_upward : Timer → Bool
runs_upward t = t.count.running && (eqb t.inst.channels 0 || not (DIR t.regs.cr1))

-- "7 is not given in manual mode when the write leaves the active reload 0" (F-6)
abbrev pub left_at_zero : Timer → Bool
left_at_zero t = t.inst.manual && eqb t.count.arr_act 0

unfoldable pub runs_away : Timer → Bool
runs_away t = not (left_at_zero t) && (runs_upward t && ltb (t.count.arr_act + 1) t.count.cnt0)

abbrev pub counter_astray : Board → ℕ → ℕ → ℕ → ℕ → ℕ → Refusal
counter_astray b timer offset size value cycle =
    7 when (clock_on b (timer_at b timer) && (to_counter (offset / 4 * 4) && runs_away (written b (timer_at b timer) offset size value cycle).timer))

-- 11, socket taken: "Setting a pin to a non-zero signal that another pin now routes shall be turned away. Setting the same pin again is served."
-- The signal that a setting selects: in alternate mode, 2, the table's entry, else none
abbrev pub signal_set : Board → ℕ → ℕ → ℕ → ℕ
signal_set b pin mode function = cond (eqb mode 2) (function_of b.pads pin function) 0

abbrev pub routed_elsewhere : Board → ℕ → ℕ → Bool
routed_elsewhere b pin signal = not (eqb (route_of b.pads signal) no_pin) && not (eqb (route_of b.pads signal) pin)

abbrev pub socket_taken : Board → ℕ → ℕ → ℕ → Refusal
socket_taken b pin mode function =
    11 when (not (eqb (signal_set b pin mode function) 0) && routed_elsewhere b pin (signal_set b pin mode function))

-- of a call that asks
abbrev pub of_question : Board → Question → List Refusal
of_question b (reading timer offset size cycle) = no_such_index timer b.counts.timers ∷ bad_size size ∷ clock_astray b cycle ∷ []
of_question b (peeking timer offset cycle) = no_such_index timer b.counts.timers ∷ clock_astray b cycle ∷ []
of_question b (booked timer) = no_such_index timer b.counts.timers ∷ []
of_question b next = []
of_question b (level pin) = no_such_index pin b.counts.pins ∷ []
of_question b (volts pin) = no_such_index pin b.counts.pins ∷ []
of_question b (line irq) = []
of_question b (time cycle) = clock_astray b cycle ∷ []
of_question b (why pin cycle) = no_such_index pin b.counts.pins ∷ clock_astray b cycle ∷ []

-- of a call that is lent a book
abbrev pub of_book_call : Board → BookCall → ℕ → ℕ → List Refusal
of_book_call b (pin_setting pin mode open_drain out pullup pulldown function) cycle places =
    no_such_index pin b.counts.pins ∷ clock_astray b cycle ∷ socket_taken b pin mode function ∷ book_full 4 places ∷ []
of_book_call b (outside_drive pin e) cycle places = no_such_index pin b.counts.pins ∷ clock_astray b cycle ∷ book_full 4 places ∷ []
of_book_call b pin_reset cycle places = clock_astray b cycle ∷ book_full b.counts.pins places ∷ []
of_book_call b (writing timer offset size value) cycle places =
    no_such_index timer b.counts.timers ∷ bad_size size ∷ clock_astray b cycle ∷ book_full 4 places ∷ counter_astray b timer offset size value cycle ∷ []
of_book_call b (resetting timer) cycle places = no_such_index timer b.counts.timers ∷ clock_astray b cycle ∷ book_full 4 places ∷ []
of_book_call b (delivery timer) cycle places = no_such_index timer b.counts.timers ∷ clock_astray b cycle ∷ book_full 4 places ∷ []

unfoldable pub refusals : Board → Call → List Refusal
refusals b (set_up s) = wrong_board s ∷ bad_frequency s.hz ∷ []
refusals b (clock_tree t cycle) = bad_tree t ∷ clock_astray b cycle ∷ []
refusals b (enable word value) = no_such_index word 9 ∷ []
refusals b (clear_pending irq) = []
refusals b (ask q) = of_question b q
refusals b (lend k cycle places) = of_book_call b k cycle places

-- ---- the order of the numbers

-- "The lowest number that applies is given", of these; "a place named for it goes before the rule of the lowest number": a later number stands where
-- its request says, 11 "after 5 and before 6"
abbrev pub order : List ℕ
order = 1 ∷ 2 ∷ 3 ∷ 4 ∷ 5 ∷ 11 ∷ 6 ∷ 7 ∷ []

-- the numbers of a list stand in an order
unfoldable pub in_order : List ℕ → List Refusal → Bool
in_order os [] = true
in_order [] (r ∷ rs) = false
in_order (o ∷ os) ((n when t) ∷ rs) = cond (eqb o n) (in_order os rs) (in_order os ((n when t) ∷ rs))

-- a number is one of a list
unfoldable pub among : ℕ → List ℕ → Bool
among n [] = false
among n (o ∷ os) = eqb o n || among n os

-- the place of a number in an order
unfoldable pub rank : List ℕ → ℕ → ℕ
rank [] n = 0
rank (o ∷ os) n = cond (eqb o n) 0 (suc (rank os n))

-- ---- the answer of a list

-- some number applies
unfoldable pub applies : List Refusal → Bool
applies [] = false
applies ((n when t) ∷ rs) = t || applies rs

-- the first number that applies, 0 where none does
unfoldable pub first : List Refusal → ℕ
first [] = 0
first ((n when t) ∷ rs) = cond t n (first rs)

-- number n is on the list, and applies
unfoldable pub holds : ℕ → List Refusal → Bool
holds n [] = false
holds n ((m when t) ∷ rs) = (t && eqb m n) || holds n rs

-- what is given where none of the refusals applies. 8, backlog: "a delivery stopped with an event still due", and of the query why "when an event of the
-- driving timer .. is due at or before the cycle"; 0, served: "nothing below applies"
unfoldable pub ending : Board → Call → ℕ
ending b (set_up s) = 0
ending b (clock_tree t cycle) = 0
ending b (enable word value) = 0
ending b (clear_pending irq) = 0
ending b (ask q) = if_why (λ pin cycle. cond (is_behind b pin cycle) 8 0) 0 q
ending b (lend k cycle places) = if_delivery (λ timer. cond (due_by (next_event (delivered b timer cycle places).timer) cycle) 8 0) 0 k

-- the most entries that a call can make: one of a pin, one of each of a timer's four channels, one of each pin
abbrev pub most_of : Board → BookCall → ℕ → ℕ
most_of b (pin_setting pin mode open_drain out pullup pulldown function) places = 1
most_of b (outside_drive pin e) places = 1
most_of b pin_reset places = b.counts.pins
most_of b (writing timer offset size value) places = 4
most_of b (resetting timer) places = 4
most_of b (delivery timer) places = places

abbrev pub most : Board → Call → ℕ
most b c = if_lent (λ k cycle places. most_of b k places) 0 c

-- the last changing call's cycle after a call that is answered 0 or 8: its own, "reads, peeks and queries excepted"; "Set-up, an enable-word
-- write, a pending clear and every query but time carry no cycle"; a set-up board starts with 0
abbrev pub last_after : Board → Call → ℕ
last_after b (set_up s) = 0
last_after b (clock_tree t cycle) = cycle
last_after b (enable word value) = b.counts.last
last_after b (clear_pending irq) = b.counts.last
last_after b (ask q) = b.counts.last
last_after b (lend k cycle places) = cycle
