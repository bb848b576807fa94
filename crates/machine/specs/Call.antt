-- The calls that arrive at the board (document 01), and what each gives.
use Rattle.std.specs.Prelude.{Bool, true, false, not, ◌||◌, List, [], ℕ, eqb, Float}
use Rattle.tim.specs.declared.Inst.{Inst}
use Rattle.pins.specs.declared.ExtDrive.{ExtDrive}
use Rattle.clk.specs.declared.ClockTree.{ClockTree}
use Rattle.book.specs.Book.{Entry}
use Rattle.machine.specs.Board.{Board}

-- what set-up is given: frequency, supply, numbers of pins and lines, timers, signal table
pub record Setup : Type 0 where
  pub hz : Float
  pub vcc : Float
  pub pins : ℕ
  pub lines : ℕ
  pub timers : List Inst
  pub table : List ℕ

-- ---- the classes of calls. A cycle is the call's own; places is the length of the book that a call is lent.

-- calls that ask, and leave the board as it is: reads, peeks, and queries of booking, pin, interrupt line, time, and why a pin is low (F-12)
pub data Question : Type 0 where
  reading : (timer offset size cycle : ℕ) → Question
  peeking : (timer offset cycle : ℕ) → Question
  booked : (timer : ℕ) → Question
  next : Question
  level : (pin : ℕ) → Question
  volts : (pin : ℕ) → Question
  line : (irq : ℕ) → Question
  time : (cycle : ℕ) → Question
  why : (pin cycle : ℕ) → Question

-- "Every call that can change a pin is lent a book"
pub data BookCall : Type 0 where
  pin_setting : (pin mode open_drain out pullup pulldown function : ℕ) → BookCall
  outside_drive : (pin : ℕ) (e : ExtDrive) → BookCall
  pin_reset : BookCall
  writing : (timer offset size value : ℕ) → BookCall
  resetting : (timer : ℕ) → BookCall
  delivery : (timer : ℕ) → BookCall

pub data Call : Type 0 where
  set_up : (s : Setup) → Call
  clock_tree : (t : ClockTree) (cycle : ℕ) → Call
  enable : (word value : ℕ) → Call
  clear_pending : (irq : ℕ) → Call
  ask : (q : Question) → Call
  lend : (k : BookCall) (cycle places : ℕ) → Call

-- ---- each call by its own name

abbrev pub read : (timer offset size cycle : ℕ) → Call
read timer offset size cycle = ask (reading timer offset size cycle)

abbrev pub peek : (timer offset cycle : ℕ) → Call
peek timer offset cycle = ask (peeking timer offset cycle)

abbrev pub query_booked : (timer : ℕ) → Call
query_booked timer = ask (booked timer)

abbrev pub query_next : Call
query_next = ask next

abbrev pub query_level : (pin : ℕ) → Call
query_level pin = ask (level pin)

abbrev pub query_volts : (pin : ℕ) → Call
query_volts pin = ask (volts pin)

abbrev pub query_line : (irq : ℕ) → Call
query_line irq = ask (line irq)

abbrev pub query_time : (cycle : ℕ) → Call
query_time cycle = ask (time cycle)

abbrev pub query_why : (pin cycle : ℕ) → Call
query_why pin cycle = ask (why pin cycle)

abbrev pub set_pin : (pin mode open_drain out pullup pulldown function cycle places : ℕ) → Call
set_pin pin mode open_drain out pullup pulldown function cycle places = lend (pin_setting pin mode open_drain out pullup pulldown function) cycle places

abbrev pub drive_pin : (pin : ℕ) (e : ExtDrive) (cycle places : ℕ) → Call
drive_pin pin e cycle places = lend (outside_drive pin e) cycle places

abbrev pub reset_pins : (cycle places : ℕ) → Call
reset_pins cycle places = lend pin_reset cycle places

abbrev pub write : (timer offset size value cycle places : ℕ) → Call
write timer offset size value cycle places = lend (writing timer offset size value) cycle places

abbrev pub reset_timer : (timer cycle places : ℕ) → Call
reset_timer timer cycle places = lend (resetting timer) cycle places

abbrev pub deliver : (timer cycle places : ℕ) → Call
deliver timer cycle places = lend (delivery timer) cycle places

-- ---- which calls are which

-- f of a call that is lent a book, d of another
abbrev pub if_lent : {A : Type 0} → (BookCall → ℕ → ℕ → A) → A → Call → A
if_lent f d (set_up s) = d
if_lent f d (clock_tree t cycle) = d
if_lent f d (enable word value) = d
if_lent f d (clear_pending irq) = d
if_lent f d (ask q) = d
if_lent f d (lend k cycle places) = f k cycle places

-- f of a delivery to a timer, d of another call with a book
abbrev pub if_delivery : {A : Type 0} → (ℕ → A) → A → BookCall → A
if_delivery f d (pin_setting pin mode open_drain out pullup pulldown function) = d
if_delivery f d (outside_drive pin e) = d
if_delivery f d pin_reset = d
if_delivery f d (writing timer offset size value) = d
if_delivery f d (resetting timer) = d
if_delivery f d (delivery timer) = f timer

abbrev pub is_delivery : Call → Bool
is_delivery c = if_lent (λ k cycle places. if_delivery (λ timer. true) false k) false c

-- f of the query why a pin is low, d of another question
abbrev pub if_why : {A : Type 0} → (ℕ → ℕ → A) → A → Question → A
if_why f d (reading timer offset size cycle) = d
if_why f d (peeking timer offset cycle) = d
if_why f d (booked timer) = d
if_why f d next = d
if_why f d (level pin) = d
if_why f d (volts pin) = d
if_why f d (line irq) = d
if_why f d (time cycle) = d
if_why f d (why pin cycle) = f pin cycle

abbrev pub is_why : Call → Bool
is_why (set_up s) = false
is_why (clock_tree t cycle) = false
is_why (enable word value) = false
is_why (clear_pending irq) = false
is_why (ask q) = if_why (λ pin cycle. true) false q
is_why (lend k cycle places) = false

abbrev pub is_set_up : Call → Bool
is_set_up (set_up s) = true
is_set_up (clock_tree t cycle) = false
is_set_up (enable word value) = false
is_set_up (clear_pending irq) = false
is_set_up (ask q) = false
is_set_up (lend k cycle places) = false

-- the places that a call is lent, none without a book; and its cycle
abbrev pub lent : Call → ℕ
lent c = if_lent (λ k cycle places. places) 0 c

abbrev pub book_cycle : Call → ℕ
book_cycle c = if_lent (λ k cycle places. cycle) 0 c

-- ---- what a call gives

-- a number; "the number of entries (the count) and a value", here the entries themselves; and the board that the call leaves
pub record Outcome : Type 0 where
  pub number : ℕ
  pub value : ℕ
  pub entries : List Entry
  pub board : Board

-- which numbers are refusals: all but 0, served, and 8, backlog. "1 to 7, and numbers added later, return value 0 and count 0 and change nothing";
-- "Every number added from here on joins demand 1's list as a refusal".
abbrev pub is_refusal : ℕ → Bool
is_refusal n = not (eqb n 0 || eqb n 8)

-- "1 to 7, and numbers added later, return value 0 and count 0 and change nothing"
abbrev pub refused : ℕ → Board → Outcome
refused n b = record { number = n; value = 0; entries = []; board = b }

-- served, with a value and no entries
abbrev pub served : ℕ → Board → Outcome
served v b = record { number = 0; value = v; entries = []; board = b }
