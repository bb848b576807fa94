-- Events due (document 01): what an event does, and a delivery with its stops.
use Rattle.std.specs.Prelude.{Bool, cond, not, List, [], ◌++◌, ℕ, zero, suc, ◌+◌, ◌-◌, ◌%◌, max, eqb, ltb, length}
use Rattle.std.specs.Int.Bits.{bit_and}
use Rattle.tim.specs.declared.Timer.{Timer}
use Rattle.tim.specs.declared.Next.{Next}
use Rattle.tim.specs.declared.Next.TheVariants.{Update, Compare}
use Rattle.tim.specs.declared.Due.{Due}
use Rattle.tim.specs.declared.Due.TheVariants.{At, Stopped}
use Rattle.tim.specs.Timer.{ccr_in_use}
use Rattle.tim.specs.Next.{next_event}
pub use Rattle.tim.specs.Next.{due_by}
use Rattle.tim.specs.Change as C
use Rattle.clk.specs.Clk.{timer_div}
use Rattle.nvic.specs.Nvic.{set_line}
use Rattle.scheduler.specs.Booking as S
use Rattle.book.specs.Book.{Entry, entries_of}
use Rattle.machine.specs.Board.{Board, Pads, timer_at, with_timer, with_pads, with_nvic, with_booking}
use Rattle.machine.specs.Sys.{drive_outputs}

-- ---- what follows from a timer's state

-- the divider that timer t steps by
abbrev pub divider_of : Board → Timer → ℕ
divider_of b t = timer_div b.clocks.tree t.inst.apb

-- "the interrupt line follows SR & DIER & 1f"
abbrev pub wants_line : Timer → Bool
wants_line t = not (eqb (bit_and t.regs.sr t.regs.dier % 32) 0)

unfoldable pub line_settled : ℕ → Timer → Board → Board
line_settled i t b = with_nvic b (set_line b.nvic t.inst.irq i (wants_line t))

-- "the next event is booked no earlier than now"; nothing when the timer is stopped
abbrev pub booking_of : Due → ℕ → ℕ
booking_of (At at e) now = max at now
booking_of Stopped now = S.never

unfoldable pub rebooked : ℕ → Timer → ℕ → Board → Board
rebooked i t now b = with_booking b (S.rebook b.booking i (booking_of (next_event t) now))

-- ---- one event

-- "Each event acts at its own due cycle, however late delivered": the timer after it, and the count at which the outputs are driven
abbrev pub applied : Timer → Next → ℕ → ℕ → Timer
applied t Update at div = C.updated t at div
applied t (Compare ch) at div = C.compared t ch

abbrev pub count_at : Timer → Next → ℕ
count_at t Update = t.count.cnt0
count_at t (Compare ch) = ccr_in_use t ch

-- the timer and the pads as events leave them, and the entries that they made
pub record Turn : Type 0 where
  pub timer : Timer
  pub pads : Pads
  pub entries : List Entry

unfoldable pub turn : Timer → Pads → Next → ℕ → ℕ → Turn
turn t p e at div =
    let s = applied t e at div in
    let d = drive_outputs s (count_at s e) p in
    record { timer = s; pads = d.pads; entries = entries_of at d.changes }

-- ---- a delivery

pub record Run : Type 0 where
  pub timer : Timer
  pub pads : Pads
  pub entries : List Entry
  pub events : ℕ
  pub number : ℕ

abbrev pub stop : Timer → Pads → ℕ → Run
stop t p n = record { timer = t; pads = p; entries = []; events = 0; number = n }

-- an event's entries before what follows
abbrev pub after_turn : List Entry → Run → Run
after_turn es r = record { timer = r.timer; pads = r.pads; entries = es ++ r.entries; events = r.events + 1; number = r.number }

abbrev pub turn_of : Timer → Pads → Due → ℕ → Turn
turn_of t p (At at e) div = turn t p e at div
turn_of t p Stopped div = record { timer = t; pads = p; entries = [] }

-- "A delivery stops when nothing is due (0), or with more due after 100,001 events or with under 4 places left (8)":
-- so many events more, with so many places left
unfoldable pub handled : ℕ → ℕ → ℕ → ℕ → Timer → Pads → Run
handled zero now div left t p = stop t p (cond (due_by (next_event t) now) 8 0)
handled (suc events) now div left t p =
    cond (due_by (next_event t) now)
    (cond (ltb left 4) (stop t p 8)
    (let s = turn_of t p (next_event t) div in
    after_turn s.entries (handled events now div (left - length s.entries) s.timer s.pads)))
    (stop t p 0)

abbrev pub most_events : ℕ
most_events = 100001

-- timer i's events up to now, with so many places; "Then the interrupt line follows .., and the next event is booked"
unfoldable pub delivered : Board → ℕ → ℕ → ℕ → Run
delivered b i now places = handled most_events now (divider_of b (timer_at b i)) places (timer_at b i) b.pads

unfoldable pub after_delivery : Board → ℕ → ℕ → Timer → Pads → Board
after_delivery b i now t p = rebooked i t now (line_settled i t (with_pads (with_timer b i t) p))
