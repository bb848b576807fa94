-- Of `step`: every timer of every board that calls lead to is one that crates/follows speaks of, and what deliveries, reads, writes, a reset, the clock
-- gate and another clock tree do to it. The proof: proofs/Stepped.antt and proofs/More.antt.
use Rattle.std.specs.Prelude.{ℕ, ◌%◌, ◌≤◌, ◌<◌, ◌≡◌, true, false, cond, List, map}
use Rattle.rm0440.specs.Rules.{Rules, manual}
use Rattle.rm0440.specs.State as State
use Rattle.rm0440.specs.Clock.{matched, clocks}
use Rattle.rm0440.specs.Read.{read}
use Rattle.rm0440.specs.Late.{passes}
use Rattle.rm0440.specs.Write as M
use Rattle.rm0440.specs.Cases.{Outside}
use Rattle.rm0440.specs.WriteCases.{OutsideWrite}
use Rattle.tim.specs.declared.Timer.{Timer}
use Rattle.tim.specs.Count.{counts, ticks_at, cnt_at, synced}
use Rattle.clk.specs.declared.ClockTree.{ClockTree}
use Rattle.clk.specs.Clk.{differing}
use Rattle.periph.specs.Lane.{lane_read, lane_write}
use Rattle.follows.specs.Seen.{clocks_at, per, seen, rules_of, Within, Left, deliver}
use Rattle.follows.specs.Follows.{Delivered, between, acts, WithinDown, Fits}
use Rattle.machine.specs.Board.{Board, timer_at}
use Rattle.machine.specs.Deliver.{divider_of}
use Rattle.machine.specs.Call as C
use Rattle.machine.specs.Call.{Call}
use Rattle.machine.specs.Step.{clock_on, register, present, step, board_after}
use Rattle.machine.specs.Demand1.{reached}

-- the divider that timer i of board b steps by
abbrev pub div_of : Board → ℕ → ℕ
div_of b i = divider_of b (timer_at b i)

-- every timer of a board
abbrev pub Timers : Board → Type 0
Timers b = (i : ℕ) → i < b.counts.timers → Left (div_of b i) b.counts.last (timer_at b i)

-- a delivery answered 0, from a cycle a at which nothing was due: so many kernel clocks of the machine, and nothing is due
abbrev pub StepDelivers : Type 0
StepDelivers =
    (cs : List Call) (i a cycle places : ℕ) → i < (reached cs).counts.timers → WithinDown (timer_at (reached cs) i) → (timer_at (reached cs) i).count.base ≤ a → a ≤ cycle
    → Delivered (timer_at (reached cs) i) a → (step (reached cs) (C.deliver i cycle places)).number ≡ 0
    → (clocks (rules_of (timer_at (reached cs) i)) (between (timer_at (reached cs) i) (div_of (reached cs) i) a cycle) (seen (timer_at (reached cs) i) (div_of (reached cs) i) a)
    ≡ seen (timer_at (step (reached cs) (C.deliver i cycle places)).board i) (div_of (reached cs) i) cycle)
    × Delivered (timer_at (step (reached cs) (C.deliver i cycle places)).board i) cycle

-- the value that a write of some bytes gives its register
abbrev pub value_on : Board → ℕ → ℕ → ℕ → ℕ → ℕ → ℕ
value_on b i offset size value cycle = lane_write (present (timer_at b i) (register offset) cycle) offset size value

-- a write answered 0 with the timer's clock on and nothing due, and what it makes due at once delivered: the machine's write
abbrev pub StepWrites : Type 0
StepWrites =
    (cs : List Call) (f i offset size value cycle places : ℕ) → i < (reached cs).counts.timers → WithinDown (timer_at (reached cs) i) → Delivered (timer_at (reached cs) i) cycle
    → clock_on (reached cs) (timer_at (reached cs) i) ≡ true → (step (reached cs) (C.write i offset size value cycle places)).number ≡ 0
    → Within (timer_at (step (reached cs) (C.write i offset size value cycle places)).board i)
    → Delivered (deliver f cycle (div_of (reached cs) i) (timer_at (step (reached cs) (C.write i offset size value cycle places)).board i)) cycle
    → M.write (rules_of (timer_at (reached cs) i)) (register offset) (value_on (reached cs) i offset size value cycle) (seen (timer_at (reached cs) i) (div_of (reached cs) i) cycle)
    ≡ seen (deliver f cycle (div_of (reached cs) i) (timer_at (step (reached cs) (C.write i offset size value cycle places)).board i)) (div_of (reached cs) i) cycle

-- ---- timer i after calls cs: its divider, its rules, and what is seen of it at a cycle

abbrev pub timer : List Call → ℕ → Timer
timer cs i = timer_at (reached cs) i

abbrev pub divider : List Call → ℕ → ℕ
divider cs i = div_of (reached cs) i

abbrev pub rules : List Call → ℕ → Rules
rules cs i = rules_of (timer cs i)

abbrev pub seen_after : List Call → ℕ → ℕ → State.Timer
seen_after cs i c = seen (timer cs i) (divider cs i) c

-- ---- deliveries one after the other

-- a delivery's cycle and places
pub record Delivery : Type 0 where
  pub cycle : ℕ
  pub places : ℕ

abbrev pub deliveries : ℕ → List Delivery → List Call
deliveries i ds = map (λ (d : Delivery). C.deliver i d.cycle d.places) ds

-- a delivery, whatever it answers (0, 8 or a refusal), is as many events as its value says
abbrev pub StepEvents : Type 0
StepEvents =
    (cs : List Call) (i cycle places : ℕ) → i < (reached cs).counts.timers
    → timer_at (step (reached cs) (C.deliver i cycle places)).board i ≡ deliver (step (reached cs) (C.deliver i cycle places)).value cycle (divider cs i) (timer cs i)

-- the board before the last delivery, what that answers, and the timer after it
abbrev pub before : List Call → ℕ → List Delivery → Board
before cs i ds = board_after (reached cs) (deliveries i ds)

abbrev pub last : List Call → ℕ → List Delivery → ℕ → ℕ → C.Outcome
last cs i ds cycle places = step (before cs i ds) (C.deliver i cycle places)

abbrev pub last_timer : List Call → ℕ → List Delivery → ℕ → ℕ → Timer
last_timer cs i ds cycle places = timer_at (last cs i ds cycle places).board i

-- deliveries of which the last is answered 0, the others as may be (8 too), from a cycle a at which nothing was due: so many kernel clocks
abbrev pub StepSeries : Type 0
StepSeries =
    (cs : List Call) (i a : ℕ) (ds : List Delivery) (cycle places : ℕ) → i < (reached cs).counts.timers → WithinDown (timer cs i)
    → (timer cs i).count.base ≤ a → a ≤ cycle → Delivered (timer cs i) a → (last cs i ds cycle places).number ≡ 0
    → (clocks (rules cs i) (between (timer cs i) (divider cs i) a cycle) (seen_after cs i a)
    ≡ seen (last_timer cs i ds cycle places) (divider cs i) cycle)
    × Delivered (last_timer cs i ds cycle places) cycle

-- the same with events due, at the reference itself or since: from the reference, with what matches there
abbrev pub StepSeriesDue : Type 0
StepSeriesDue =
    (cs : List Call) (i : ℕ) (ds : List Delivery) (cycle places : ℕ) → i < (reached cs).counts.timers → Within (timer cs i) → (last cs i ds cycle places).number ≡ 0
    → clocks (rules cs i) (clocks_at (timer cs i) (divider cs i) cycle)
    (matched (rules cs i) (seen_after cs i (timer cs i).count.base))
    ≡ seen (last_timer cs i ds cycle places) (divider cs i) cycle

-- ---- reads, late calls and writes, reset, gate, clock tree

-- a read: the machine's register, or 0 with the timer's clock off
abbrev pub StepReads : Type 0
StepReads =
    (cs : List Call) (i offset size cycle : ℕ) → (step (reached cs) (C.read i offset size cycle)).number ≡ 0
    → (step (reached cs) (C.read i offset size cycle)).value
    ≡ cond (clock_on (reached cs) (timer cs i)) (lane_read (read (register offset) (seen_after cs i cycle)) offset size) 0

-- at any cycle of a call, with events due or not, the machine is seen of whose clocks the counters alone are seen
abbrev pub StepLate : Type 0
StepLate =
    (cs : List Call) (i cycle : ℕ) → i < (reached cs).counts.timers → Within (timer cs i) → (reached cs).counts.last ≤ cycle
    → passes (rules cs i) (clocks_at (timer cs i) (divider cs i) cycle) (seen_after cs i (timer cs i).count.base)
    ≡ seen_after cs i cycle

-- what a write answers, the timer that it leaves, and the value that it gives its register
abbrev pub wrote : List Call → ℕ → ℕ → ℕ → ℕ → ℕ → ℕ → C.Outcome
wrote cs i offset size value cycle places = step (reached cs) (C.write i offset size value cycle places)

abbrev pub left : List Call → ℕ → ℕ → ℕ → ℕ → ℕ → ℕ → Timer
left cs i offset size value cycle places = timer_at (wrote cs i offset size value cycle places).board i

abbrev pub value_written : List Call → ℕ → ℕ → ℕ → ℕ → ℕ → ℕ
value_written cs i offset size value cycle = value_on (reached cs) i offset size value cycle

-- a write with the timer's clock on, with events due or not: the machine's, of what is seen
abbrev pub StepLateWrites : Type 0
StepLateWrites =
    (cs : List Call) (f i offset size value cycle places : ℕ) → i < (reached cs).counts.timers → Within (timer cs i)
    → clock_on (reached cs) (timer cs i) ≡ true → (wrote cs i offset size value cycle places).number ≡ 0
    → Within (left cs i offset size value cycle places)
    → Delivered (deliver f cycle (divider cs i) (left cs i offset size value cycle places)) cycle
    → M.write (rules cs i) (register offset) (value_written cs i offset size value cycle) (seen_after cs i cycle)
    ≡ cond (acts (register offset) (value_written cs i offset size value cycle) (seen_after cs i cycle))
    (seen (deliver f cycle (divider cs i) (left cs i offset size value cycle places)) (divider cs i) cycle)
    (seen (left cs i offset size value cycle places) (divider cs i) cycle)

-- a timer's reset
abbrev pub StepResets : Type 0
StepResets =
    (cs : List Call) (i cycle places : ℕ) → i < (reached cs).counts.timers → (step (reached cs) (C.reset_timer i cycle places)).number ≡ 0
    → M.reset (seen_after cs i cycle) ≡ seen (timer_at (step (reached cs) (C.reset_timer i cycle places)).board i) (divider cs i) cycle

-- with its clock off a write leaves the timer; the gate itself stops nothing (docs/DIFFERENCES.md, gated-counts)
abbrev pub StepGated : Type 0
StepGated =
    (cs : List Call) (i : ℕ)
    → ((offset size value cycle places : ℕ) → clock_on (reached cs) (timer cs i) ≡ false → left cs i offset size value cycle places ≡ timer cs i)
    × ((word value : ℕ) → timer_at (step (reached cs) (C.enable word value)).board i ≡ timer cs i)

-- another clock tree: as `Retimes` of crates/follows, with the divider of the new tree
abbrev pub treed : List Call → ClockTree → ℕ → Board
treed cs tree cycle = (step (reached cs) (C.clock_tree tree cycle)).board

abbrev pub StepRetimes : Type 0
StepRetimes =
    (cs : List Call) (i : ℕ) (tree : ClockTree) (cycle : ℕ) → i < (reached cs).counts.timers → (step (reached cs) (C.clock_tree tree cycle)).number ≡ 0
    → differing (reached cs).clocks.tree tree ≡ true
    → ((timer_at (treed cs tree cycle) i).count.running ≡ true → ticks_at (timer_at (treed cs tree cycle) i) cycle ≡ 0)
    → seen (timer_at (treed cs tree cycle) i) (div_of (treed cs tree cycle) i) cycle
    ≡ State.with_count (seen_after cs i cycle) (synced (timer cs i) cycle).count.running
    (cond (counts (synced (timer cs i) cycle))
    (clocks_at (synced (timer cs i) cycle) (div_of (treed cs tree cycle) i) cycle % per (synced (timer cs i) cycle)) 0)
    (cnt_at (timer cs i) cycle)

-- ---- outside the cases: the manual's

-- the reload, in use and written, fits the timer's width
abbrev pub StepFits : Type 0
StepFits =
    (cs : List Call) (i cycle : ℕ)
    → Fits (seen_after cs i cycle) × ((timer cs i).regs.arr ≤ (seen_after cs i cycle).max)

-- clocks of which none meets a case that the timer's rules leave to the Rust
abbrev pub Clear : List Call → ℕ → ℕ → ℕ → Type 0
Clear cs i a cycle =
    (m : ℕ) → m < between (timer cs i) (divider cs i) a cycle
    → Outside (rules cs i) (clocks (rules cs i) m (seen_after cs i a))

abbrev pub StepDeliversManual : Type 0
StepDeliversManual =
    (cs : List Call) (i a : ℕ) (ds : List Delivery) (cycle places : ℕ) → i < (reached cs).counts.timers → WithinDown (timer cs i)
    → (timer cs i).count.base ≤ a → a ≤ cycle → Delivered (timer cs i) a → (last cs i ds cycle places).number ≡ 0 → Clear cs i a cycle
    → clocks manual (between (timer cs i) (divider cs i) a cycle) (seen_after cs i a)
    ≡ seen (last_timer cs i ds cycle places) (divider cs i) cycle

abbrev pub StepWritesManual : Type 0
StepWritesManual =
    (cs : List Call) (f i offset size value cycle places : ℕ) → i < (reached cs).counts.timers → WithinDown (timer cs i) → Delivered (timer cs i) cycle
    → clock_on (reached cs) (timer cs i) ≡ true → (wrote cs i offset size value cycle places).number ≡ 0
    → Within (left cs i offset size value cycle places)
    → Delivered (deliver f cycle (divider cs i) (left cs i offset size value cycle places)) cycle
    → OutsideWrite (rules cs i) (register offset) (value_written cs i offset size value cycle) (seen_after cs i cycle)
    → M.write manual (register offset) (value_written cs i offset size value cycle) (seen_after cs i cycle)
    ≡ seen (deliver f cycle (divider cs i) (left cs i offset size value cycle places)) (divider cs i) cycle

pub record Boards : Type 0 where
  pub timers : (cs : List Call) → Timers (reached cs)
  pub delivers : StepDelivers
  pub writes : StepWrites
  pub events : StepEvents
  pub series : StepSeries
  pub series-due : StepSeriesDue
  pub reads : StepReads
  pub late : StepLate
  pub late-writes : StepLateWrites
  pub resets : StepResets
  pub gated : StepGated
  pub retimes : StepRetimes
  pub fits : StepFits
  pub delivers-manual : StepDeliversManual
  pub writes-manual : StepWritesManual
