-- Demand 1, as statements about `step`: which number a call is given and what it leaves, the entries, the last changing call, a delivery's work.
-- Proved in proofs/Numbers.antt (`demand1 : Demand1`).
use Rattle.std.specs.Prelude.{◌≡◌, true, false, cond, ◌||◌, List, [], ◌∷◌, ◌++◌, map, ◌⊎◌, ℕ, zero, suc, ◌/◌, ◌≤◌, min, eqb, length, replicate}
use Rattle.tim.specs.declared.Timer.{Timer}
use Rattle.tim.specs.declared.Due.{Due}
use Rattle.tim.specs.declared.Due.TheVariants.{At, Stopped}
use Rattle.tim.specs.Next.{next_event}
use Rattle.pins.specs.declared.ExtDrive.{ExtDrive}
use Rattle.pins.specs.Pins.{source_number}
use Rattle.book.specs.Book.{Entry}
use Rattle.machine.specs.Board.{Board, Pads, timer_at, gpio_at, first_board}
use Rattle.machine.specs.Deliver.{Turn, turn_of, divider_of, due_by}
use Rattle.machine.specs.Call.{Setup, Question, Call, set_up, ask, set_pin, drive_pin, deliver, is_delivery, is_why, is_set_up, lent, book_cycle, Outcome, is_refusal}
use Rattle.machine.specs.Step.{step, board_after}
use Rattle.machine.specs.Refusals.{refusals, order, in_order, among, rank, applies, first, holds, ending, most, last_after}

-- ---- the number

-- "1 to 7, and numbers added later, return value 0 and count 0 and change nothing"
pub record Unchanged (b : Board) (o : Outcome) : Type 0 where
  pub board : o.board ≡ b
  pub value : o.value ≡ 0
  pub entries : o.entries ≡ []

-- "given exactly when": of every board and every call
pub record Numbered (b : Board) (c : Call) : Type 0 where
  -- the number is one of the table's
  pub listed : ((step b c).number ≡ 0) ⊎ (((step b c).number ≡ 8) ⊎ (among (step b c).number order ≡ true))
  -- the table lists a call's numbers in the table's order; the first that applies is given, and it is a refusal
  pub ordered : in_order order (refusals b c) ≡ true
  pub first-given : applies (refusals b c) ≡ true → (step b c).number ≡ first (refusals b c)
  pub first-refuses : applies (refusals b c) ≡ true → is_refusal (step b c).number ≡ true
  -- "The lowest number that applies is given": none that applies stands before it
  pub lowest : (n : ℕ) → holds n (refusals b c) ≡ true → rank order (step b c).number ≤ rank order n
  -- a refusal is given only where it applies, and changes nothing
  pub given-applies : is_refusal (step b c).number ≡ true → holds (step b c).number (refusals b c) ≡ true
  pub unchanged : is_refusal (step b c).number ≡ true → Unchanged b (step b c)
  -- "served: nothing below applies", or 8: "a delivery stopped with an event still due", or a query why with one due; no other call gives it
  pub else-served : applies (refusals b c) ≡ false → (step b c).number ≡ ending b c
  pub backlog : (step b c).number ≡ 8 → (is_delivery c || is_why c) ≡ true

-- ---- the entries

-- no more than the places lent; one for a pin, four for a timer, one for each pin of a pin reset
pub record EntriesFit (b : Board) (c : Call) : Type 0 where
  pub places : length (step b c).entries ≤ lent c
  pub most : length (step b c).entries ≤ most b c

-- each entry of a list is as P says
unfoldable pub Every : (Entry → Type 0) → List Entry → Type 0
Every P [] = Unit {0}
Every P (e ∷ es) = P e × Every P es

-- an entry of that cycle; one no later than it
abbrev pub StampedAt : ℕ → Entry → Type 0
StampedAt at e = e.cycle ≡ at

abbrev pub StampedBy : ℕ → Entry → Type 0
StampedBy now e = e.cycle ≤ now

abbrev pub pin_level : Pads → ℕ → ℕ
pin_level p i = (gpio_at p i).pin.level

abbrev pub pin_source : Pads → ℕ → ℕ
pin_source p i = source_number (gpio_at p i).pin.source

-- a pin's level before and after a call at a cycle: no entry where they are the same ("A change of source alone makes no entry"), else one with
-- the new level and its source
abbrev pub edge_of : ℕ → ℕ → ℕ → ℕ → ℕ → List Entry
edge_of pin before after source cycle = cond (eqb after before) [] (record { pin = pin; level = after; cycle = cycle; source = source } ∷ [])

-- a pin's level after entries, from a level: that of its last entry
unfoldable pub level_after : List Entry → ℕ → ℕ → ℕ
level_after [] pin l = l
level_after (e ∷ es) pin l = level_after es pin (cond (eqb e.pin pin) e.level l)

-- from the pins' levels on, each entry is another level of its pin
unfoldable pub Edges : List Entry → (ℕ → ℕ) → Type 0
Edges [] f = Unit {0}
Edges (e ∷ es) f = (eqb e.level (f e.pin) ≡ false) × Edges es (λ i. cond (eqb e.pin i) e.level (f i))

-- "An entry is made exactly when a pin's level changes": between two pads, the entries are the changes, in order
pub record Traced (p q : Pads) (es : List Entry) : Type 0 where
  pub after : (i : ℕ) → pin_level q i ≡ level_after es i (pin_level p i)
  pub edges : Edges es (λ i. pin_level p i)

-- ---- a delivery

-- n events, each at its due cycle: the timer and the pads after them, and their entries joined
unfoldable pub after_events : ℕ → ℕ → Timer → Pads → Turn
after_events zero div t p = record { timer = t; pads = p; entries = [] }
after_events (suc n) div t p =
    let s = turn_of t p (next_event t) div in
    let r = after_events n div s.timer s.pads in
    record { timer = r.timer; pads = r.pads; entries = s.entries ++ r.entries }

-- each of the n events was due by now
unfoldable pub AllDue : ℕ → ℕ → ℕ → Timer → Pads → Type 0
AllDue zero now div t p = Unit {0}
AllDue (suc n) now div t p =
    let s = turn_of t p (next_event t) div in (due_by (next_event t) now ≡ true) × AllDue n now div s.timer s.pads

-- the cycles of n events' entries: for each entry the due cycle of the event that made it
abbrev pub due_cycle : Due → ℕ
due_cycle (At at e) = at
due_cycle Stopped = 0

unfoldable pub due_cycles : ℕ → ℕ → Timer → Pads → List ℕ
due_cycles zero div t p = []
due_cycles (suc n) div t p =
    let s = turn_of t p (next_event t) div in replicate (length s.entries) (due_cycle (next_event t)) ++ due_cycles n div s.timer s.pads

abbrev pub stamps : List Entry → List ℕ
stamps es = map (λ (e : Entry). e.cycle) es

-- a delivery that is not refused, with its answer's number, value, entries and board
pub record Works (b : Board) (i cycle places : ℕ) (o : Outcome) : Type 0 where
  -- "A delivery stops when nothing is due (0)": on the board that it leaves nothing is due any more
  pub cleared : o.number ≡ 0 → due_by (next_event (timer_at o.board i)) cycle ≡ false
  -- "a delivery stopped with an event still due" (8)
  pub backlog : o.number ≡ 8 → due_by (next_event (timer_at o.board i)) cycle ≡ true
  -- "With L places it clears everything due or handles at least the lesser of 100,001 and L div 4."
  pub works : o.number ≡ 8 → min 100001 (places / 4) ≤ o.value
  pub value-le : o.value ≤ 100001
  -- the count is of the events' states: the timer, the pads and the entries are those of so many events, each at its due cycle, and each was due
  pub timer : timer_at o.board i ≡ (after_events o.value (divider_of b (timer_at b i)) (timer_at b i) b.pads).timer
  pub pads : o.board.pads ≡ (after_events o.value (divider_of b (timer_at b i)) (timer_at b i) b.pads).pads
  pub entries : o.entries ≡ (after_events o.value (divider_of b (timer_at b i)) (timer_at b i) b.pads).entries
  -- "Each event acts at its own due cycle, however late delivered": each entry carries the due cycle of the event that made it
  pub cycles : stamps o.entries ≡ due_cycles o.value (divider_of b (timer_at b i)) (timer_at b i) b.pads
  pub all-due : AllDue o.value cycle (divider_of b (timer_at b i)) (timer_at b i) b.pads

-- ---- the demand

-- the board that a list of calls leads to
abbrev pub reached : List Call → Board
reached cs = board_after first_board cs

pub record Demand1 : Type 0 where
  -- ---- of every board and every call
  pub number : (b : Board) (c : Call) → Numbered b c
  -- "Set-up can only give 0, 1 or 4."
  pub set-up : (b : Board) (s : Setup)
      → ((step b (set_up s)).number ≡ 0) ⊎ (((step b (set_up s)).number ≡ 1) ⊎ ((step b (set_up s)).number ≡ 4))
  -- a question changes nothing, whatever its number; of a query 8 comes "with value 0"
  pub asked : (b : Board) (q : Question) → (step b (ask q)).board ≡ b
  pub asked-backlog : (b : Board) (q : Question) → (step b (ask q)).number ≡ 8 → Unchanged b (step b (ask q))
  pub fits : (b : Board) (c : Call) → EntriesFit b c
  -- every entry carries the call's cycle; of a delivery none is later than it
  pub stamped : (b : Board) (c : Call) → is_delivery c ≡ false → Every (StampedAt (book_cycle c)) (step b c).entries
  pub stamped-by : (b : Board) (i cycle places : ℕ) → Every (StampedBy cycle) (step b (deliver i cycle places)).entries
  -- a changing call is "any answered 0 or 8 with a cycle, reads, peeks and queries excepted": `last_after` lists them
  pub last-moves : (b : Board) (c : Call) → is_refusal (step b c).number ≡ false → (step b c).board.counts.last ≡ last_after b c
  -- ---- of every board that calls lead to
  pub delivery : (cs : List Call) (i cycle places : ℕ) → applies (refusals (reached cs) (deliver i cycle places)) ≡ false
      → Works (reached cs) i cycle places (step (reached cs) (deliver i cycle places))
  -- "An entry is made exactly when a pin's level changes": of a pin's call none where its level is the same after it, else one, with the new level, its
  -- source on the board that the call leaves, and the call's cycle
  pub pin-setting : (cs : List Call) (pin mode open_drain out pullup pulldown function cycle places : ℕ)
      → let o = step (reached cs) (set_pin pin mode open_drain out pullup pulldown function cycle places) in
      o.entries ≡ edge_of pin (pin_level (reached cs).pads pin) (pin_level o.board.pads pin) (pin_source o.board.pads pin) cycle
  pub outside-drive : (cs : List Call) (pin : ℕ) (e : ExtDrive) (cycle places : ℕ)
      → let o = step (reached cs) (drive_pin pin e cycle places) in
      o.entries ≡ edge_of pin (pin_level (reached cs).pads pin) (pin_level o.board.pads pin) (pin_source o.board.pads pin) cycle
  -- of every call but set-up, over all pins
  pub changes : (cs : List Call) (c : Call) → is_set_up c ≡ false → Traced (reached cs).pads (step (reached cs) c).board.pads (step (reached cs) c).entries
