-- "Two timers on one interrupt" (document 02, F-7): the interrupt lines of every board that calls lead to. Proved in proofs/LineLaws.antt
-- (`two-timers : TwoTimers`).
use Rattle.std.specs.Prelude.{◌≡◌, Bool, true, false, cond, not, ◌&&◌, ◌||◌, List, [], ◌∷◌, ℕ, zero, suc, ◌<◌, eqb, ltb, get_or}
use Rattle.tim.specs.declared.Timer.{Timer}
use Rattle.nvic.specs.Nvic.{Line, has_line, line_at}
use Rattle.machine.specs.Board.{Board, timer_at, first_board}
use Rattle.machine.specs.Deliver.{wants_line}
use Rattle.machine.specs.Call.{BookCall, pin_setting, outside_drive, pin_reset, writing, resetting, delivery, Call, set_up, clock_tree, enable, clear_pending, ask, lend, is_refusal, is_set_up}
use Rattle.machine.specs.Step.{clock_on, written, step, board_after}

-- ---- the level

-- timer i is the board's and names line irq, which is below the line count; its flags ask for it: "the interrupt line follows SR & DIER & 1f"
abbrev pub asks : Board → ℕ → ℕ → Bool
asks b irq i = has_line b.nvic.nirq irq && (ltb i b.counts.timers && (eqb (timer_at b i).inst.irq irq && wants_line (timer_at b i)))

-- what timer i's own latest `set_line` of line irq asked for
abbrev pub wish : Board → ℕ → ℕ → Bool
wish b irq i = get_or (line_at b.nvic irq).wishes i false

-- at least one of the first n is so
unfoldable pub any_of : ℕ → (ℕ → Bool) → Bool
any_of zero f = false
any_of (suc n) f = f n || any_of n f

pub record Lines (b : Board) : Type 0 where
  -- a timer's wish is what its flags ask for; one that does not name a line has no wish there
  pub wishes : (irq i : ℕ) → wish b irq i ≡ asks b irq i
  -- "A line shall be high exactly when at least one timer naming it wants it high"
  pub high : (irq : ℕ) → (line_at b.nvic irq).high ≡ any_of b.counts.timers (wish b irq)

-- "Pending is still set only on a rise of the line": a call that is no set-up leaves it set where it was, or where the line rose
abbrev pub Pends : Board → Call → ℕ → Type 0
Pends b c irq =
    let was = line_at b.nvic irq in
    let is = line_at (step b c).board.nvic irq in
    is.pending ≡ true → (was.pending || (is.high && not was.high)) ≡ true

-- ---- "Boards with one timer per line see no difference"

-- a line as the Rust has it: `set_line` of any timer is its level
pub record RustLine : Type 0 where
  pub high : Bool
  pub pending : Bool

abbrev pub rust_idle : RustLine
rust_idle = record { high = false; pending = false }

abbrev pub rust_set : RustLine → Bool → RustLine
rust_set l level = record { high = level; pending = (level && not l.high) || l.pending }

abbrev pub rust_cleared : RustLine → RustLine
rust_cleared l = record { high = l.high; pending = false }

-- the line without its wishes
abbrev pub bare : Line → RustLine
bare l = record { high = l.high; pending = l.pending }

-- timer t's `set_line` among n lines
abbrev pub rust_settled : ℕ → Timer → (ℕ → RustLine) → ℕ → RustLine
rust_settled n t ls irq = cond (eqb irq t.inst.irq && has_line n irq) (rust_set (ls irq) (wants_line t)) (ls irq)

-- the lines by the Rust's rule after a call with a book that is not refused, on board b, which it leaves as a
abbrev pub rust_lent : Board → Board → BookCall → ℕ → (ℕ → RustLine) → ℕ → RustLine
rust_lent b a (pin_setting pin mode open_drain out pullup pulldown function) cycle ls = ls
rust_lent b a (outside_drive pin e) cycle ls = ls
rust_lent b a pin_reset cycle ls = ls
rust_lent b a (writing timer offset size value) cycle ls =
    cond (clock_on b (timer_at b timer) && (written b (timer_at b timer) offset size value cycle).line) (rust_settled a.nvic.nirq (timer_at a timer) ls) ls
rust_lent b a (resetting timer) cycle ls = rust_settled a.nvic.nirq (timer_at a timer) ls
rust_lent b a (delivery timer) cycle ls = rust_settled a.nvic.nirq (timer_at a timer) ls

abbrev pub rust_served : Board → Board → Call → (ℕ → RustLine) → ℕ → RustLine
rust_served b a (set_up s) ls = λ irq. rust_idle
rust_served b a (clock_tree t cycle) ls = ls
rust_served b a (enable word value) ls = ls
rust_served b a (clear_pending irq) ls = λ j. cond (eqb j irq) (rust_cleared (ls j)) (ls j)
rust_served b a (ask q) ls = ls
rust_served b a (lend k cycle places) ls = rust_lent b a k cycle ls

-- and after any call, and after a list of calls
abbrev pub rust_after : Board → Call → (ℕ → RustLine) → ℕ → RustLine
rust_after b c ls = cond (is_refusal (step b c).number) ls (rust_served b (step b c).board c ls)

unfoldable pub rust_lines : Board → List Call → (ℕ → RustLine) → ℕ → RustLine
rust_lines b [] ls = ls
rust_lines b (c ∷ cs) ls = rust_lines (step b c).board cs (rust_after b c ls)

-- no two timers of the board name one line; and of no board that the calls lead to
abbrev pub OneEach : Board → Type 0
OneEach b = (i j : ℕ) → i < b.counts.timers → j < b.counts.timers → (timer_at b i).inst.irq ≡ (timer_at b j).inst.irq
    → (timer_at b i).inst.irq < b.nvic.nirq
    → i ≡ j

unfoldable pub OneEachAlong : Board → List Call → Type 0
OneEachAlong b [] = OneEach b
OneEachAlong b (c ∷ cs) = OneEach b × OneEachAlong (step b c).board cs

pub record TwoTimers : Type 0 where
  pub lines : (cs : List Call) → Lines (board_after first_board cs)
  pub pends : (cs : List Call) (c : Call) (irq : ℕ) → is_set_up c ≡ false → Pends (board_after first_board cs) c irq
  -- level and pending flag are the Rust's
  pub as_before : (cs : List Call) → OneEachAlong first_board cs → (irq : ℕ)
      → bare (line_at (board_after first_board cs).nvic irq) ≡ rust_lines first_board cs (λ j. rust_idle) irq
