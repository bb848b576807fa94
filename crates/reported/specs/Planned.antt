-- Demand 3 of the duty report: for a steady pilot (crates/accuracy/specs/Claim.antt) and a shift inside its span, the high cycles that the report
-- gives for its pin satisfy demand 3's bound; and the record is in order for that pin.
use Rattle.std.specs.Prelude.{◌≡◌, false, List, [], ◌∷◌, ◌++◌, map, ℕ, ◌-◌, ◌*◌, ◌≤◌, get_or}
use Rattle.book.specs.Book.{Entry}
use Rattle.machine.specs.Board.{gpio_at}
use Rattle.machine.specs.Step.{run}
use Rattle.accuracy.specs.Claim.{Pilot, Steady, Window, WithinBound, board₁, joined, period_of, high_of}
use Rattle.shift.specs.Shift.{Shift, unsourced, level_before, misplaced, number_of, Reports}

-- "the entries of all calls after the start, joined in order"
abbrev pub entries_after : Pilot → List Entry
entries_after π = joined (run (board₁ π) π.after)

-- what the report is given of them: "The shift report takes no sources" (F-5)
abbrev pub reported_of : Pilot → List Entry
reported_of π = map unsourced (entries_after π)

-- a shift of the pilot: its pin's level on the board that the start left, and cycles inside its span
pub record Planned (π : Pilot) (s : Shift) : Type 0 where
  pub level : level_before s π.pin ≡ (gpio_at (board₁ π).pads π.pin).pin.level
  pub window : Window π s.from (s.to - s.from)

-- "H × P and W × D at most D × (P − D) apart", H the pin's high cycles as reported
abbrev pub ReportClaim : Type 0
ReportClaim =
    (π : Pilot) → Steady π → (s : Shift) → Planned π s → (number high : ℕ) (lent left : List ℕ) → Reports s (reported_of π) number high lent left → number ≡ 0
    → WithinBound (get_or left (3 * π.pin) 0) (s.to - s.from) (period_of (board₁ π) π.timer) (high_of (board₁ π) π.timer π.ch)

-- no entry of the pilot's pin is one that 10 is given for
abbrev pub OrderClaim : Type 0
OrderClaim =
    (π : Pilot) → Steady π → (before : List Entry) (e : Entry) (rest : List Entry) → entries_after π ≡ before ++ (e ∷ rest) → e.pin ≡ π.pin
    → misplaced before e ≡ false

-- every entry is of one pin
unfoldable pub OnlyOf : ℕ → List Entry → Type 0
OnlyOf pin [] = Unit {0}
OnlyOf pin (e ∷ es) = (e.pin ≡ pin) × OnlyOf pin es

-- so where no other pin moves, the report is given: number 0
abbrev pub ServedClaim : Type 0
ServedClaim = (π : Pilot) → Steady π → OnlyOf π.pin (entries_after π) → (s : Shift) → s.from ≤ s.to → number_of s (reported_of π) ≡ 0
