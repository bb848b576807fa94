-- Demand 3 of the books that calls leave: any exported calls, one after the other, each on the arrays that the one before left, each with
-- whatever book it was lent. The claim (crates/accuracy/specs/Claim.antt) with the entries read off those books.
use Rattle.std.specs.Prelude.{◌≡◌, List, [], ◌∷◌, ◌++◌, ℕ, Float}
use Rattle.book.specs.Book.{Entry, Lent, Holds}
use Rattle.machine.specs.Board.{Board, gpio_at, first_board}
use Rattle.machine.specs.Call.{Call, write}
use Rattle.machine.specs.Step.{run, board_after}
use Rattle.state.specs.View.{view}
use Rattle.book.specs.Level.{entries_from, level_at, highs}
use Rattle.accuracy.specs.Claim.{Pilot, Steady, Window, WithinBound, board₁, joined, period_of, high_of}

-- one run of an exported function: the calls that it performed (one; `run_calls` some), what its arrays and its book held when it came and
-- when it returned, and its count of entries. A function that is lent no book leaves an empty one.
pub record Made : Type 0 where
  pub calls : List Call
  pub words : List ℕ
  pub words₁ : List ℕ
  pub reals : List Float
  pub reals₁ : List Float
  pub lent : Lent
  pub left : Lent
  pub count : ℕ

abbrev pub found : Made → Board
found m = view m.words m.reals

abbrev pub leaves : Made → Board
leaves m = view m.words₁ m.reals₁

-- what the function's contract says of board and book (proofs/Joined.antt: `by_call`, `by-bookless`; Runs.antt: `by-run-calls`)
pub record Kept (m : Made) : Type 0 where
  pub board : leaves m ≡ board_after (found m) m.calls
  pub book : Holds (joined (run (found m) m.calls)) m.lent m.left m.count

-- "Each call gets the board, booking table included, that the last one left; nobody else writes it."
unfoldable pub Chain : List ℕ → List Float → List Made → Type 0
Chain w x [] = Unit {0}
Chain w x (m ∷ ms) = (m.words ≡ w) × (m.reals ≡ x) × Kept m × Chain m.words₁ m.reals₁ ms

-- "joined in order (each call's first count places as it left them)"
unfoldable pub entries_left : List Made → List Entry
entries_left [] = []
entries_left (m ∷ ms) = entries_from 0 m.count m.left ++ entries_left ms

unfoldable pub calls_made : List Made → List Call
calls_made [] = []
calls_made (m ∷ ms) = m.calls ++ calls_made ms

-- a pilot's calls as they were made: those before the start from the first board on, the start by itself, those after it
pub record MadeOf (π : Pilot) : Type 0 where
  pub words : List ℕ
  pub reals : List Float
  pub before : List Made
  pub start : Made
  pub after : List Made
  pub first : view words reals ≡ first_board
  pub chain : Chain words reals (before ++ (start ∷ after))
  pub calls-before : calls_made before ≡ π.before
  pub call-start : start.calls ≡ write π.timer π.offset π.size π.value π.s π.places ∷ []
  pub calls-after : calls_made after ≡ π.after

-- the pin's level at each cycle, by the books of the calls after the start, else its level in the arrays that the start left
abbrev pub level_left : (π : Pilot) → MadeOf π → ℕ → ℕ
level_left π s = level_at π.pin (entries_left s.after) (gpio_at (leaves s.start).pads π.pin).pin.level

-- "H × P and W × D at most D × (P − D) apart", H counted in the books; the rest is `Claim`, word for word
abbrev pub BookClaim : Type 0
BookClaim =
    (π : Pilot) (s : MadeOf π) → Steady π → (a W : ℕ) → Window π a W
    → WithinBound (highs (level_left π s) a W) W (period_of (board₁ π) π.timer) (high_of (board₁ π) π.timer π.ch)
