-- What part of a call's function leaves: an outcome's board, and its entries put into the book.
use Rattle.std.specs.Prelude.{◌≡◌, Bool, cond, [], ℕ, Option, is_some, unwrap_or}
use Rattle.tim.specs.declared.Timer.{Timer}
use Rattle.book.specs.Book.{Book, puts, entries_of}
use Rattle.machine.specs.Board.{Board, timer_at, with_pads}
use Rattle.machine.specs.Sys.{drive_outputs}
use Rattle.machine.specs.Call.{Outcome}
use Rattle.machine.specs.Step.{followed}

pub record Leaves (o : Outcome) (b₁ : Board) (k k₁ : Book) : Type 0 where
  pub board : b₁ ≡ o.board
  pub entries : k₁ ≡ puts k o.entries

-- the outputs driven at a count if there is one, and their changes put into the book
pub record DrivenIf (drive : Option ℕ) (t : Timer) (cycle : ℕ) (b b₁ : Board) (k k₁ : Book) : Type 0 where
  pub board : b₁ ≡ with_pads b (cond (is_some drive) (drive_outputs t (unwrap_or drive 0) b.pads).pads b.pads)
  pub entries : k₁ ≡ puts k (cond (is_some drive) (entries_of cycle (drive_outputs t (unwrap_or drive 0) b.pads).changes) [])

-- what follows where timer i was stored: `followed` of the timer that stands on the board
abbrev pub after : Board → ℕ → ℕ → Option ℕ → Bool → Bool → Outcome
after b i cycle drive lined booked = followed b i cycle (record { timer = timer_at b i; drive = drive; line = lined; book = booked })
