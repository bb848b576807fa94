-- What a function over the lent state leaves: the board that a definition gives, and its level changes.
use Rattle.std.specs.Prelude.{◌≡◌, Bool, ◌&&◌, ℕ, Option}
use Rattle.gpio.specs.declared.Gpio.{Gpio}
use Rattle.gpio.specs.Gpio.{is_push_pull, drives}
use Rattle.gpio.specs.declared.Edge.{Edge}
use Rattle.machine.specs.Board.{Board, with_pads}
use Rattle.machine.specs.Sys.{Move, reset_pins}
use Rattle.machine.specs.Step.{changes_of}
use Rattle.book.specs.Book.{Book, puts}

-- a push-pull pin that its signal drives
abbrev pub signal_driven : Gpio → Bool
signal_driven g = is_push_pull g.cfg && drives g.sig

-- one pin's
pub record Moves (m : Move) (b b₁ : Board) (r : Option Edge) : Type 0 where
  pub board : b₁ ≡ with_pads b m.pads
  pub change : r ≡ m.change

-- every pin's, put into a book at a cycle
pub record Reset (b b₁ : Board) (cycle : ℕ) (k k₁ : Book) : Type 0 where
  pub board : b₁ ≡ with_pads b (reset_pins b.pads b.counts.pins).pads
  pub entries : k₁ ≡ puts k (changes_of cycle (reset_pins b.pads b.counts.pins).changes)
