-- What driving a timer's outputs leaves: the board that a definition gives, and its level changes.
use Rattle.std.specs.Prelude.{◌≡◌, Bool, cond, ℕ, ltb}
use Rattle.gpio.specs.Gpio.{bit}
use Rattle.book.specs.Book.{Book, puts, entry_of, entries_of}
use Rattle.machine.specs.Board.{Board, Pads, with_pads}
use Rattle.machine.specs.Sys.{Move, Drive, still, sig_out}

-- a timer's four channels', their changes put into a book at a cycle
pub record Driven (d : Drive) (at : ℕ) (b b₁ : Board) (k k₁ : Book) : Type 0 where
  pub board : b₁ ≡ with_pads b d.pads
  pub entries : k₁ ≡ puts k (entries_of at d.changes)

-- machine's drive_channel where the level is known: signal s of channel ch at it, if the timer has the channel
unfoldable pub level_driven : ℕ → ℕ → ℕ → Bool → Pads → Move
level_driven channels ch s l p = cond (ltb ch channels) (sig_out p s (bit l)) (still p)

-- one channel's signal at a level, and its change put into a book at a cycle
pub record DrivenOne (m : Move) (at : ℕ) (b b₁ : Board) (k k₁ : Book) : Type 0 where
  pub board : b₁ ≡ with_pads b m.pads
  pub entries : k₁ ≡ puts k (entry_of at m.change)
