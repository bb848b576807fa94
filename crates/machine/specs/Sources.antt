-- "Who holds this level" (document 02, F-5): what the sources in the book are, of every board and every call. Proved in proofs/SourceLaws.antt
-- (`sources : Sources`). That an entry's source is the one on the board that a pin's call leaves stands in Demand1 (`edge_of`).
use Rattle.std.specs.Prelude.{◌≡◌, ◌≤◌, Float}
use Rattle.pins.specs.declared.Pin.{Pin}
use Rattle.pins.specs.Pins.{source_number, resolved}
use Rattle.book.specs.Book.{Entry}
use Rattle.machine.specs.Board.{Board}
use Rattle.machine.specs.Call.{Call}
use Rattle.machine.specs.Step.{step}
use Rattle.machine.specs.Demand1.{Every}

-- "Resolving a pin shall also say": some pin was resolved, to the entry's level, which it had not, and to the entry's source
pub record Resolves (e : Entry) : Type 0 where
  pub pin : Pin
  pub vcc : Float
  pub level : e.level ≡ (resolved pin vcc).level
  pub source : e.source ≡ source_number (resolved pin vcc).source
  pub moved : e.level ≡ pin.level → ⊥

-- "so 4 never appears in the book": 1 the chip, 2 the outside or 3 a pull
abbrev pub NeverHeld : Entry → Type 0
NeverHeld e = (1 ≤ e.source) × (e.source ≤ 3)

pub record Sources : Type 0 where
  pub resolves : (b : Board) (c : Call) → Every Resolves (step b c).entries
  pub never-held : (b : Board) (c : Call) → Every NeverHeld (step b c).entries
