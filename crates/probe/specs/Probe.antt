-- What a measured function leaves, and whether a pin's level changed.
use Rattle.std.specs.Prelude.{◌≡◌, ℕ, Option, Some, None}
use Rattle.gpio.specs.declared.Edge.{Edge}
use Rattle.machine.specs.Board.{Board, with_pads}
use Rattle.machine.specs.Sys.{Move}

abbrev pub moves : Option Edge → ℕ
moves None = 0
moves (Some e) = 1

pub record Moved (m : Move) (b b₁ : Board) (r : ℕ) : Type 0 where
  pub board : b₁ ≡ with_pads b m.pads
  pub moved : r ≡ moves m.change
