-- The board that lent memory holds, and that a call leaves the same memory lent.
use Rattle.std.specs.Prelude.{◌≡◌}
use Rattle.machine.specs.Board.{Board}
use Rattle.state.specs.View.{view}
use Rattle.state.specs.declared.LentBoard.{LentBoard}
use Rattle.state.specs.declared.SeenBoard.{SeenBoard}

abbrev pub lent_board : LentBoard → Board
lent_board b = view b.words.now b.reals.now

abbrev pub seen_board : SeenBoard → Board
seen_board b = view b.words.now b.reals.now

pub record SameLoan (b b₁ : LentBoard) : Type 0 where
  pub words : b₁.words.ghost_name ≡ b.words.ghost_name
  pub reals : b₁.reals.ghost_name ≡ b.reals.ghost_name
