-- Pin by pin: what is left of the reset leads to the same board and book.
use Rattle.book.specs.Lent.{filled, SameSlices}
use Rattle.state.specs.Lent.{lent_board, SameLoan}
use Rattle.sys.proofs.Laws.{Resetting}
use Rattle.sys.proofs.reset_pins.Given as goal

abbrev pub invariant-loop-i : goal.invariant-loop-i
invariant-loop-i l =
    Resetting l.n l.cycle l.i (lent_board l.initial.board) (filled l.initial.book) (lent_board l.board) (filled l.book)
    × SameLoan l.initial.board l.board × SameSlices l.initial.book l.book
