-- What is left to do leads to the same end.
use Rattle.book.specs.Book.{book}
use Rattle.book.specs.Lent.{slices_of, filled, SameSlices}
use Rattle.state.specs.Lent.{lent_board, SameLoan}
use lib.ListN.{length}
use mathlib.Core.Path.{◌≡◌}
use Rattle.calls.proofs.Listed.{Going}
use Rattle.calls.proofs.run_calls.Given as goal

abbrev pub invariant-loop-done : goal.invariant-loop-done
invariant-loop-done l =
    Going l.calls l.room (lent_board l.initial.board) (lent_board l.board) l.initial.answers l.answers (book (slices_of l.initial.book) 0) (filled l.book) l.at l.done
    × (length l.answers ≡ length l.initial.answers) × SameLoan l.initial.board l.board × SameSlices l.initial.book l.book
