-- What is still due leads to the same end.
use Prim.Native.Nat.{◌-◌}
use Rattle.book.specs.Lent.{filled, SameSlices}
use Rattle.delivery.proofs.Laws.{Going}
use Rattle.machine.specs.Deliver.{handled, most_events}
use Rattle.state.specs.Lent.{lent_board, SameLoan}
use Rattle.delivery.proofs.run.Given as goal

abbrev pub invariant-loop-at : goal.invariant-loop-at
invariant-loop-at l =
    Going l.cycle l.fn.div.n l.room (handled most_events l.cycle l.fn.div.n l.room l.initial.t (lent_board l.initial.board).pads) (lent_board l.initial.board) (filled l.initial.book) l.t (lent_board l.board) (filled l.book) l.events
    × SameLoan l.initial.board l.board × SameSlices l.initial.book l.book

abbrev pub decreases-loop-at : goal.decreases-loop-at
decreases-loop-at l =
    most_events - l.events
