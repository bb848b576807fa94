-- What is still to be done to the board leads to what the contract says.
use Prim.Native.Nat.{◌-◌}
use mathlib.Core.Path.{◌≡◌}
use Rattle.machine.specs.Step.{all_retimed}
use Rattle.state.specs.Lent.{lent_board, SameLoan}
use Rattle.context.proofs.retime_all.Given as goal

abbrev pub invariant-loop-i : goal.invariant-loop-i
invariant-loop-i l =
    (all_retimed (l.n - l.i) l.i l.cycle (lent_board l.board) ≡ all_retimed l.n 0 l.cycle (lent_board l.initial.board)) × SameLoan l.initial.board l.board
