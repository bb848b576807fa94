-- The cleared words and reals, with the supply and the clocks.
use Rattle.blank.proofs.First.{first}
use Rattle.blank.proofs.Blank.{flat-divided, fresh}
use mathlib.Core.Path.{◌∙◌}
use Rattle.blank.proofs.clear.Goals as goal

pub set_tree-requires : goal.set_tree-requires
set_tree-requires c = rw c.flat.ensures (flat-divided c.args.hz)

pub returns-clause-board : goal.returns-clause-board
returns-clause-board c = (rw (c.set_clock.ensures.board, c.new.ensures, c.set_tree.ensures.board, c.flat.ensures, c.set_vcc.ensures) (fresh _ c.args.board.now.reals.now _ c.args.hz c.args.vcc c.known_lengths.ensures.reals c.clear_words.ensures c.zero_reals.ensures)) ∙ first c.args.hz c.args.vcc
