-- A block of words and two reals that hold the tree.
use Rattle.state.proofs.Stores.{tree_set_lem}
use Rattle.state.specs.Board.{with_tree}
use Rattle.state.specs.View.{view}
use borrow.Author.Rules.{rules}
use mathlib.Core.Path.{◌∙◌, ap}
use Rattle.state.proofs.LentBoard.set_tree.Goals as goal

pub returns-clause-board : goal.returns-clause-board
returns-clause-board c = rw c.put.ensures (tree_set_lem c.args.self.now.words.now c.args.self.now.reals.now c.known_lengths.ensures.words c.known_lengths.ensures.reals c.pack_dividers-b.result c.args.t.sysclk_hz c.args.t.hclk_hz (search rules) ∙ ap (with_tree (view c.args.self.now.words.now c.args.self.now.reals.now)) c.pack_dividers-b.ensures)
