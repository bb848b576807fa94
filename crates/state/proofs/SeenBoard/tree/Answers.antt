-- The words of the dividers and the two reals.
use Rattle.state.proofs.Places.{tree-read}
use mathlib.Core.Path.{sym}
use Rattle.state.proofs.SeenBoard.tree.Goals as goal

pub returns : goal.returns
returns c = rw (c.divider_of.ensures, c.divider_of-2.ensures, c.divider_of-3.ensures, c.divider_of-4.ensures, c.divider_of-5.ensures, c.divider_of-6.ensures) (sym (tree-read c.args.self.words.now c.args.self.reals.now))
