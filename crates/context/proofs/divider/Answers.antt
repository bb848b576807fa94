-- The tree loaded, and its divider.
use Rattle.context.proofs.Small.{timer-divider}
use Rattle.state.proofs.InRange.{bounded}
use Rattle.context.proofs.divider.Goals as goal

pub invariant_of-result : goal.invariant_of-result
invariant_of-result c = record { below = rw (c.timer_div.ensures, c.tree-tree.ensures) (timer-divider _ c.args.t.inst.apb (bounded c.args.board.words.now c.args.board.reals.now).divided).le }

pub returns : goal.returns
returns c = record {
  divider = rw (c.timer_div.ensures, c.tree-tree.ensures);
  positive = rw (c.timer_div.ensures, c.tree-tree.ensures) (timer-divider _ c.args.t.inst.apb (bounded c.args.board.words.now c.args.board.reals.now).divided).pos;
}
