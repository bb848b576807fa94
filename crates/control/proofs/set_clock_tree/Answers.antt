-- Refused, or set.
use Rattle.state.specs.View.{view}
use Rattle.control.proofs.Tree.{tree-bad, tree-astray, tree-gives, tree-good, tree-cycle}
use mathlib.Core.Path.{ap, refl}
use mathlib.Core.Bool.{not}
use Rattle.control.proofs.set_clock_tree.Goals as goal

pub returns-then-not-is_good-clause-answers : goal.returns-then-not-is_good-clause-answers
returns-then-not-is_good-clause-answers c =
    tree-bad c.args.board.now.words.now c.args.board.now.reals.now c.args.t c.args.cycle _ c.is_good.ensures (ap not c.if-not-is_good.true) _ refl

pub returns-then-is_astray-clause-answers : goal.returns-then-is_astray-clause-answers
returns-then-is_astray-clause-answers c =
    tree-astray c.args.board.now.words.now c.args.board.now.reals.now c.args.t c.args.cycle _ c.is_good.ensures (ap not c.if-not-is_good.false) _ (c.is_astray.ensures c.args.board.now.reals.now) c.if-is_astray.true _ refl

pub set_clock_tree-requires : goal.set_clock_tree-requires
set_clock_tree-requires c =
    (tree-good _ _ c.is_good.ensures (ap not c.if-not-is_good.false), tree-cycle (view c.args.board.now.words.now c.args.board.now.reals.now) c.args.cycle _ (c.is_astray.ensures c.args.board.now.reals.now) c.if-is_astray.false)

pub returns-clause-answers : goal.returns-clause-answers
returns-clause-answers c =
    tree-gives c.args.board.now.words.now _ _ c.args.board.now.reals.now _ c.args.t c.args.cycle _ c.is_good.ensures (ap not c.if-not-is_good.false) _ (c.is_astray.ensures c.args.board.now.reals.now) c.if-is_astray.false c.set_clock_tree.ensures.board (c.set_last.ensures _) _ c.served.ensures
