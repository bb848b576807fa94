-- Tree and clock set, and the timers told if it differs.
use Rattle.context.proofs.Laws.{tree-kept, tree-told}
use Rattle.context.proofs.Small.{good-divided}
use mathlib.Core.Path.{◌∙◌, sym}
use Rattle.context.proofs.set_clock_tree.Goals as goal

pub set_tree-requires : goal.set_tree-requires
set_tree-requires c = good-divided c.args.t c.requires.0

pub retime_all-requires : goal.retime_all-requires
retime_all-requires c = c.requires.1

pub returns-then-differs-clause-board : goal.returns-then-differs-clause-board
returns-then-differs-clause-board c = tree-told _ _ _ _ c.args.t _ _ c.args.cycle (rw (c.seen-seen.ensures.words, c.seen-seen.ensures.reals) at c.tree-was.ensures) (rw (c.seen-seen.ensures.words, c.seen-seen.ensures.reals) at c.clock-k.ensures) c.set_tree.ensures.board c.set_hz.ensures c.set_clock.ensures.board _ (sym c.differs.ensures ∙ c.if-differs.true) c.retime_all.ensures.board

pub returns-else-differs-clause-board : goal.returns-else-differs-clause-board
returns-else-differs-clause-board c = tree-kept _ _ _ _ c.args.t _ _ c.args.cycle (rw (c.seen-seen.ensures.words, c.seen-seen.ensures.reals) at c.tree-was.ensures) (rw (c.seen-seen.ensures.words, c.seen-seen.ensures.reals) at c.clock-k.ensures) c.set_tree.ensures.board c.set_hz.ensures c.set_clock.ensures.board (sym c.differs.ensures ∙ c.if-differs.false)
