use Rattle.setup.proofs.Laws.{list-begins, list-goes, list-ends}
use Rattle.setup.proofs.Limits.{entry_at}
use native.Mathlib.Omega.{arith}
use Rattle.setup.proofs.store_table.Goals as goal

pub loop-k-init : goal.loop-k-init
loop-k-init c = list-begins c.args.table.now c.args.words.now

pub set_af-requires : goal.set_af-requires
set_af-requires c = (omega (arith, c.requires.0, c.loop-k-test.true), entry_at c.args.table.now c.loop-k.k c.requires.1 c.loop-k-test.true)

pub loop-k-preserved : goal.loop-k-preserved
loop-k-preserved c = list-goes c.args.table.now c.loop-k.k c.args.words.now c.loop-k.words c.loop-k.invariant c.loop-k-test.true c.requires.0 _ c.set_af.ensures

pub returns : goal.returns
returns c = list-ends c.args.table.now c.loop-k.k c.args.words.now c.loop-k.words c.loop-k.invariant c.loop-k-test.false
