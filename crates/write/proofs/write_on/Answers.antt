-- The lane merged, and one case for each way.
use Prim.Native.Nat.{◌*◌, ◌/◌}
use native.Mathlib.Omega.{arith}
use Rattle.book.specs.Lent.{slices_of}
use Rattle.regs.proofs.Cases.{ccr-in}
use Rattle.write.proofs.Laws.{at_reg, at-reg-book, dier-entries, no-entries, on-merged, on-merged-book, sr-entries}
use Rattle.write.proofs.write_on.Goals as goal

pub merged-v-requires : goal.merged-v-requires
merged-v-requires c = (c.requires.size, omega (arith, c.requires.cycle))

pub write_cr1-requires : goal.write_cr1-requires
write_cr1-requires c = record { cycle = c.requires.cycle; empty = c.requires.empty; room = c.requires.room }

pub write_compare-requires : goal.write_compare-requires
write_compare-requires c = record { register = ccr-in (c.args.offset / 4 * 4) (omega (arith, c.in-52-to-64.if-off-lt52-own.false)) (omega (arith, c.in-52-to-64.if-off-lt65-own.true)); cycle = omega (arith, c.requires.cycle); empty = c.requires.empty; room = c.requires.room }

pub write_timer-requires : goal.write_timer-requires
write_timer-requires c = record { cycle = c.requires.cycle; empty = c.requires.empty; room = c.requires.room }

pub returns-in-0-clause-answers : goal.returns-in-0-clause-answers
returns-in-0-clause-answers c = on-merged c.args.board.now.words.now c.args.board.now.reals.now c.args.i.n c.args.offset c.args.size c.args.value c.args.cycle _ (c.merged-v.ensures c.args.board.now.reals.now) _ _ _ (at_reg c.args.board.now.words.now c.args.board.now.reals.now c.args.i.n _ 0 _ c.args.cycle c.in-0.is _ _ _ c.write_cr1.ensures.answers)

pub returns-in-0-clause-holds : goal.returns-in-0-clause-holds
returns-in-0-clause-holds c = on-merged-book c.args.board.now.words.now c.args.board.now.reals.now c.args.i.n c.args.offset c.args.size c.args.value c.args.cycle _ (c.merged-v.ensures c.args.board.now.reals.now) _ _ _ (at-reg-book c.args.board.now.words.now c.args.board.now.reals.now c.args.i.n _ 0 _ c.args.cycle c.in-0.is _ _ _ c.write_cr1.ensures.holds)

pub returns-in-12-clause-answers : goal.returns-in-12-clause-answers
returns-in-12-clause-answers c = rw c.requires.empty (on-merged c.args.board.now.words.now c.args.board.now.reals.now c.args.i.n c.args.offset c.args.size c.args.value c.args.cycle _ (c.merged-v.ensures c.args.board.now.reals.now) _ _ _ (at_reg c.args.board.now.words.now c.args.board.now.reals.now c.args.i.n _ 12 _ c.args.cycle c.in-12.is _ _ _ (c.write_dier.ensures c.args.board.now.reals.now)))

pub returns-in-12-clause-holds : goal.returns-in-12-clause-holds
returns-in-12-clause-holds c = rw c.requires.empty (on-merged-book c.args.board.now.words.now c.args.board.now.reals.now c.args.i.n c.args.offset c.args.size c.args.value c.args.cycle _ (c.merged-v.ensures c.args.board.now.reals.now) _ _ _ (at-reg-book c.args.board.now.words.now c.args.board.now.reals.now c.args.i.n _ 12 _ c.args.cycle c.in-12.is _ _ _ (no-entries _ _ _ _ _ _ (dier-entries c.args.board.now.words.now c.args.board.now.reals.now c.args.i.n _ c.args.cycle) (c.write_dier.ensures c.args.board.now.reals.now) (slices_of c.args.book.now))))

pub returns-in-16-clause-answers : goal.returns-in-16-clause-answers
returns-in-16-clause-answers c = rw c.requires.empty (on-merged c.args.board.now.words.now c.args.board.now.reals.now c.args.i.n c.args.offset c.args.size c.args.value c.args.cycle _ (c.merged-v.ensures c.args.board.now.reals.now) _ _ _ (at_reg c.args.board.now.words.now c.args.board.now.reals.now c.args.i.n _ 16 _ c.args.cycle c.in-16.is _ _ _ (c.write_sr.ensures c.args.board.now.reals.now)))

pub returns-in-16-clause-holds : goal.returns-in-16-clause-holds
returns-in-16-clause-holds c = rw c.requires.empty (on-merged-book c.args.board.now.words.now c.args.board.now.reals.now c.args.i.n c.args.offset c.args.size c.args.value c.args.cycle _ (c.merged-v.ensures c.args.board.now.reals.now) _ _ _ (at-reg-book c.args.board.now.words.now c.args.board.now.reals.now c.args.i.n _ 16 _ c.args.cycle c.in-16.is _ _ _ (no-entries _ _ _ _ _ _ (sr-entries c.args.board.now.words.now c.args.board.now.reals.now c.args.i.n _ c.args.cycle) (c.write_sr.ensures c.args.board.now.reals.now) (slices_of c.args.book.now))))

pub returns-in-52-to-64-clause-answers : goal.returns-in-52-to-64-clause-answers
returns-in-52-to-64-clause-answers c = on-merged c.args.board.now.words.now c.args.board.now.reals.now c.args.i.n c.args.offset c.args.size c.args.value c.args.cycle _ (c.merged-v.ensures c.args.board.now.reals.now) _ _ _ c.write_compare.ensures.answers

pub returns-in-52-to-64-clause-holds : goal.returns-in-52-to-64-clause-holds
returns-in-52-to-64-clause-holds c = on-merged-book c.args.board.now.words.now c.args.board.now.reals.now c.args.i.n c.args.offset c.args.size c.args.value c.args.cycle _ (c.merged-v.ensures c.args.board.now.reals.now) _ _ _ c.write_compare.ensures.holds

pub returns-in_default-clause-answers : goal.returns-in_default-clause-answers
returns-in_default-clause-answers c = on-merged c.args.board.now.words.now c.args.board.now.reals.now c.args.i.n c.args.offset c.args.size c.args.value c.args.cycle _ (c.merged-v.ensures c.args.board.now.reals.now) _ _ _ c.write_timer.ensures.answers

pub returns-in_default-clause-holds : goal.returns-in_default-clause-holds
returns-in_default-clause-holds c = on-merged-book c.args.board.now.words.now c.args.board.now.reals.now c.args.i.n c.args.offset c.args.size c.args.value c.args.cycle _ (c.merged-v.ensures c.args.board.now.reals.now) _ _ _ c.write_timer.ensures.holds
