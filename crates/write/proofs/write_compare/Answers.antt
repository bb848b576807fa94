-- Without channels, or stored, and what follows.
use Rattle.std.specs.Prelude.{None, Some}
use Rattle.book.specs.Lent.{slices_of}
use native.Mathlib.Omega.{arith}
use lib.Bits.{bit_and}
use mathlib.Core.Path.{ap, sym, ◌∙◌}
use Rattle.regs.specs.Regs as R
use Rattle.state.specs.View.{view}
use Rattle.mmio.proofs.Laws.{of-eight}
use Rattle.write.proofs.Laws.{channel-lt, compare-follows, compare-gives, compare-kept, no-entries, waits-follow, without-entries, without-gives}
use Rattle.write.proofs.write_compare.Goals as goal

pub returns-then-t-eq0-clause-answers : goal.returns-then-t-eq0-clause-answers
returns-then-t-eq0-clause-answers c = rw c.requires.empty (without-gives c.args.board.now.words.now c.args.board.now.reals.now c.args.i.n c.args.off c.args.v c.args.cycle c.requires.register _ (c.inst-t.ensures c.args.board.now.reals.now) c.if-t-eq0.true _ (c.set_last.ensures c.args.board.now.reals.now))

pub returns-then-t-eq0-clause-holds : goal.returns-then-t-eq0-clause-holds
returns-then-t-eq0-clause-holds c =
    rw c.requires.empty (no-entries _ _ _ _ _ _ (without-entries c.args.board.now.words.now c.args.board.now.reals.now c.args.i.n c.args.off c.args.v c.args.cycle c.requires.register _ (c.inst-t.ensures c.args.board.now.reals.now) c.if-t-eq0.true)
    (without-gives c.args.board.now.words.now c.args.board.now.reals.now c.args.i.n c.args.off c.args.v c.args.cycle c.requires.register _ (c.inst-t.ensures c.args.board.now.reals.now) c.if-t-eq0.true _ (c.set_last.ensures c.args.board.now.reals.now)) (slices_of c.args.book.now))

pub overflow_sub-n : goal.overflow_sub-n
overflow_sub-n c = omega (arith, (channel-lt c.args.off c.requires.register).0)

pub invariant_of-write_ccr : goal.invariant_of-write_ccr
invariant_of-write_ccr c = record { below = (channel-lt c.args.off c.requires.register).1 }

pub returns-in_default-clause-answers : goal.returns-in_default-clause-answers
returns-in_default-clause-answers c =
    let l = of-eight c.args.board.now.words.now c.args.board.now.reals.now c.args.i.n c.args.i.below in
    let e = c.in_default.ensures in
    let o = compare-follows (view c.args.board.now.words.now c.args.board.now.reals.now) _ c.args.i.n (R.ccr_channel c.args.off) _ c.args.cycle None l (e.board c.args.board.now.reals.now) (e.drive c.args.board.now.reals.now) in
    rw c.requires.empty ((compare-gives c.args.board.now.words.now c.args.board.now.reals.now c.args.i.n c.args.off c.args.v c.args.cycle c.requires.register _ (c.inst-t.ensures c.args.board.now.reals.now) c.if-t-eq0.false _ (ap (bit_and c.args.v) (c.kept.ensures ∙ sym (compare-kept c.args.off c.requires.register))) _ o _ _ (slices_of c.args.book.now) _ 0 (waits-follow _ _ c.args.i.n c.args.cycle _ (c.set_last-in_default.ensures _)) (omega arith, omega arith, omega arith, omega arith)).0)

pub returns-in_default-clause-holds : goal.returns-in_default-clause-holds
returns-in_default-clause-holds c =
    let l = of-eight c.args.board.now.words.now c.args.board.now.reals.now c.args.i.n c.args.i.below in
    let e = c.in_default.ensures in
    let o = compare-follows (view c.args.board.now.words.now c.args.board.now.reals.now) _ c.args.i.n (R.ccr_channel c.args.off) _ c.args.cycle None l (e.board c.args.board.now.reals.now) (e.drive c.args.board.now.reals.now) in
    rw c.requires.empty ((compare-gives c.args.board.now.words.now c.args.board.now.reals.now c.args.i.n c.args.off c.args.v c.args.cycle c.requires.register _ (c.inst-t.ensures c.args.board.now.reals.now) c.if-t-eq0.false _ (ap (bit_and c.args.v) (c.kept.ensures ∙ sym (compare-kept c.args.off c.requires.register))) _ o _ _ (slices_of c.args.book.now) _ 0 (waits-follow _ _ c.args.i.n c.args.cycle _ (c.set_last-in_default.ensures _)) (omega arith, omega arith, omega arith, omega arith)).1)

pub returns-clause-answers : goal.returns-clause-answers
returns-clause-answers c =
    let l = of-eight c.args.board.now.words.now c.args.board.now.reals.now c.args.i.n c.args.i.below in
    let e = c.in-Some.ensures in
    let o = compare-follows (view c.args.board.now.words.now c.args.board.now.reals.now) _ c.args.i.n (R.ccr_channel c.args.off) _ c.args.cycle (Some c.in-Some.cnt) l (e.board c.args.board.now.reals.now) (e.drive c.args.board.now.reals.now) in
    (compare-gives c.args.board.now.words.now c.args.board.now.reals.now c.args.i.n c.args.off c.args.v c.args.cycle c.requires.register _ (c.inst-t.ensures c.args.board.now.reals.now) c.if-t-eq0.false _ (ap (bit_and c.args.v) (c.kept.ensures ∙ sym (compare-kept c.args.off c.requires.register))) _ o _ _ (slices_of c.args.book.now) _ _ (rw c.requires.empty at c.follow.ensures.leaves) (omega (arith, c.follow.ensures.at_most_four, c.requires.empty, c.requires.room.0), omega (arith, c.follow.ensures.at_most_four, c.requires.empty, c.requires.room.1), omega (arith, c.follow.ensures.at_most_four, c.requires.empty, c.requires.room.2), omega (arith, c.follow.ensures.at_most_four, c.requires.empty, c.requires.room.3))).0

pub returns-clause-holds : goal.returns-clause-holds
returns-clause-holds c =
    let l = of-eight c.args.board.now.words.now c.args.board.now.reals.now c.args.i.n c.args.i.below in
    let e = c.in-Some.ensures in
    let o = compare-follows (view c.args.board.now.words.now c.args.board.now.reals.now) _ c.args.i.n (R.ccr_channel c.args.off) _ c.args.cycle (Some c.in-Some.cnt) l (e.board c.args.board.now.reals.now) (e.drive c.args.board.now.reals.now) in
    (compare-gives c.args.board.now.words.now c.args.board.now.reals.now c.args.i.n c.args.off c.args.v c.args.cycle c.requires.register _ (c.inst-t.ensures c.args.board.now.reals.now) c.if-t-eq0.false _ (ap (bit_and c.args.v) (c.kept.ensures ∙ sym (compare-kept c.args.off c.requires.register))) _ o _ _ (slices_of c.args.book.now) _ _ (rw c.requires.empty at c.follow.ensures.leaves) (omega (arith, c.follow.ensures.at_most_four, c.requires.empty, c.requires.room.0), omega (arith, c.follow.ensures.at_most_four, c.requires.empty, c.requires.room.1), omega (arith, c.follow.ensures.at_most_four, c.requires.empty, c.requires.room.2), omega (arith, c.follow.ensures.at_most_four, c.requires.empty, c.requires.room.3))).1
