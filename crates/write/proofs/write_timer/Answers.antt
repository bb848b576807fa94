-- Refused with 7, or stored, and what follows.
use Rattle.book.specs.Lent.{slices_of}
use native.Mathlib.Omega.{arith}
use mathlib.Core.Path.{refl}
use Rattle.regs.proofs.Fit.{fit_written}
use Rattle.mmio.proofs.Laws.{of-eight}
use Rattle.write.proofs.Laws.{loaded-ready, stored-follows, write-astray, write-astray-book, write-follows, written-kept}
use Rattle.write.proofs.write_timer.Goals as goal

pub write_reg-w-requires : goal.write_reg-w-requires
write_reg-w-requires c =
    loaded-ready c.args.board.now.words.now c.args.board.now.reals.now c.args.i.n c.args.cycle _ _ (c.load_timer-t.ensures c.args.board.now.reals.now) c.requires.cycle c.divider-div.ensures.positive c.divider-div.result.below

pub returns-then-counter_astray-clause-answers : goal.returns-then-counter_astray-clause-answers
returns-then-counter_astray-clause-answers c = write-astray c.args.board.now.words.now c.args.board.now.reals.now c.args.i.n c.args.off c.args.v c.args.cycle _ _ _ (c.load_timer-t.ensures c.args.board.now.reals.now) (rw (c.seen.ensures.words, c.seen.ensures.reals) at c.divider-div.ensures.divider) c.write_reg-w.ensures _ c.counter_astray.ensures c.if-counter_astray.true _ refl

pub returns-then-counter_astray-clause-holds : goal.returns-then-counter_astray-clause-holds
returns-then-counter_astray-clause-holds c = write-astray-book c.args.board.now.words.now c.args.board.now.reals.now c.args.i.n c.args.off c.args.v c.args.cycle _ _ _ (c.load_timer-t.ensures c.args.board.now.reals.now) (rw (c.seen.ensures.words, c.seen.ensures.reals) at c.divider-div.ensures.divider) c.write_reg-w.ensures _ c.counter_astray.ensures c.if-counter_astray.true _ refl (slices_of c.args.book.now)

pub store_live-requires : goal.store_live-requires
store_live-requires c =
    rw c.write_reg-w.ensures (fit_written _ _ _ _ _ (loaded-ready c.args.board.now.words.now c.args.board.now.reals.now c.args.i.n c.args.cycle _ _ (c.load_timer-t.ensures c.args.board.now.reals.now) c.requires.cycle c.divider-div.ensures.positive c.divider-div.result.below))

pub follow-requires : goal.follow-requires
follow-requires c = record { room = omega (arith, c.requires.empty, c.requires.room) }

pub returns-clause-answers : goal.returns-clause-answers
returns-clause-answers c =
    let f = c.follow.ensures in
    let kept = written-kept c.args.board.now.words.now c.args.i.n c.args.off c.args.v c.args.cycle _ _ _ c.load_timer-t.ensures c.write_reg-w.ensures in
    (write-follows c.args.board.now.words.now c.args.board.now.reals.now c.args.i.n c.args.off c.args.v c.args.cycle _ _ _ (c.load_timer-t.ensures c.args.board.now.reals.now) (rw (c.seen.ensures.words, c.seen.ensures.reals) at c.divider-div.ensures.divider) c.write_reg-w.ensures _ c.counter_astray.ensures c.if-counter_astray.false _ _ (slices_of c.args.book.now) _ _
    (stored-follows _ _ _ c.args.i.n c.args.cycle _ _ _ (of-eight c.args.board.now.words.now c.args.board.now.reals.now c.args.i.n c.args.i.below) (kept c.args.board.now.reals.now) (c.store_live.ensures c.args.board.now.reals.now) (rw c.requires.empty at f.leaves)) (omega (arith, f.at_most_four, c.requires.empty, c.requires.room.0), omega (arith, f.at_most_four, c.requires.empty, c.requires.room.1), omega (arith, f.at_most_four, c.requires.empty, c.requires.room.2), omega (arith, f.at_most_four, c.requires.empty, c.requires.room.3))).0

pub returns-clause-holds : goal.returns-clause-holds
returns-clause-holds c =
    let f = c.follow.ensures in
    let kept = written-kept c.args.board.now.words.now c.args.i.n c.args.off c.args.v c.args.cycle _ _ _ c.load_timer-t.ensures c.write_reg-w.ensures in
    (write-follows c.args.board.now.words.now c.args.board.now.reals.now c.args.i.n c.args.off c.args.v c.args.cycle _ _ _ (c.load_timer-t.ensures c.args.board.now.reals.now) (rw (c.seen.ensures.words, c.seen.ensures.reals) at c.divider-div.ensures.divider) c.write_reg-w.ensures _ c.counter_astray.ensures c.if-counter_astray.false _ _ (slices_of c.args.book.now) _ _
    (stored-follows _ _ _ c.args.i.n c.args.cycle _ _ _ (of-eight c.args.board.now.words.now c.args.board.now.reals.now c.args.i.n c.args.i.below) (kept c.args.board.now.reals.now) (c.store_live.ensures c.args.board.now.reals.now) (rw c.requires.empty at f.leaves)) (omega (arith, f.at_most_four, c.requires.empty, c.requires.room.0), omega (arith, f.at_most_four, c.requires.empty, c.requires.room.1), omega (arith, f.at_most_four, c.requires.empty, c.requires.room.2), omega (arith, f.at_most_four, c.requires.empty, c.requires.room.3))).1
