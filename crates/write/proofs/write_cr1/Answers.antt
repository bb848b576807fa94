-- It leaves CEN and DIR, or goes the general way.
use Rattle.book.specs.Lent.{slices_of}
use native.Mathlib.Omega.{arith}
use Rattle.mmio.proofs.Laws.{of-eight}
use Rattle.write.proofs.Laws.{cr1-entries, cr1-served, from-same, from-same-book, no-entries}
use Rattle.write.proofs.write_cr1.Goals as goal

pub write_cr1-requires : goal.write_cr1-requires
write_cr1-requires c = omega (arith, c.requires.cycle)

pub returns-then-write_cr1-clause-answers : goal.returns-then-write_cr1-clause-answers
returns-then-write_cr1-clause-answers c =
    let e = c.write_cr1.ensures in
    let on = c.if-write_cr1.true in
    rw c.requires.empty (cr1-served c.args.board.now.words.now c.args.board.now.reals.now c.args.i.n c.args.v c.args.cycle _ _ _ (of-eight c.args.board.now.words.now c.args.board.now.reals.now c.args.i.n c.args.i.below) (e.counts_on on c.args.board.now.reals.now _) (e.board on c.args.board.now.reals.now _) (c.rebook.ensures c.args.board.now.reals.now) (c.set_last.ensures c.args.board.now.reals.now))

pub returns-then-write_cr1-clause-holds : goal.returns-then-write_cr1-clause-holds
returns-then-write_cr1-clause-holds c =
    let e = c.write_cr1.ensures in
    let on = c.if-write_cr1.true in
    rw c.requires.empty (no-entries _ _ _ _ _ _ (cr1-entries c.args.board.now.words.now c.args.board.now.reals.now c.args.i.n c.args.v c.args.cycle)
    (cr1-served c.args.board.now.words.now c.args.board.now.reals.now c.args.i.n c.args.v c.args.cycle _ _ _ (of-eight c.args.board.now.words.now c.args.board.now.reals.now c.args.i.n c.args.i.below) (e.counts_on on c.args.board.now.reals.now _) (e.board on c.args.board.now.reals.now _) (c.rebook.ensures c.args.board.now.reals.now) (c.set_last.ensures c.args.board.now.reals.now)) (slices_of c.args.book.now))

pub returns-clause-answers : goal.returns-clause-answers
returns-clause-answers c = from-same c.args.board.now.words.now _ (c.write_cr1.ensures.words_unchanged c.if-write_cr1.false) c.args.board.now.reals.now c.args.i.n 0 c.args.v c.args.cycle _ _ _ c.write_timer.ensures.answers

pub returns-clause-holds : goal.returns-clause-holds
returns-clause-holds c = from-same-book c.args.board.now.words.now _ (c.write_cr1.ensures.words_unchanged c.if-write_cr1.false) c.args.board.now.reals.now c.args.i.n 0 c.args.v c.args.cycle _ _ _ c.write_timer.ensures.holds
