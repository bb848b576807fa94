-- Refused, gated, or written.
use native.Mathlib.Omega.{arith}
use mathlib.Core.Path.{refl}
use Rattle.answer.proofs.Given.{number-positive}
use Rattle.book.specs.Book.{places}
use Rattle.book.specs.Lent.{slices_of}
use Rattle.book.proofs.Laws.{roomy}
use Rattle.mmio.proofs.Laws.{admitted}
use Rattle.std.proofs.lemmas.Result.{err_from_is_err_and}
use Rattle.write.proofs.Laws.{write-away, write-away-book, write-below, write-below-book, write-off, write-off-book}
use Rattle.write.proofs.write.Goals as goal

pub returns-in_err-i-clause-answers : goal.returns-in_err-i-clause-answers
returns-in_err-i-clause-answers c =
    let e = c.in_err-i in
    let p = err_from_is_err_and c.from_residual.result c.from_residual.ensures.1 in
    rw (p.1, p.2) (write-away c.args.board.now.words.now c.args.board.now.reals.now c.args.timer c.args.offset c.args.size c.args.value c.args.cycle (places (slices_of c.args.book.now)) _ (e.ensures.refusal c.args.board.now.reals.now) (λ z. omega (arith, number-positive e.field-0.0, z)) _ refl)

pub returns-in_err-i-clause-holds : goal.returns-in_err-i-clause-holds
returns-in_err-i-clause-holds c =
    let e = c.in_err-i in
    let p = err_from_is_err_and c.from_residual.result c.from_residual.ensures.1 in
    rw p.1 (write-away-book c.args.board.now.words.now c.args.board.now.reals.now c.args.timer c.args.offset c.args.size c.args.value c.args.cycle (places (slices_of c.args.book.now)) _ (e.ensures.refusal c.args.board.now.reals.now) (λ z. omega (arith, number-positive e.field-0.0, z)) _ refl (slices_of c.args.book.now))

pub returns-then-not-clock_on-clause-answers : goal.returns-then-not-clock_on-clause-answers
returns-then-not-clock_on-clause-answers c = write-off c.args.board.now.words.now c.args.board.now.reals.now c.args.timer c.args.offset c.args.size c.args.value c.args.cycle (places (slices_of c.args.book.now)) _ (c.in_ok-i.ensures.refusal c.args.board.now.reals.now) refl _ (rw c.in_ok-i.ensures.index at c.clock_on.ensures c.args.board.now.reals.now) c.if-not-clock_on.true _ (c.set_last.ensures c.args.board.now.reals.now) _ c.served.ensures

pub returns-then-not-clock_on-clause-holds : goal.returns-then-not-clock_on-clause-holds
returns-then-not-clock_on-clause-holds c = write-off-book c.args.board.now.words.now c.args.board.now.reals.now c.args.timer c.args.offset c.args.size c.args.value c.args.cycle (places (slices_of c.args.book.now)) _ (c.in_ok-i.ensures.refusal c.args.board.now.reals.now) refl _ (rw c.in_ok-i.ensures.index at c.clock_on.ensures c.args.board.now.reals.now) c.if-not-clock_on.true _ c.served.ensures (slices_of c.args.book.now)

pub write_on-requires : goal.write_on-requires
write_on-requires c = let q = admitted c.args.board.now.words.now c.args.board.now.reals.now c.args.timer c.args.size c.args.cycle (places (slices_of c.args.book.now)) _ (c.in_ok-i.ensures.refusal c.args.board.now.reals.now) refl in record { size = q.size-le; cycle = q.cycle-le; empty = refl; room = roomy (slices_of c.args.book.now) 4 4 q.places-le (omega arith) }

pub returns-in_err-write_on-clause-answers : goal.returns-in_err-write_on-clause-answers
returns-in_err-write_on-clause-answers c =
    let p = err_from_is_err_and c.from_residual-in_err-write_on.result c.from_residual-in_err-write_on.ensures.1 in
    rw (p.1, p.2) (write-below c.args.board.now.words.now c.args.board.now.reals.now c.args.timer c.args.offset c.args.size c.args.value c.args.cycle (places (slices_of c.args.book.now)) _ (c.in_ok-i.ensures.refusal c.args.board.now.reals.now) refl _ (rw c.in_ok-i.ensures.index at c.clock_on.ensures c.args.board.now.reals.now) c.if-not-clock_on.false _ _ _ (rw c.in_ok-i.ensures.index at c.in_err-write_on.ensures.answers))

pub returns-in_err-write_on-clause-holds : goal.returns-in_err-write_on-clause-holds
returns-in_err-write_on-clause-holds c =
    let p = err_from_is_err_and c.from_residual-in_err-write_on.result c.from_residual-in_err-write_on.ensures.1 in
    rw p.1 (write-below-book c.args.board.now.words.now c.args.board.now.reals.now c.args.timer c.args.offset c.args.size c.args.value c.args.cycle (places (slices_of c.args.book.now)) _ (c.in_ok-i.ensures.refusal c.args.board.now.reals.now) refl _ (rw c.in_ok-i.ensures.index at c.clock_on.ensures c.args.board.now.reals.now) c.if-not-clock_on.false _ _ _ (rw c.in_ok-i.ensures.index at c.in_err-write_on.ensures.holds))

pub entered-requires : goal.entered-requires
entered-requires c = omega (arith, c.in_ok-write_on.ensures.at_most_four)

pub returns-clause-answers : goal.returns-clause-answers
returns-clause-answers c = rw c.entered.ensures (write-below c.args.board.now.words.now c.args.board.now.reals.now c.args.timer c.args.offset c.args.size c.args.value c.args.cycle (places (slices_of c.args.book.now)) _ (c.in_ok-i.ensures.refusal c.args.board.now.reals.now) refl _ (rw c.in_ok-i.ensures.index at c.clock_on.ensures c.args.board.now.reals.now) c.if-not-clock_on.false _ _ _ (rw c.in_ok-i.ensures.index at c.in_ok-write_on.ensures.answers))

pub returns-clause-holds : goal.returns-clause-holds
returns-clause-holds c = rw c.entered.ensures (write-below-book c.args.board.now.words.now c.args.board.now.reals.now c.args.timer c.args.offset c.args.size c.args.value c.args.cycle (places (slices_of c.args.book.now)) _ (c.in_ok-i.ensures.refusal c.args.board.now.reals.now) refl _ (rw c.in_ok-i.ensures.index at c.clock_on.ensures c.args.board.now.reals.now) c.if-not-clock_on.false _ _ _ (rw c.in_ok-i.ensures.index at c.in_ok-write_on.ensures.holds))
