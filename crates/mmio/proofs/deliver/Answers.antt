-- Refused, or delivered.
use native.Mathlib.Omega.{arith}
use mathlib.Core.Path.{refl}
use Rattle.answer.proofs.Given.{number-positive}
use Rattle.book.specs.Book.{places}
use Rattle.book.specs.Lent.{slices_of}
use Rattle.mmio.proofs.Laws.{admitted, deliver-away, deliver-away-book, deliver-gives}
use Rattle.std.proofs.lemmas.Result.{err_from_is_err_and}
use Rattle.mmio.proofs.deliver.Goals as goal

pub returns-in_err-i-clause-answers : goal.returns-in_err-i-clause-answers
returns-in_err-i-clause-answers c =
    let e = c.in_err-i in
    let p = err_from_is_err_and c.from_residual.result c.from_residual.ensures.1 in
    rw (p.1, p.2) (deliver-away c.args.board.now.words.now c.args.board.now.reals.now c.args.timer c.args.cycle (places (slices_of c.args.book.now)) _ (e.ensures.refusal c.args.board.now.reals.now) (λ z. omega (arith, number-positive e.field-0.0, z)) _ refl)

pub returns-in_err-i-clause-holds : goal.returns-in_err-i-clause-holds
returns-in_err-i-clause-holds c =
    let e = c.in_err-i in
    let p = err_from_is_err_and c.from_residual.result c.from_residual.ensures.1 in
    rw p.1 (deliver-away-book c.args.board.now.words.now c.args.board.now.reals.now c.args.timer c.args.cycle (places (slices_of c.args.book.now)) _ (e.ensures.refusal c.args.board.now.reals.now) (λ z. omega (arith, number-positive e.field-0.0, z)) _ refl (slices_of c.args.book.now))

pub deliver-d-requires : goal.deliver-d-requires
deliver-d-requires c =
    let q = admitted c.args.board.now.words.now c.args.board.now.reals.now c.args.timer 4 c.args.cycle (places (slices_of c.args.book.now)) _ (c.in_ok-i.ensures.refusal c.args.board.now.reals.now) refl in
    omega (arith, q.cycle-le)

pub overflow_cast-result : goal.overflow_cast-result
overflow_cast-result c =
    omega (arith, c.deliver-d.ensures.count_bound)

pub returns-clause-answers : goal.returns-clause-answers
returns-clause-answers c = (deliver-gives c.args.board.now.words.now c.args.board.now.reals.now c.args.timer c.args.cycle (places (slices_of c.args.book.now)) _ (c.in_ok-i.ensures.refusal c.args.board.now.reals.now) refl _ _ _ _ _ _ _ _ c.number.ensures (rw c.in_ok-i.ensures.index at c.deliver-d.ensures.delivers) (c.set_last.ensures _)).0

pub returns-clause-holds : goal.returns-clause-holds
returns-clause-holds c = (deliver-gives c.args.board.now.words.now c.args.board.now.reals.now c.args.timer c.args.cycle (places (slices_of c.args.book.now)) _ (c.in_ok-i.ensures.refusal c.args.board.now.reals.now) refl _ _ _ _ _ _ _ _ c.number.ensures (rw c.in_ok-i.ensures.index at c.deliver-d.ensures.delivers) (c.set_last.ensures _)).1
