-- Refused, or reset.
use native.Mathlib.Omega.{arith}
use mathlib.Core.Path.{refl}
use Rattle.answer.proofs.Given.{number-positive}
use Rattle.book.specs.Book.{places}
use Rattle.book.specs.Lent.{slices_of}
use Rattle.book.proofs.Laws.{roomy}
use Rattle.mmio.proofs.Laws.{admitted, reset-away, reset-away-book, reset-gives}
use Rattle.std.proofs.lemmas.Result.{err_from_is_err_and}
use Rattle.mmio.proofs.reset.Goals as goal

pub returns-in_err-i-clause-answers : goal.returns-in_err-i-clause-answers
returns-in_err-i-clause-answers c =
    let e = c.in_err-i in
    let p = err_from_is_err_and c.from_residual.result c.from_residual.ensures.1 in
    rw (p.1, p.2) (reset-away c.args.board.now.words.now c.args.board.now.reals.now c.args.timer c.args.cycle (places (slices_of c.args.book.now)) _ (e.ensures.refusal c.args.board.now.reals.now) (λ z. omega (arith, number-positive e.field-0.0, z)) _ refl)

pub returns-in_err-i-clause-holds : goal.returns-in_err-i-clause-holds
returns-in_err-i-clause-holds c =
    let e = c.in_err-i in
    let p = err_from_is_err_and c.from_residual.result c.from_residual.ensures.1 in
    rw p.1 (reset-away-book c.args.board.now.words.now c.args.board.now.reals.now c.args.timer c.args.cycle (places (slices_of c.args.book.now)) _ (e.ensures.refusal c.args.board.now.reals.now) (λ z. omega (arith, number-positive e.field-0.0, z)) _ refl (slices_of c.args.book.now))

pub reset_timer-requires : goal.reset_timer-requires
reset_timer-requires c = let q = admitted c.args.board.now.words.now c.args.board.now.reals.now c.args.timer 4 c.args.cycle (places (slices_of c.args.book.now)) _ (c.in_ok-i.ensures.refusal c.args.board.now.reals.now) refl in record { room = roomy (slices_of c.args.book.now) 4 4 q.places-le (omega arith) }

pub entered-requires : goal.entered-requires
entered-requires c = omega (arith, c.reset_timer.ensures.at_most_four)

pub returns-clause-answers : goal.returns-clause-answers
returns-clause-answers c =
    let q = admitted c.args.board.now.words.now c.args.board.now.reals.now c.args.timer 4 c.args.cycle (places (slices_of c.args.book.now)) _ (c.in_ok-i.ensures.refusal c.args.board.now.reals.now) refl in
    rw c.entered.ensures (reset-gives c.args.board.now.words.now c.args.board.now.reals.now c.args.timer c.args.cycle (places (slices_of c.args.book.now)) _ (c.in_ok-i.ensures.refusal c.args.board.now.reals.now) refl _ _ _ _ _ (rw c.in_ok-i.ensures.index at c.reset_timer.ensures.leaves) (roomy (slices_of c.args.book.now) _ 4 q.places-le c.reset_timer.ensures.at_most_four)).0

pub returns-clause-holds : goal.returns-clause-holds
returns-clause-holds c =
    let q = admitted c.args.board.now.words.now c.args.board.now.reals.now c.args.timer 4 c.args.cycle (places (slices_of c.args.book.now)) _ (c.in_ok-i.ensures.refusal c.args.board.now.reals.now) refl in
    rw c.entered.ensures (reset-gives c.args.board.now.words.now c.args.board.now.reals.now c.args.timer c.args.cycle (places (slices_of c.args.book.now)) _ (c.in_ok-i.ensures.refusal c.args.board.now.reals.now) refl _ _ _ _ _ (rw c.in_ok-i.ensures.index at c.reset_timer.ensures.leaves) (roomy (slices_of c.args.book.now) _ 4 q.places-le c.reset_timer.ensures.at_most_four)).1
