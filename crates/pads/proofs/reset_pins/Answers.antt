-- Refused, or every pin reset and the cycle kept.
use Rattle.answer.proofs.Given.{number-positive}
use Rattle.answer.specs.Refused.{number_of}
use Rattle.book.specs.Book.{places}
use Rattle.book.specs.Lent.{slices_of}
use Rattle.machine.specs.Call as C
use Rattle.pads.proofs.Laws.{refuses, reset-number, reset-room, pins-reset}
use Rattle.state.proofs.InRange.{bounded}
use Rattle.state.specs.View.{view}
use Rattle.std.proofs.lemmas.Result.{err_from_is_err_and}
use mathlib.Core.Path.{◌≡◌, refl}
use native.Mathlib.Nat.{zero-add}
use native.Mathlib.Omega.{arith}
use Rattle.pads.proofs.reset_pins.Goals as goal

pub returns-in_err-check-clause-answers : goal.returns-in_err-check-clause-answers
returns-in_err-check-clause-answers c =
    let p = err_from_is_err_and c.from_residual.result c.from_residual.ensures.1 in
    let number : number_of c.in_err-check.field-0.0 ≡ 0 → ⊥ = λ z. omega (arith, number-positive c.in_err-check.field-0.0, z) in
    rw (p.1, p.2) (refuses c.args.board.now.words.now c.args.board.now.reals.now (slices_of c.args.book.now) (C.reset_pins c.args.cycle (places (slices_of c.args.book.now))) _ _ (reset-number (view c.args.board.now.words.now c.args.board.now.reals.now) c.args.cycle _ (places (slices_of c.args.book.now)) _ (c.in_err-check.ensures c.args.board.now.reals.now) (c.pin_count-need.ensures c.args.board.now.reals.now)) number refl).0

pub returns-in_err-check-clause-holds : goal.returns-in_err-check-clause-holds
returns-in_err-check-clause-holds c =
    let p = err_from_is_err_and c.from_residual.result c.from_residual.ensures.1 in
    let number : number_of c.in_err-check.field-0.0 ≡ 0 → ⊥ = λ z. omega (arith, number-positive c.in_err-check.field-0.0, z) in
    rw p.1 (refuses c.args.board.now.words.now c.args.board.now.reals.now (slices_of c.args.book.now) (C.reset_pins c.args.cycle (places (slices_of c.args.book.now))) _ _ (reset-number (view c.args.board.now.words.now c.args.board.now.reals.now) c.args.cycle _ (places (slices_of c.args.book.now)) _ (c.in_err-check.ensures c.args.board.now.reals.now) (c.pin_count-need.ensures c.args.board.now.reals.now)) number refl).1

pub reset_pins-requires : goal.reset_pins-requires
reset_pins-requires c = omega (arith, reset-room (view c.args.board.now.words.now c.args.board.now.reals.now) c.args.cycle (places (slices_of c.args.book.now)) 0 (reset-number (view c.args.board.now.words.now c.args.board.now.reals.now) c.args.cycle _ (places (slices_of c.args.book.now)) 0 (c.in_ok-check.ensures c.args.board.now.reals.now) (c.pin_count-need.ensures c.args.board.now.reals.now)) refl)

pub entered-requires : goal.entered-requires
entered-requires c = omega (arith, c.reset_pins.ensures.at_most_pins, (bounded c.args.board.now.words.now c.args.board.now.reals.now).pins-le)

pub returns-clause-answers : goal.returns-clause-answers
returns-clause-answers c = rw c.entered.ensures (pins-reset _ _ _ _ _ _ _ 0 _ _ _ (reset-number (view c.args.board.now.words.now c.args.board.now.reals.now) c.args.cycle _ (places (slices_of c.args.book.now)) 0 (c.in_ok-check.ensures c.args.board.now.reals.now) (c.pin_count-need.ensures c.args.board.now.reals.now)) refl c.reset_pins.ensures.reset (rw zero-add at c.reset_pins.ensures.at_most_pins) (c.set_last.ensures _) refl).0

pub returns-clause-holds : goal.returns-clause-holds
returns-clause-holds c = rw c.entered.ensures (pins-reset _ _ _ _ _ _ _ 0 _ _ _ (reset-number (view c.args.board.now.words.now c.args.board.now.reals.now) c.args.cycle _ (places (slices_of c.args.book.now)) 0 (c.in_ok-check.ensures c.args.board.now.reals.now) (c.pin_count-need.ensures c.args.board.now.reals.now)) refl c.reset_pins.ensures.reset (rw zero-add at c.reset_pins.ensures.at_most_pins) (c.set_last.ensures _) refl).1
