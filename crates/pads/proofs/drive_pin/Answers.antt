-- Refused, or the pin driven, the cycle kept and its change written.
use Rattle.answer.proofs.Given.{number-positive}
use Rattle.answer.specs.Refused.{number_of}
use Rattle.book.specs.Book.{places}
use Rattle.book.specs.Lent.{slices_of}
use Rattle.machine.specs.Call as C
use Rattle.machine.specs.Refusals.{refusals}
use Rattle.pads.proofs.Laws.{refuses, pin-room, pin-driven}
use Rattle.pads.specs.Ext.{drive_of}
use Rattle.state.specs.View.{view}
use Rattle.std.proofs.lemmas.Result.{err_from_is_err_and}
use mathlib.Core.Path.{◌≡◌, refl}
use native.Mathlib.Omega.{arith}
use Rattle.pads.proofs.drive_pin.Goals as goal

pub returns-in_err-p-clause-answers : goal.returns-in_err-p-clause-answers
unfolding refusals
returns-in_err-p-clause-answers c =
    let p = err_from_is_err_and c.from_residual.result c.from_residual.ensures.1 in
    let number : number_of c.in_err-p.field-0.0 ≡ 0 → ⊥ = λ z. omega (arith, number-positive c.in_err-p.field-0.0, z) in
    rw (p.1, p.2) (refuses c.args.board.now.words.now c.args.board.now.reals.now (slices_of c.args.book.now) (C.drive_pin c.args.pin (drive_of c.args.kind c.args.volts) c.args.cycle (places (slices_of c.args.book.now))) _ _ (c.in_err-p.ensures.refusal c.args.board.now.reals.now) number refl).0

pub returns-in_err-p-clause-holds : goal.returns-in_err-p-clause-holds
unfolding refusals
returns-in_err-p-clause-holds c =
    let p = err_from_is_err_and c.from_residual.result c.from_residual.ensures.1 in
    let number : number_of c.in_err-p.field-0.0 ≡ 0 → ⊥ = λ z. omega (arith, number-positive c.in_err-p.field-0.0, z) in
    rw p.1 (refuses c.args.board.now.words.now c.args.board.now.reals.now (slices_of c.args.book.now) (C.drive_pin c.args.pin (drive_of c.args.kind c.args.volts) c.args.cycle (places (slices_of c.args.book.now))) _ _ (c.in_err-p.ensures.refusal c.args.board.now.reals.now) number refl).1

pub changed-requires : goal.changed-requires
changed-requires c = (refl, omega (arith, pin-room (view c.args.board.now.words.now c.args.board.now.reals.now) c.args.pin c.args.cycle (places (slices_of c.args.book.now)) 0 (c.in_ok-p.ensures.refusal c.args.board.now.reals.now) refl))

pub returns-clause-answers : goal.returns-clause-answers
returns-clause-answers c = rw c.changed.ensures.counted (pin-driven _ _ _ _ _ _ _ c.args.pin _ _ 0 _ _ _ (c.in_ok-p.ensures.refusal c.args.board.now.reals.now) refl c.ext_of-ext.ensures (rw c.in_ok-p.ensures.index at c.drive_pin-change.ensures.moves) (c.changed.ensures.board _) refl c.changed.ensures.entered c.changed.ensures.at_most_one).0

pub returns-clause-holds : goal.returns-clause-holds
returns-clause-holds c = rw c.changed.ensures.counted (pin-driven _ _ _ _ _ _ _ c.args.pin _ _ 0 _ _ _ (c.in_ok-p.ensures.refusal c.args.board.now.reals.now) refl c.ext_of-ext.ensures (rw c.in_ok-p.ensures.index at c.drive_pin-change.ensures.moves) (c.changed.ensures.board _) refl c.changed.ensures.entered c.changed.ensures.at_most_one).1
