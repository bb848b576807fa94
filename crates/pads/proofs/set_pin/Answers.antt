-- Refused, or the pin set, the cycle kept and its change written.
use Rattle.answer.proofs.Given.{number-positive}
use Rattle.answer.specs.Refused.{number_of}
use Rattle.book.specs.Book.{places}
use Rattle.book.specs.Lent.{slices_of}
use Rattle.machine.specs.Step.{yes}
use Rattle.pads.proofs.Laws.{setting-refused, setting-room, pin-set, bit_le}
use Rattle.state.specs.View.{view}
use Rattle.std.proofs.lemmas.Result.{err_from_is_err_and}
use mathlib.Core.Path.{◌≡◌, refl}
use native.Mathlib.Omega.{arith}
use Rattle.pads.proofs.set_pin.Goals as goal

pub returns-in_err-p-clause-answers : goal.returns-in_err-p-clause-answers
returns-in_err-p-clause-answers c =
    let p = err_from_is_err_and c.from_residual.result c.from_residual.ensures.1 in
    let number : number_of c.in_err-p.field-0.0 ≡ 0 → ⊥ = λ z. omega (arith, number-positive c.in_err-p.field-0.0, z) in
    rw (p.1, p.2) (setting-refused c.args.board.now.words.now c.args.board.now.reals.now (slices_of c.args.book.now) c.args.pin c.args.setting.mode c.args.setting.open_drain c.args.setting.out c.args.setting.pullup c.args.setting.pulldown c.args.setting.function c.args.cycle _ _ _ c.configuration-cfg.ensures (c.in_err-p.ensures.refusal c.args.board.now.reals.now) number refl).0

pub returns-in_err-p-clause-holds : goal.returns-in_err-p-clause-holds
returns-in_err-p-clause-holds c =
    let p = err_from_is_err_and c.from_residual.result c.from_residual.ensures.1 in
    let number : number_of c.in_err-p.field-0.0 ≡ 0 → ⊥ = λ z. omega (arith, number-positive c.in_err-p.field-0.0, z) in
    rw p.1 (setting-refused c.args.board.now.words.now c.args.board.now.reals.now (slices_of c.args.book.now) c.args.pin c.args.setting.mode c.args.setting.open_drain c.args.setting.out c.args.setting.pullup c.args.setting.pulldown c.args.setting.function c.args.cycle _ _ _ c.configuration-cfg.ensures (c.in_err-p.ensures.refusal c.args.board.now.reals.now) number refl).1

pub set_pin-change-requires : goal.set_pin-change-requires
set_pin-change-requires c = rw c.configuration-cfg.ensures (bit_le (yes c.args.setting.out))

pub changed-requires : goal.changed-requires
changed-requires c = (refl, omega (arith, setting-room (view c.args.board.now.words.now c.args.board.now.reals.now) c.args.pin c.args.cycle (places (slices_of c.args.book.now)) 0 _ (c.in_ok-p.ensures.refusal c.args.board.now.reals.now) refl))

pub returns-clause-answers : goal.returns-clause-answers
returns-clause-answers c =
    rw c.changed.ensures.counted (pin-set _ _ _ _ _ _ _ c.args.pin c.args.setting.mode c.args.setting.open_drain c.args.setting.out c.args.setting.pullup c.args.setting.pulldown c.args.setting.function 0 _ _ _ _ (c.in_ok-p.ensures.refusal c.args.board.now.reals.now) refl c.configuration-cfg.ensures (rw c.in_ok-p.ensures.index at c.set_pin-change.ensures.moves) (c.changed.ensures.board _) refl c.changed.ensures.entered c.changed.ensures.at_most_one).0

pub returns-clause-holds : goal.returns-clause-holds
returns-clause-holds c =
    rw c.changed.ensures.counted (pin-set _ _ _ _ _ _ _ c.args.pin c.args.setting.mode c.args.setting.open_drain c.args.setting.out c.args.setting.pullup c.args.setting.pulldown c.args.setting.function 0 _ _ _ _ (c.in_ok-p.ensures.refusal c.args.board.now.reals.now) refl c.configuration-cfg.ensures (rw c.in_ok-p.ensures.index at c.set_pin-change.ensures.moves) (c.changed.ensures.board _) refl c.changed.ensures.entered c.changed.ensures.at_most_one).1
