-- Refused, or the register.
use Rattle.answer.proofs.Given.{number-positive}
use Rattle.mmio.proofs.Laws.{peek-away, peek-gives, read-admitted}
use Rattle.std.proofs.lemmas.Result.{err_from_is_err_and}
use mathlib.Core.List.{[]}
use mathlib.Core.Path.{refl}
use native.Mathlib.Omega.{arith}
use Rattle.mmio.proofs.peek.Goals as goal

pub returns-in_err-i : goal.returns-in_err-i
returns-in_err-i c =
    λ x. let p = err_from_is_err_and c.from_residual.result c.from_residual.ensures.1 in
    rw (p.1, p.2) (peek-away c.args.words.now x c.args.timer c.args.offset c.args.cycle _ _ (c.in_err-i.ensures.refusal x) (λ z. omega (arith, number-positive c.in_err-i.field-0.0, z)) refl)

pub lane_of-reg-requires : goal.lane_of-reg-requires
lane_of-reg-requires c =
    let q = read-admitted c.args.words.now [] c.args.timer 4 c.args.cycle _ (c.in_ok-i.ensures.refusal []) refl in (q.size-le, omega (arith, q.cycle-le))

pub returns : goal.returns
returns c =
    λ x. peek-gives c.args.words.now x c.args.timer c.args.offset c.args.cycle _ _ (c.in_ok-i.ensures.refusal x) refl _ (rw c.in_ok-i.ensures.index at c.lane_of-reg.ensures x) c.served.ensures
