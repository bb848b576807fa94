-- Refused, gated off, whole or a lane.
use Rattle.answer.proofs.Given.{number-positive}
use Rattle.mmio.proofs.Laws.{read-away, read-on, read_off, read-admitted}
use Rattle.std.proofs.lemmas.Result.{err_from_is_err_and}
use mathlib.Core.List.{[]}
use native.Mathlib.Omega.{arith}
use mathlib.Core.Path.{ap, refl}
use mathlib.Core.Bool.{not}
use Rattle.mmio.proofs.read_sized.Goals as goal

pub returns-in_err-i : goal.returns-in_err-i
returns-in_err-i c =
    λ x. let p = err_from_is_err_and c.from_residual.result c.from_residual.ensures.1 in
    rw (p.1, p.2) (read-away c.args.words.now x c.args.timer c.args.offset c.args.size c.args.cycle _ _ (c.in_err-i.ensures.refusal x) (λ z. omega (arith, number-positive c.in_err-i.field-0.0, z)) refl)

pub returns-then-not-clock_on : goal.returns-then-not-clock_on
returns-then-not-clock_on c =
    λ x. read_off c.args.words.now x c.args.timer c.args.offset c.args.size c.args.cycle _ _ (c.in_ok-i.ensures.refusal x) refl _ (rw c.in_ok-i.ensures.index at c.clock_on.ensures x) (ap not c.if-not-clock_on.true) c.served.ensures

pub whole_of-whole-requires : goal.whole_of-whole-requires
whole_of-whole-requires c =
    let q = read-admitted c.args.words.now [] c.args.timer c.args.size c.args.cycle _ (c.in_ok-i.ensures.refusal []) refl in omega (arith, q.cycle-le)

pub returns-then-size-eq4 : goal.returns-then-size-eq4
returns-then-size-eq4 c =
    λ x. read-on c.args.words.now x c.args.timer c.args.offset c.args.size c.args.cycle _ _ (c.in_ok-i.ensures.refusal x) refl _ (rw c.in_ok-i.ensures.index at c.clock_on.ensures x) _ (ap not c.if-not-clock_on.false) (rw c.if-size-eq4.true (rw c.in_ok-i.ensures.index at c.whole_of-whole.ensures x)) c.served-then-size-eq4.ensures

pub lane_of-lane-requires : goal.lane_of-lane-requires
lane_of-lane-requires c =
    let q = read-admitted c.args.words.now [] c.args.timer c.args.size c.args.cycle _ (c.in_ok-i.ensures.refusal []) refl in (q.size-le, omega (arith, q.cycle-le))

pub returns : goal.returns
returns c =
    λ x. read-on c.args.words.now x c.args.timer c.args.offset c.args.size c.args.cycle _ _ (c.in_ok-i.ensures.refusal x) refl _ (rw c.in_ok-i.ensures.index at c.clock_on.ensures x) _ (ap not c.if-not-clock_on.false) (rw c.in_ok-i.ensures.index at c.lane_of-lane.ensures x) c.served-2.ensures
