use mathlib.Core.List.{[]}
use mathlib.Core.Path.{◌∙◌, ap, sym}
use Prim.Native.Nat.{ℕ}
use native.Mathlib.Omega.{arith}
use Rattle.machine.specs.Why.{feeder_from}
use Rattle.state.specs.View.{view}
use Rattle.state.proofs.InRange.{bounded}
use Rattle.why.proofs.Laws.{from_start, from-here, from_next, from_end}
use Rattle.why.proofs.feeder.Goals as goal

pub loop-i-init : goal.loop-i-init
loop-i-init c = λ x. from_start (view c.args.words.now x) c.args.s _

pub invariant_of-timer : goal.invariant_of-timer
invariant_of-timer c = record { below = omega (arith, c.loop-i-test.true, c.timer_count-n.ensures [], (bounded c.args.words.now []).timers-le) }

pub returns-in-Some-clause-timer : goal.returns-in-Some-clause-timer
returns-in-Some-clause-timer c =
    let w = c.args.words.now in
    let s = c.args.s in
    λ x. from-here (view w x) s _ c.loop-i.i _ c.loop-i-test.true (c.inst.ensures x) c.in-Some.ensures.0
    ∙ (c.loop-i.invariant x ∙ ap (λ (m : ℕ). feeder_from m 0 (view w x) s) (c.timer_count-n.ensures x))

pub loop-i-preserved : goal.loop-i-preserved
loop-i-preserved c =
    let w = c.args.words.now in
    let s = c.args.s in
    λ x. from_next (view w x) s _ c.loop-i.i _ c.loop-i-test.true (c.inst.ensures x) c.in_default.ensures ∙ c.loop-i.invariant x

pub returns-clause-timer : goal.returns-clause-timer
returns-clause-timer c =
    let w = c.args.words.now in
    let s = c.args.s in
    λ x. sym (c.timer_count-n.ensures x) ∙ from_end (view w x) s _ c.loop-i.i c.loop-i-test.false (omega arith)
    ∙ (c.loop-i.invariant x ∙ ap (λ (m : ℕ). feeder_from m 0 (view w x) s) (c.timer_count-n.ensures x))
