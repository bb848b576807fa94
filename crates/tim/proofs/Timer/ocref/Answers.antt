-- By the mode.
use Prim.Native.Nat.{◌/◌}
use Rattle.rm0440.specs.Output.{ocref}
use Rattle.tim.specs.Timer.{ccmr_byte}
use Rattle.tim.proofs.Laws.{forced, kept-ref}
use mathlib.Core.Bool.{not}
use mathlib.Core.Path.{◌≡◌, ◌∙◌, ap, sym}
use native.Mathlib.Nat.{mod-lt}
use native.Mathlib.Omega.{arith}
use Rattle.tim.proofs.Timer.ocref.Goals as goal

pub returns-in-0-to-3 : goal.returns-in-0-to-3
returns-in-0-to-3 c = kept-ref _ _ _ _ _ (omega (arith, c.oc_mode-mode.ensures, c.in-0-to-3.if-mode-lt4-own.true))

pub returns-in-4-to-5 : goal.returns-in-4-to-5
returns-in-4-to-5 c =
    rw c.oc_mode-mode.ensures
    (forced _ _ _ _ _ (omega (arith, c.oc_mode-mode.ensures, c.in-4-to-5.if-mode-lt4-own.false)) (omega (arith, c.oc_mode-mode.ensures, c.in-4-to-5.if-mode-lt6-own.true)))

pub returns-then-mode-eq6 : goal.returns-then-mode-eq6
unfolding ocref
returns-then-mode-eq6 c = rw (sym c.oc_mode-mode.ensures ∙ c.if-mode-eq6.true, ← c.down.ensures) c.pwm1-active.ensures

pub returns-else-mode-eq6 : goal.returns-else-mode-eq6
unfolding ocref
returns-else-mode-eq6 c =
    let e : c.oc_mode-mode.result ≡ 7 = omega (arith, c.oc_mode-mode.ensures, mod-lt (ccmr_byte c.args.self c.args.ch.n / 16) {m = 8} (omega arith)) in
    rw (sym c.oc_mode-mode.ensures ∙ e, ← c.down.ensures) (ap not c.pwm1-active.ensures)
