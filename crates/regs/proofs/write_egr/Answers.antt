-- The update, then the four channels.
use Rattle.regs.proofs.Cases.{egr_matches, egr-none, egr-step, egr-four}
use Rattle.regs.specs.Regs.{egr_match, egr_update}
use mathlib.Core.Path.{◌≡◌, ◌∙◌, ap, sym}
use native.Mathlib.Omega.{arith}
use Rattle.regs.proofs.write_egr.Goals as goal

pub loop-n-init : goal.loop-n-init
loop-n-init c = c.egr_update-t.ensures ∙ egr-none _ _

pub loop-n-preserved : goal.loop-n-preserved
loop-n-preserved c = c.egr_match-t.ensures ∙ ap (egr_match c.args.v c.loop-n.n) c.loop-n.invariant ∙ sym (egr-step _ _ _)

pub returns : goal.returns
returns c =
    let e : c.loop-n.n ≡ 4 = omega arith in
    c.loop-n.invariant ∙ ap (egr_matches c.args.v (egr_update c.args.timer c.args.v c.args.now c.args.div.n)) e ∙ egr-four _ _ _ _
