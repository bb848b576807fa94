-- By CCxE and CCxP.
use Prim.Native.Nat.{◌%◌, ◌*◌, ◌/◌, ◌^◌}
use Rattle.tim.proofs.Laws.{differs}
use Rattle.tim.specs.Change.{output}
use lib.Dec.{eqb}
use lib.Pow.{shr-shr}
use mathlib.Core.Path.{◌≡◌, ◌∙◌, sym}
use mathlib.Core.Bool.{true}
use Rattle.tim.specs.Timer.{is_output}
use Rattle.tim.proofs.Timer.output.Goals as goal
use Rattle.tim.proofs.Timer.output.Goals.{then-is_output, else-is_output}

pub returns-then-bits-eq1 : goal.returns-then-bits-eq1
unfolding output
returns-then-bits-eq1 c =
    let bits = c.args.self.regs.ccer / 2 ^ (4 * c.args.ch.n) in
    let on : is_output c.args.self c.args.ch.n ≡ true = elim c.if-is_output.branch [ then-is_output w ↦ sym c.is_output.ensures ∙ w.if-is_output.true | else-is_output w ↦ cc ] in
    let set : eqb (bits % 2) 1 ≡ true = elim c.if-is_output.branch [ then-is_output w ↦ cc | else-is_output w ↦ cc ] in
    rw (on, set, ← shr-shr c.args.self.regs.ccer (4 * c.args.ch.n) 1, ← c.ocref.ensures)
    (differs c.ocref.result (eqb (bits / 2 % 2) 1))
