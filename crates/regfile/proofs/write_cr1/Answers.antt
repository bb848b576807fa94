-- It leaves CEN and DIR, or it is not done.
use mathlib.Core.Path.{◌∙◌, sym}
use Rattle.state.specs.View.{view}
use Rattle.regfile.proofs.Unmoved.{steady-fine, steady-stored}
use Rattle.regfile.proofs.write_cr1.Goals as goal

pub returns-then-steady-clause-counts_on : goal.returns-then-steady-clause-counts_on
returns-then-steady-clause-counts_on c =
    λ q x div. steady-fine (view c.args.words.now x) c.args.i.n c.args.v c.args.cycle _ _ (c.load_timer-t.ensures x) c.kept_cr1-new.ensures (sym c.stays-steady.ensures ∙ c.if-steady.true) div

pub returns-then-steady-clause-board : goal.returns-then-steady-clause-board
returns-then-steady-clause-board c =
    λ q x div. steady-stored (view c.args.words.now x) c.args.i.n c.args.v c.args.cycle _ _ (c.load_timer-t.ensures x) c.kept_cr1-new.ensures (sym c.stays-steady.ensures ∙ c.if-steady.true) _ (c.write_steady.ensures x) div
