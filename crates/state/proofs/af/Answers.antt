-- The word of the table.
use Prim.Native.Nat.{◌*◌, ◌+◌}
use Rattle.state.proofs.Places.{af-read}
use mathlib.Core.Path.{sym, ◌∙◌}
use native.Mathlib.Omega.{arith}
use Rattle.state.proofs.af.Goals as goal

pub returns : goal.returns
returns c = λ x. c.from.ensures ∙ (c.low_8.ensures ∙ sym (af-read c.args.words.now x (c.args.p.n * 16 + c.args.f) (omega arith)))
