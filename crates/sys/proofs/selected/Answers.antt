-- A table entry is below 256.
use Prim.Native.Nat.{◌%◌, ◌*◌, ◌+◌}
use Rattle.state.proofs.InRange.{bounded}
use mathlib.Core.List.{[]}
use Rattle.sys.proofs.selected.Goals as goal

pub returns-then-c-eq2-clause-range : goal.returns-then-c-eq2-clause-range
returns-then-c-eq2-clause-range c = rw (c.af.ensures []) ((bounded c.args.words.now []).af-lt (c.args.i.n * 16 + c.args.f % 16))
