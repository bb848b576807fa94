-- A word stored in the routes: the pin's place, or 128.
use Rattle.state.proofs.Stores.{route-set}
use native.Mathlib.Omega.{arith}
use Rattle.state.proofs.set_route.Goals as goal
use Rattle.state.proofs.set_route.Goals.{in-Some, in-None}

pub returns : goal.returns
returns c = λ x. elim c.match-p.branch [
  | in-Some w ↦ rw (w.in-Some.is, w.words-is) (route-set _ x c.told-words c.args.s w.in-Some.i.n c.requires (omega (arith, w.in-Some.i.below)))
  | in-None w ↦ rw (w.in-None.is, w.words-is) (route-set _ x c.told-words c.args.s 128 c.requires (omega arith))
]
