-- The word of the route, at or below the cut.
use Rattle.state.proofs.Places.{route-read}
use Rattle.std.proofs.Math.Nat.{min-eq_left, min-eq_right}
use mathlib.Core.Path.{sym}
use native.Mathlib.Omega.{arith}
use Rattle.state.proofs.route.Goals as goal

pub returns-then-word-ge128 : goal.returns-then-word-ge128
returns-then-word-ge128 c = λ x. rw (route-read c.args.words.now x c.args.s c.requires) (min-eq_right c.if-word-ge128.true)

pub returns : goal.returns
returns c = λ x. rw (route-read c.args.words.now x c.args.s c.requires) (sym (min-eq_left {m = 128} (omega (arith, c.if-word-ge128.false))))
