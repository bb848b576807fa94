-- A signal from 160 on is no UART's.
use borrow.Author.Tests.{le-leb, lt-leb, ne_eqb}
use native.Mathlib.Omega.{arith}
use Prim.Native.Nat.{◌/◌, ◌<◌, ◌≤◌}
use Rattle.sig.specs.Signal.{is_uart}
use Rattle.gpio.proofs.drives.Goals as goal

pub returns-then-s-ge160 : goal.returns-then-s-ge160
unfolding is_uart
returns-then-s-ge160 c =
    let far : 9 < c.args.s / 16 = omega arith in
    let some : 1 ≤ c.args.s / 16 = omega arith in
    rw (le-leb 160 c.args.s c.if-s-ge160.true, ne_eqb c.args.s 0 (λ e. omega arith), le-leb 1 (c.args.s / 16) some, lt-leb (c.args.s / 16) 9 far)
