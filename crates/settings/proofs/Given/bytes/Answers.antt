-- Byte by byte, the interrupt's four by its digits.
use mathlib.Core.Path.{◌≡◌}
use Prim.Native.Nat.{◌/◌, ◌%◌}
use native.Mathlib.Omega.{arith}
use Rattle.settings.proofs.Meets.{record-size, record-bytes}
use Rattle.settings.proofs.Given.bytes.Goals as goal

pub returns : goal.returns
returns c =
    let g = c.args.self in
    let k = c.kind-kind in
    let third : g.irq / 65536 % 256 ≡ g.irq / 256 / 256 % 256 = omega arith in
    let fourth : g.irq / 16777216 % 256 ≡ g.irq / 256 / 256 / 256 % 256 = omega arith in
    rw (
      record-size g.number g.width g.channels g.bus g.word g.bit g.irq g.manual k.result k.ensures.0,
      c.to_le_bytes.ensures,
      third,
      fourth,
      c.saturating_sub.ensures,
    ) (record-bytes g.number g.width g.channels g.bus g.word g.bit g.irq g.manual k.result k.ensures.0)
