-- 14 bytes, or 15 of kind 2.
use mathlib.Core.Path.{sym}
use native.Mathlib.Omega.{arith}
use Rattle.settings.proofs.Meets.{record-size}
use Rattle.settings.proofs.Given.len.Goals as goal

pub returns : goal.returns
returns c =
    let g = c.args.self in
    (rw c.from.ensures (sym (record-size g.number g.width g.channels g.bus g.word g.bit g.irq g.manual c.kind.result c.kind.ensures.0)), omega arith)
