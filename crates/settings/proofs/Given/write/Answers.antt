-- Too few places, settings that no record can hold, or the record.
use mathlib.Core.Path.{sym, ap, ◌∙◌}
use mathlib.Core.List.{◌++◌}
use Prim.Native.Nat.{ℕ}
use mathlib.Core.List.{List}
use lib.ListN.{take, drop}
use native.Mathlib.Omega.{arith}
use Rattle.settings.specs.Refused.{inst_of}
use Rattle.settings.proofs.Meets.{write-cut, write-bad, write-served}
use Rattle.settings.proofs.Given.write.Goals as goal

pub returns-then-out-places : goal.returns-then-out-places
returns-then-out-places c = write-cut (inst_of c.args.self) c.args.out.now (omega (arith, c.len-count.ensures.0))

pub returns-then-not-is_good : goal.returns-then-not-is_good
returns-then-not-is_good c =
    write-bad (inst_of c.args.self) c.args.out.now (omega (arith, c.len-count.ensures.0)) (sym c.is_good.ensures ∙ c.if-not-is_good.true)

pub returns : goal.returns
returns c =
    let n = c.len-count in
    write-served (inst_of c.args.self) c.args.out.now _ n.result n.ensures.0 c.if-out-places.false
    (sym c.is_good.ensures ∙ c.if-not-is_good.false)
    (ap (λ (xs : List ℕ). xs ++ drop n.result c.args.out.now)
    (c.copy_from_slice.ensures.after ∙ ap (λ (k : ℕ). take k c.bytes-bytes.result) n.ensures.0 ∙ c.bytes-bytes.ensures))
