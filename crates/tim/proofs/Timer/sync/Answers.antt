use Prim.Native.Nat.{◌%◌}
use Prim.Native.Nat.{◌-◌, ◌+◌, ◌*◌, ◌/◌}
use Rattle.tim.specs.Count.{cnt_at, synced}
use borrow.Author.Tests.{not-false, not-true}
use mathlib.Core.Path.{◌≡◌, sym, ◌∙◌}
use native.Mathlib.Nat.{add-zero, div-add-mod', div-le_self, mod-le, zero-div, zero-mul}
use native.Mathlib.Omega.{arith}
use Rattle.tim.proofs.Timer.sync.Goals as goal

pub returns-then-not-self : goal.returns-then-not-self
unfolding synced
returns-then-not-self c =
    rw (not-true c.args.self.count.running c.if-not-self.true)

-- blocked: the count stays, and the reference is now
pub returns-then-is_blocked : goal.returns-then-is_blocked
unfolding synced cnt_at
returns-then-is_blocked c =
    c.at_count.ensures ∙ rw (not-false c.args.self.count.running c.if-not-self.false, sym c.is_blocked.ensures ∙ c.if-is_blocked.true)

pub returns-then-now-self : goal.returns-then-now-self
unfolding synced cnt_at
returns-then-now-self c =
    let z : c.args.now - c.args.self.count.base ≡ 0 = omega arith in c.at_count-then-now-self.ensures ∙ rw (c.count_after.ensures, not-false c.args.self.count.running c.if-not-self.false, sym c.is_blocked.ensures ∙ c.if-is_blocked.false, z, zero-div, zero-mul, add-zero)

pub count_after-requires-2 : goal.count_after-requires-2
count_after-requires-2 c =
    omega (arith, div-le_self (c.args.now - c.args.self.count.base) c.args.self.count.tick)

pub overflow_sub-now : goal.overflow_sub-now
overflow_sub-now c =
    omega (arith, mod-le (c.args.now - c.args.self.count.base) c.args.self.count.tick)

pub returns : goal.returns
unfolding synced cnt_at
returns c =
    let e : c.args.now - (c.args.now - c.args.self.count.base) % c.args.self.count.tick ≡ c.args.self.count.base + (c.args.now - c.args.self.count.base) / c.args.self.count.tick * c.args.self.count.tick = omega (arith, div-add-mod' (c.args.now - c.args.self.count.base) c.args.self.count.tick) in c.at_count-2.ensures ∙ rw (c.count_after-2.ensures, not-false c.args.self.count.running c.if-not-self.false, sym c.is_blocked.ensures ∙ c.if-is_blocked.false, e)
