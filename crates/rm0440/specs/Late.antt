-- The Rust's rule of a call that comes late, with events due and not delivered (docs/DIFFERENCES.md, lost-update, lost-compare, late-flags).
-- The manual has no such call: its flags, loads and matches come with the counter.
use Rattle.std.specs.Prelude.{true, cond, ℕ, zero, suc, ◌+◌, ltb}
use Rattle.rm0440.specs.Rules.{Rules}
use Rattle.rm0440.specs.State.{Timer, with_count}
use Rattle.rm0440.specs.Clock.{wraps, counted, restarted, going}

-- a step of which the counter alone is seen, by the values that were in use: no update, no match, no flag
unfoldable pub moved : Rules → Timer → Timer
moved r t = cond (wraps r t) (restarted r t) (counted t)

-- a kernel clock of which the call sees the counters alone. A read shows that state, a write that synchronizes goes on from it.
unfoldable pub passed : Rules → Timer → Timer
passed r t =
    cond (going r t)
    (cond (ltb t.pre t.psc) (with_count t true (t.pre + 1) t.cnt) (moved r (with_count t true 0 t.cnt))) t

unfoldable pub passes : Rules → ℕ → Timer → Timer
passes r zero t = t
passes r (suc n) t = passed r (passes r n t)
