-- The counter without stepping (document 01, "Counter, without stepping"; the Rust's cnt_at and sync).
use Rattle.std.specs.Prelude.{Bool, cond, not, ◌&&◌, ℕ, ◌+◌, ◌-◌, ◌*◌, ◌%◌, min, eqb, leb}
use Rattle.rm0440.specs.Counter.{steps_between}
use Rattle.tim.specs.declared.Timer.{Timer}
use Rattle.tim.specs.declared.Count.{Count}
use Rattle.tim.specs.Timer.{with_count, down}

-- "In manual mode an active reload of 0 blocks the counter" (F-6); without the mode it is a period of one step (docs/DIFFERENCES.md, reload-zero)
abbrev pub blocked : Timer → Bool
blocked t = t.inst.manual && eqb t.count.arr_act 0

-- runs, and is not blocked
abbrev pub counts : Timer → Bool
counts t = not (blocked t) && t.count.running

-- the count after n steps up from cnt, with the period reload + 1
unfoldable pub up_from : ℕ → ℕ → ℕ → ℕ
up_from reload cnt n = cond (leb (cnt + n) reload) (cnt + n) ((cnt + n - (reload + 1)) % (reload + 1))

-- the count after n steps down from cnt
unfoldable pub down_from : ℕ → ℕ → ℕ → ℕ
down_from reload cnt n = cond (leb n cnt) (cnt - n) (reload - (n - cnt - 1) % (reload + 1))

-- whole steps from the reference to a cycle
abbrev pub ticks_at : Timer → ℕ → ℕ
ticks_at t c = steps_between t.count.base c t.count.tick

-- the count after n steps
abbrev pub count_after : Timer → ℕ → ℕ
count_after t n =
    cond (down t)
    (down_from t.count.arr_act (min t.count.cnt0 t.count.arr_act) n)
    (up_from t.count.arr_act t.count.cnt0 n)

-- the counter at a cycle; "including its clamp: counting down from a counter above reload reads as from reload" (docs/DIFFERENCES.md, clamp-down). Blocked "it keeps its number"
unfoldable pub cnt_at : Timer → ℕ → ℕ
cnt_at t c =
    cond (counts t) (count_after t (ticks_at t c)) t.count.cnt0

abbrev pub at_count : Count → ℕ → ℕ → Count
at_count k cnt base = record {
  psc_act = k.psc_act;
  arr_act = k.arr_act;
  cnt0 = cnt;
  base = base;
  tick = k.tick;
  running = k.running;
}

-- the last step at or before now: "keeps the part-step already elapsed, in cycles". Blocked no part of a step is kept: "When an active reload above 0
-- returns, counting resumes with a whole step from that write" (F-6)
abbrev pub step_at : Timer → ℕ → ℕ
step_at t now = cond (blocked t) now (t.count.base + ticks_at t now * t.count.tick)

-- the reference moved there; events due and not delivered are passed over (docs/DIFFERENCES.md, lost-update, lost-compare)
unfoldable pub synced : Timer → ℕ → Timer
synced t now =
    cond t.count.running
    (with_count t (at_count t.count (cnt_at t now) (step_at t now)))
    t
