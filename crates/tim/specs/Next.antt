-- The next event (document 01, "Events due"; the Rust's next_event).
use Rattle.std.specs.Prelude.{Bool, false, cond, not, ◌&&◌, ℕ, ◌+◌, ◌-◌, ◌*◌, ltb, leb, get_or, Option, Some, None}
use Rattle.tim.specs.declared.Timer.{Timer}
use Rattle.tim.specs.declared.Ahead.{Ahead}
use Rattle.tim.specs.declared.Next.TheVariants.{Update, Compare}
use Rattle.tim.specs.declared.Due.{Due}
use Rattle.tim.specs.declared.Due.TheVariants.{At, Stopped}
use Rattle.tim.specs.Timer.{down, is_output, ccr_in_use}
use Rattle.tim.specs.Count.{counts}

-- steps to the update: past 0 downward, past the reload upward; a counter above the reload is there already (docs/DIFFERENCES.md, above-reload, clamp-down)
abbrev pub update_steps : Timer → ℕ
update_steps t = cond (down t) (t.count.cnt0 + 1) (t.count.arr_act + 1 - t.count.cnt0)

-- steps to a compare value that lies ahead of the counter, as `ahead` and `compare_steps` say it of a channel's
abbrev pub steps_to : Timer → ℕ → Option ℕ
steps_to t ccr =
    cond (down t)
    (cond (leb ccr t.count.cnt0) (Some (t.count.cnt0 - ccr)) None)
    (cond (leb ccr t.count.arr_act) (cond (leb t.count.cnt0 ccr) (Some (ccr - t.count.cnt0)) None) None)

-- channel ch's compare is ahead of the counter: downward at or below it, upward from it to the reload
abbrev pub ahead : Timer → ℕ → Bool
ahead t ch =
    cond (down t) (leb (ccr_in_use t ch) t.count.cnt0) (leb t.count.cnt0 (ccr_in_use t ch) && leb (ccr_in_use t ch) t.count.arr_act)

-- an output that is not done in this period
abbrev pub waiting : Timer → ℕ → Bool
waiting t ch = not (get_or t.chan.cc_done ch false) && is_output t ch

-- channel ch still compares in this period: such an output, and its compare ahead of the counter
unfoldable pub compares : Timer → ℕ → Bool
compares t ch = waiting t ch && ahead t ch

-- steps to channel ch's compare
abbrev pub compare_steps : Timer → ℕ → ℕ
compare_steps t ch = cond (down t) (t.count.cnt0 - ccr_in_use t ch) (ccr_in_use t ch - t.count.cnt0)

-- "A compare goes before an update only if strictly earlier; equal compares go lowest channel first."
abbrev pub nearer : ℕ → ℕ → Ahead → Ahead
nearer steps ch best = cond (ltb steps best.steps) (record { steps = steps; next = Compare ch }) best

unfoldable pub consider : Timer → ℕ → Ahead → Ahead
consider t ch best = cond (compares t ch) (nearer (compare_steps t ch) ch best) best

unfoldable pub next_steps : Timer → Ahead
next_steps t = consider t 3 (consider t 2 (consider t 1 (consider t 0 (record { steps = update_steps t; next = Update }))))

-- "the next event, or none when the timer is stopped", or blocked ("no counted event occurs", F-6), with the cycle at which it is due, that of a step also where a write made it (docs/DIFFERENCES.md, stopped-match, match-before-write)
unfoldable pub next_event : Timer → Due
next_event t =
    cond (counts t) (At (t.count.base + (next_steps t).steps * t.count.tick) (next_steps t).next) Stopped

-- the next event is due by a cycle; a stopped timer has none
abbrev pub due_by : Due → ℕ → Bool
due_by (At at e) now = leb at now
due_by Stopped now = false
