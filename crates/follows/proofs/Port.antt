-- The port's timer over the period, edge-aligned and centre-aligned alike. m: the rules that manual mode takes from the manual. With what the port
-- takes now these are tim's own (Instances), and with F-8 tim's cnt_at, next_event and updated are to read so: the theorems of deliveries then stand as they are.
use Prim.Native.Nat.{ℕ, zero, suc, ◌+◌, ◌-◌, ◌*◌, ◌%◌, ◌<◌}
use mathlib.Core.Path.{◌≡◌}
use mathlib.Core.Bool.{Bool, true, false, cond, not, ◌&&◌, ◌||◌}
use lib.Dec.{eqb}
use lib.Bits.{bit_or}
use lib.ListN.{set, length}
use Rattle.rm0440.specs.Rules.{Taken}
use Rattle.rm0440.specs.Bits.{is_set, UDIS, OPM}
use Rattle.rm0440.specs.State as M
use Rattle.rm0440.specs.State.{with_bit, CMS}
use Rattle.tim.specs.declared.Timer.{Timer}
use Rattle.tim.specs.declared.Ahead.{Ahead}
use Rattle.tim.specs.declared.Next.TheVariants.{Update, Compare}
use Rattle.tim.specs.declared.Due.{Due}
use Rattle.tim.specs.declared.Due.TheVariants.{At, Stopped}
use Rattle.tim.specs.Timer as T
use Rattle.tim.specs.Timer.{with_regs, with_cr1}
use Rattle.tim.specs.Count.{ticks_at}
use Rattle.tim.specs.Next as N
use Rattle.tim.specs.Change as C
use Rattle.regs.specs.Regs.{with_sr}
use Rattle.follows.specs.Seen.{raw, clocks_at, per, due_by}
use Rattle.follows.proofs.Place.{period, down_at, count_at, place_of, Stands}
use Rattle.follows.proofs.First.{turn_steps, first}

-- "In manual mode honour CMS 1, 2 and 3"; a timer without channels keeps no CMS bit
abbrev pub centre : Taken → Timer → Bool
centre m t = m.centre-aligned && (not (eqb t.inst.channels 0) && not (eqb (CMS t.regs.cr1) 0))

-- "an active reload of 0 blocks the counter" (F-6); it has no places
abbrev pub stuck : Taken → Timer → Bool
stuck m t = m.reload-zero && eqb t.count.arr_act 0

-- the counter goes on
abbrev pub moves : Taken → Timer → Bool
moves m t = not (stuck m t) && t.count.running

-- ---- what is read

-- the place in the period after n steps from the reference; the count and the way there
abbrev pub place_after : Taken → Timer → ℕ → ℕ
place_after m t n = (place_of (centre m t) t.count.arr_act (T.down t) t.count.cnt0 + n) % period (centre m t) t.count.arr_act

abbrev pub count_after : Taken → Timer → ℕ → ℕ
count_after m t n = count_at (centre m t) (T.down t) t.count.arr_act (place_after m t n)

abbrev pub down_after : Taken → Timer → ℕ → Bool
down_after m t n = down_at (centre m t) (T.down t) t.count.arr_act (place_after m t n)

-- CNT and CR1 at a cycle: "DIR is set by the counter and reads, like CNT, as of the call's cycle"
unfoldable pub cnt_at : Taken → Timer → ℕ → ℕ
cnt_at m t c = cond (moves m t) (count_after m t (ticks_at t c)) t.count.cnt0

abbrev pub with_way : Taken → Timer → Bool → ℕ
with_way m t down = cond (centre m t) (with_bit 4 down t.regs.cr1) t.regs.cr1

unfoldable pub cr1_at : Taken → Timer → ℕ → ℕ
cr1_at m t c = cond (moves m t) (with_way m t (down_after m t (ticks_at t c))) t.regs.cr1

abbrev pub seen : Taken → Timer → ℕ → ℕ → M.Timer
seen m t div c = M.with_cr1 (cr1_at m t c) (M.with_count (raw t) t.count.running (cond (moves m t) (clocks_at t div c % per t) 0) (cnt_at m t c))

-- ---- the next event: tim's, but for the steps to the turn

abbrev pub update_steps : Taken → Timer → ℕ
update_steps m t = turn_steps (centre m t) t.count.arr_act (T.down t) t.count.cnt0

unfoldable pub next_steps : Taken → Timer → Ahead
next_steps m t = first (update_steps m t) (N.compares t) (N.compare_steps t)

unfoldable pub next_event : Taken → Timer → Due
next_event m t =
    cond (moves m t) (At (t.count.base + (next_steps m t).steps * t.count.tick) (next_steps m t).next) Stopped

-- ---- the events

-- centre-aligned the other way begins; then tim's restarted, which takes the count of the way that begins
abbrev pub turned : Taken → Timer → Timer
turned m t = with_cr1 t (with_way m t (not (T.down t)))

-- "One-pulse ends at either turn's update"; in manual mode UDIS goes first (F-11), and CEN falls (F-2)
abbrev pub pulse_ends : Taken → ℕ → Bool
pulse_ends m cr1 = OPM cr1 && not (m.one-pulse-udis && UDIS cr1)

abbrev pub ended : Taken → Bool → Timer → Timer
ended m ends t = cond ends (C.with_running (with_cr1 t (cond m.one-pulse (t.regs.cr1 - t.regs.cr1 % 2) t.regs.cr1)) false) t

unfoldable pub updated : Taken → Timer → ℕ → ℕ → Timer
updated m t c div = ended m (pulse_ends m t.regs.cr1) (C.recomputed_after_update (C.restarted (turned m (C.reloaded t)) c div))

-- "CMS 1 sets compare flags on the way down, 2 on the way up, 3 on both"; "every match is an event, and latching output modes act on it"
abbrev pub flagged : Taken → Timer → Bool
flagged m t = not (centre m t) || is_set (cond (T.down t) 0 1) (CMS t.regs.cr1)

unfoldable pub compared : Taken → Timer → ℕ → Timer
compared m t ch =
    C.with_done (with_sr (C.latched t ch) (cond (flagged m t) (bit_or t.regs.sr (C.cc_flag ch)) t.regs.sr)) (set t.chan.cc_done ch true)

abbrev pub applied : Taken → Timer → ℕ → Due → Timer
applied m t div (At x Update) = updated m t x div
applied m t div (At x (Compare ch)) = compared m t ch
applied m t div Stopped = t

unfoldable pub deliver : Taken → ℕ → ℕ → ℕ → Timer → Timer
deliver m zero c div t = t
deliver m (suc f) c div t = cond (due_by (next_event m t) c) (deliver m f c div (applied m t div (next_event m t))) t

-- ---- a running timer on its course: in centre mode the counter is not at the end of its way

pub record Runs (m : Taken) (t : Timer) (div : ℕ) : Type 0 where
  pub pos : 0 < div
  pub runs : t.count.running ≡ true
  pub free : stuck m t ≡ false
  pub timed : t.count.tick ≡ per t * div
  pub sized : length t.chan.cc_done ≡ 4
  pub stands : Stands (centre m t) t.count.arr_act (T.down t) t.count.cnt0
  pub small : m.centre-aligned ≡ true → t.regs.cr1 < 4294967296
  -- "Reload 0 blocks" centre-aligned, too
  pub blocks : m.centre-aligned ≡ true → m.reload-zero ≡ true
