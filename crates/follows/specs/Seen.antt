-- The port's timer at a cycle, as a state of RM0440's machine; and the port's delivery, of its timer alone.
use Rattle.std.specs.Prelude.{ℕ, zero, suc, ◌+◌, ◌%◌, ◌≤◌, ◌<◌, ◌≡◌, true, false, cond, [], ◌∷◌, length}
use Rattle.rm0440.specs.Bits.{CEN}
use Rattle.rm0440.specs.Counter.{step_cycles, steps_between}
use Rattle.rm0440.specs.Rules.{Rules, port_rules}
use Rattle.rm0440.specs.State as M
use Rattle.tim.specs.declared.Timer.{Timer}
use Rattle.tim.specs.declared.Next.TheVariants.{Update, Compare}
use Rattle.tim.specs.declared.Due.{Due}
use Rattle.tim.specs.declared.Due.TheVariants.{At, Stopped}
use Rattle.tim.specs.Timer.{max}
use Rattle.tim.specs.Count.{counts, cnt_at}
use Rattle.tim.specs.Next.{next_event}
pub use Rattle.tim.specs.Next.{due_by}
use Rattle.tim.specs.Change as T
use Rattle.regs.specs.Regs.{reg_written}

-- the rules that it counts by: the Rust's, and in manual mode those that document 02 takes from the manual
abbrev pub rules_of : Timer → Rules
rules_of t = port_rules t.inst.manual

-- ---- the view

-- at its reference: registers, values in use, latched references
abbrev pub raw : Timer → M.Timer
raw t = record {
  channels = t.inst.channels;
  max = max t;
  cr1 = t.regs.cr1;
  sr = t.regs.sr;
  regs = 0 ∷ t.regs.cr2 ∷ t.regs.smcr ∷ t.regs.dier ∷ 0 ∷ 0 ∷ 0 ∷ 0 ∷ t.regs.ccer ∷ 0 ∷ t.regs.psc ∷ t.regs.arr ∷ [];
  modes = t.chan.ccmr;
  compares = t.chan.ccr;
  psc = t.count.psc_act;
  arr = t.count.arr_act;
  ccr = t.chan.ccr_act;
  on = t.count.running;
  pre = 0;
  cnt = t.count.cnt0;
  ref = t.chan.oc;
  done = t.chan.cc_done;
}

-- kernel clocks, one every div cycles, from the reference to a cycle
abbrev pub clocks_at : Timer → ℕ → ℕ → ℕ
clocks_at t div c = steps_between t.count.base c div

-- kernel clocks to a step
abbrev pub per : Timer → ℕ
per t = t.count.psc_act + 1

-- at a cycle: the count that is read there, and the kernel clocks since its last step, blocked none
abbrev pub seen : Timer → ℕ → ℕ → M.Timer
seen t div c = M.with_count (raw t) t.count.running (cond (counts t) (clocks_at t div c % per t) 0) (cnt_at t c)

-- ---- the timers that it is a view of

-- its step is that of its prescaler and divider, without CEN it stands, and its record of matches has four places
pub record Timed (t : Timer) (div : ℕ) : Type 0 where
  pub pos : 0 < div
  pub timed : t.count.tick ≡ step_cycles t.count.psc_act div
  pub halted : CEN t.regs.cr1 ≡ false → t.count.running ≡ false
  pub sized : length t.chan.cc_done ≡ 4

-- counting, it is within the reload (docs/DIFFERENCES.md, above-reload upward, clamp-down downward)
abbrev pub Within : Timer → Type 0
Within t = counts t ≡ true → t.count.cnt0 ≤ t.count.arr_act

-- a timer that a call at a cycle leaves: its reference is not later
pub record Left (div now : ℕ) (t : Timer) : Type 0 where
  pub timed : Timed t div
  pub based : t.count.base ≤ now

-- ---- the port's write of a register, and its delivery: so many events at most, up to cycle c (crates/machine, Deliver.handled)

abbrev pub written : Timer → ℕ → ℕ → ℕ → ℕ → Timer
written t off v now div = (reg_written t off v now div).timer

abbrev pub applied : Timer → ℕ → Due → Timer
applied t div (At x Update) = T.updated t x div
applied t div (At x (Compare ch)) = T.compared t ch
applied t div Stopped = t

unfoldable pub deliver : ℕ → ℕ → ℕ → Timer → Timer
deliver zero c div t = t
deliver (suc f) c div t = cond (due_by (next_event t) c) (deliver f c div (applied t div (next_event t))) t
