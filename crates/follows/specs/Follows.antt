-- The statement. "RM0440 decides the proved definition, and each disagreement is a line of docs/DIFFERENCES.md with its exact cases. Outside those
-- cases the port is proved equal to the definition; inside them, to the Rust's rule, written out beside the manual's." (document 01)
-- The definition is the machine of crates/rm0440 by the rules `manual`; those of the port's timer t are `rules_of t`: `rust`, and in manual mode (document
-- 02) `rust` but for what that takes from the manual. The cases are Cases and WriteCases there.
-- The proof: proofs/Theorem.antt.
use Rattle.std.specs.Prelude.{ℕ, suc, ◌+◌, ◌-◌, ◌%◌, ◌≤◌, ◌<◌, ◌≡◌, Bool, true, false, cond, not, eqb, get_or}
use Rattle.rm0440.specs.Bits.{is_set, ARPE}
use Rattle.rm0440.specs.Output.{OCxPE}
use Rattle.rm0440.specs.Counter.{tick_up, tick_down, after}
use Rattle.rm0440.specs.Rules.{Rules, manual}
use Rattle.rm0440.specs.State as M
use Rattle.rm0440.specs.Clock.{matched, clock, clocks}
use Rattle.rm0440.specs.Write.{is_ccr, ccr_channel, write, reset}
use Rattle.rm0440.specs.Read.{read}
use Rattle.rm0440.specs.Level.{level}
use Rattle.rm0440.specs.Late.{passes}
use Rattle.rm0440.specs.Cases.{Outside}
use Rattle.rm0440.specs.WriteCases.{OutsideWrite}
use Rattle.tim.specs.declared.Timer.{Timer}
use Rattle.tim.specs.declared.Next.TheVariants.{Update}
use Rattle.tim.specs.declared.Due.TheVariants.{At}
use Rattle.tim.specs.Timer.{down, is_output, ccr_in_use}
use Rattle.tim.specs.Count.{counts, ticks_at, cnt_at, synced}
use Rattle.tim.specs.Next.{update_steps, next_steps, next_event}
use Rattle.tim.specs.Change.{updated, output, reset_state, retimed}
use Rattle.regs.specs.Regs.{reg_read}
use Rattle.follows.specs.Seen.{clocks_at, per, seen, rules_of, Timed, Within, written, due_by, deliver}

-- nothing is due at a cycle
abbrev pub Delivered : Timer → ℕ → Type 0
Delivered t c = due_by (next_event t) c ≡ false

-- the kernel clocks from cycle a to cycle c
abbrev pub between : Timer → ℕ → ℕ → ℕ → ℕ
between t div a c = clocks_at t div c - clocks_at t div a

-- a timer, the divider that it steps by, and a cycle of its own
pub record Call (t : Timer) (div now : ℕ) : Type 0 where
  pub timed : Timed t div
  pub within : Within t
  pub came : t.count.base ≤ now

-- ---- the machine by the rules r of a timer, at the calls that P admits

-- a delivery at cycle c, answered 0, from a cycle a at which nothing was due: so many kernel clocks
abbrev pub Deliveries : (Timer → Rules) → (Timer → M.Timer → ℕ → Type 0) → Type 0
Deliveries r P =
    (f : ℕ) (t : Timer) (div a c : ℕ) → Call t div a → a ≤ c → Delivered t a → Delivered (deliver f c div t) c → P t (seen t div a) (between t div a c)
    → clocks (r t) (between t div a c) (seen t div a) ≡ seen (deliver f c div t) div c

-- a write of any register at a cycle where nothing is due, and what it makes due at once delivered: the machine's write
abbrev pub Writes : (Timer → Rules) → (Timer → ℕ → ℕ → M.Timer → Type 0) → Type 0
Writes r P =
    (f : ℕ) (t : Timer) (div off v now : ℕ) → Call t div now → Delivered t now
    → Within (written t off v now div) → Delivered (deliver f now div (written t off v now div)) now → P t off v (seen t div now)
    → write (r t) off v (seen t div now) ≡ seen (deliver f now div (written t off v now div)) div now

-- ---- inside the cases and outside: the rules of the timer

-- a call at any cycle, with events due or not, sees the machine of whose clocks the counters alone are seen (lost-update, lost-compare, late-flags)
abbrev pub Late : Type 0
Late = (t : Timer) (div now : ℕ) → Call t div now → passes (rules_of t) (clocks_at t div now) (seen t div t.count.base) ≡ seen t div now

-- every register, flags and counter read as the machine's
abbrev pub Reads : Type 0
Reads = (t : Timer) (div off now : ℕ) → read off (seen t div now) ≡ reg_read t off now

-- what the port drives at a count is the machine's level
abbrev pub Outputs : Type 0
Outputs = (t : Timer) (div ch now : ℕ) → level (seen t div now) ch ≡ output t ch (cnt_at t now)

-- and it is the level driven last at every cycle up to the next event, unless a compare is met that the port's record calls done (done-equality)
abbrev pub Stays : Type 0
Stays =
    (t : Timer) (div ch now : ℕ) → Call t div now → t.count.running ≡ true → ch < 4
    → ((j : ℕ) → suc j < (next_steps t).steps → get_or t.chan.cc_done ch false ≡ true → is_output t ch ≡ true
    → cond (down t) (t.count.cnt0 - suc j) (t.count.cnt0 + suc j) ≡ ccr_in_use t ch → ⊥)
    → Delivered t now → level (seen t div now) ch ≡ output t ch t.count.cnt0

abbrev pub TimerResets : Type 0
TimerResets = (t : Timer) (div div' now now' : ℕ) → reset (seen t div now) ≡ seen (reset_state t.inst div') div' now'

-- another divider: the cycles of a step that have passed are kept, and count as kernel clocks of the new length. With a new step that is not
-- shorter than them (else clock-change-jump)
abbrev pub Retimes : Type 0
Retimes =
    (t : Timer) (div div' now : ℕ) → Timed t div → ((retimed t now div').count.running ≡ true → ticks_at (retimed t now div') now ≡ 0)
    → seen (retimed t now div') div' now
    ≡ M.with_count (seen t div now) (synced t now).count.running (cond (counts (synced t now)) (clocks_at (synced t now) div' now % per (synced t now)) 0) (cnt_at t now)

-- what a write leaves, with events due or not, is again such a timer
abbrev pub Goes : Type 0
Goes = (t : Timer) (div off v now : ℕ) → Call t div now → Within (written t off v now div) → Call (written t off v now div) div now

-- ---- events due and not delivered

-- a write of these acts at once: CR1, UG, CNT, ARR without ARPE, CCMRx, CCRx without OCxPE; of the others the value is only stored
abbrev pub acts_channel : ℕ → M.Timer → Bool
acts_channel off s =
    cond (eqb s.channels 0) false
    (cond (eqb off 0x18) true
    (cond (eqb off 0x1c) true
    (cond (eqb off 0x20) false (cond (is_ccr off) (not (OCxPE (M.byte s (ccr_channel off)))) false))))

abbrev pub acts : ℕ → ℕ → M.Timer → Bool
acts off v s =
    cond (eqb off 0x00) true
    (cond (eqb off 0x04) false
    (cond (eqb off 0x08) false
    (cond (eqb off 0x0c) false
    (cond (eqb off 0x10) false
    (cond (eqb off 0x14) (is_set 0 v)
    (cond (eqb off 0x24) true
    (cond (eqb off 0x28) false
    (cond (eqb off 0x2c) (not (ARPE s.cr1)) (acts_channel off s)))))))))

-- a write at any cycle, with events due or not: the machine's write, of the machine of whose clocks the counters alone are seen (`Late`: lost-update,
-- lost-compare, late-flags). What a write that acts makes due at once is delivered; the others leave it
abbrev pub LateWrites : Type 0
LateWrites =
    (f : ℕ) (t : Timer) (div off v now : ℕ) → Call t div now → Within (written t off v now div) → Delivered (deliver f now div (written t off v now div)) now
    → write (rules_of t) off v (passes (rules_of t) (clocks_at t div now) (seen t div t.count.base))
    ≡ cond (acts off v (seen t div now)) (seen (deliver f now div (written t off v now div)) div now) (seen (written t off v now div) div now)

-- a delivery that leaves nothing due, whatever was due at the reference itself or since: what matches there, and so many kernel clocks from there
abbrev pub DeliveriesDue : Type 0
DeliveriesDue =
    (f : ℕ) (t : Timer) (div c : ℕ) → Call t div c → Delivered (deliver f c div t) c
    → clocks (rules_of t) (clocks_at t div c) (matched (rules_of t) (seen t div t.count.base)) ≡ seen (deliver f c div t) div c

-- two deliveries are one of as many events: also where the first left more due (8)
abbrev pub Splits : Type 0
Splits =
    (f g : ℕ) (t : Timer) (div a c : ℕ) → a ≤ c → Delivered (deliver g c div (deliver f a div t)) c
    → deliver (f + g) c div t ≡ deliver g c div (deliver f a div t)

-- upward a counter with nothing due is within its reload: `Within` is asked downward only
abbrev pub WithinDown : Timer → Type 0
WithinDown t = down t ≡ true → Within t

abbrev pub Upward : Type 0
Upward = (t : Timer) (a : ℕ) → t.count.base ≤ a → Delivered t a → WithinDown t → Within t

-- ---- the two cases that no view shows: a counter that counts from above its reload, after which an update leaves it within

-- above-reload: upward at the reload + 1 it reads as from 0, and the update is due at once
abbrev pub AboveReload : Type 0
AboveReload =
    (t : Timer) (c : ℕ) → counts t ≡ true → down t ≡ false → t.count.cnt0 ≡ t.count.arr_act + 1
    → (cnt_at t c ≡ after (tick_up t.count.arr_act) (ticks_at t c) 0) × (next_event t ≡ At t.count.base Update)

-- clamp-down: downward it reads as from the reload, and the update comes when the counter itself would have come down
abbrev pub ClampDown : Type 0
ClampDown =
    (t : Timer) (c : ℕ) → counts t ≡ true → down t ≡ true → t.count.arr_act < t.count.cnt0
    → (cnt_at t c ≡ after (tick_down t.count.arr_act) (ticks_at t c) t.count.arr_act) × (update_steps t ≡ t.count.cnt0 + 1)

abbrev pub UpdateWithin : Type 0
UpdateWithin = (t : Timer) (x div : ℕ) → Within (updated t x div)

-- ---- the cases

-- a state whose reload in use fits the timer's width
abbrev pub Fits : M.Timer → Type 0
Fits s = s.arr ≤ s.max

-- which clocks keep, with the written one
abbrev pub FitsStay : Type 0
FitsStay = (r : Rules) (s : M.Timer) (m : ℕ) → Fits s → M.reg s 11 ≤ s.max → Fits (clocks r m s)

-- n clocks of which none meets a case that rules r leave to the Rust
pub record Undisputed (r : Rules) (s : M.Timer) (n : ℕ) : Type 0 where
  pub fits : (m : ℕ) → m < n → Fits (clocks r m s)
  pub outside : (m : ℕ) → m < n → Outside r (clocks r m s)

-- a clock and a write that meet no case are the manual's, whichever cases rules r leave to the Rust
abbrev pub ClocksAgree : Type 0
ClocksAgree = (r : Rules) (s : M.Timer) → Fits s → Outside r s → clock r s ≡ clock manual s

abbrev pub WritesAgree : Type 0
WritesAgree = (r : Rules) (off v : ℕ) (s : M.Timer) → OutsideWrite r off v s → write r off v s ≡ write manual off v s

-- ---- the whole

pub record Follows : Type 0 where
  -- "inside them, to the Rust's rule"; in manual mode to those that it takes
  pub deliveries : Deliveries rules_of (λ t s n. Unit {0})
  pub writes : Writes rules_of (λ t off v s. Unit {0})
  pub late : Late
  pub reads : Reads
  pub outputs : Outputs
  pub stays : Stays
  pub resets : TimerResets
  pub retimes : Retimes
  pub goes : Goes
  pub above-reload : AboveReload
  pub clamp-down : ClampDown
  pub ends : UpdateWithin
  -- "with its exact cases"
  pub clocks-agree : ClocksAgree
  pub writes-agree : WritesAgree
  -- "outside those cases the port is proved equal to the definition"
  pub deliveries-manual : Deliveries (λ t. manual) (λ t. Undisputed (rules_of t))
  pub writes-manual : Writes (λ t. manual) (λ t. OutsideWrite (rules_of t))
  -- events due and not delivered, deliveries one after the other
  pub late-writes : LateWrites
  pub deliveries-due : DeliveriesDue
  pub splits : Splits
  pub upward : Upward
  pub fits-stay : FitsStay
