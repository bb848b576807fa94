-- Demand 3, clause by clause. "After every list of the board's calls from the first board, however late the deliveries fell: a steady pilot in
-- PWM mode 1 started upward holds H high cycles in any W consecutive cycles from the first update to the last full delivery, with
-- H × P and W × D at most D × (P − D) apart. One claim about the list."
use Rattle.std.specs.Prelude.{◌≡◌, Bool, true, false, cond, not, ◌&&◌, ◌||◌, List, [], ◌∷◌, ◌++◌, ℕ, ◌+◌, ◌-◌, ◌*◌, ◌≤◌, ◌<◌, min, eqb, get_or}
use Rattle.rm0440.specs.Bits.{CEN, OPM, DIR}
use Rattle.rm0440.specs.Counter.{step_cycles}
use Rattle.rm0440.specs.Output as Out
use Rattle.tim.specs.declared.Timer.{Timer}
use Rattle.tim.specs.Timer.{is_output, oc_mode, ccr_in_use}
use Rattle.sig.specs.Signal.{tim_signal}
use Rattle.gpio.specs.Gpio.{alternate_mode}
use Rattle.book.specs.Book.{Entry}
use Rattle.book.specs.Level.{level_at, highs}
use Rattle.machine.specs.Board.{Board, timer_at, gpio_at, first_board}
use Rattle.machine.specs.Sys.{driver}
use Rattle.machine.specs.Deliver.{divider_of}
use Rattle.machine.specs.Call.{pin_setting, outside_drive, pin_reset, writing, resetting, delivery, Call, set_up, clock_tree, enable, clear_pending, ask, lend, write, if_lent, if_delivery, Outcome, is_refusal}
use Rattle.machine.specs.Step.{step, run, board_after, clock_on, register}

-- ---- the start: "CEN went from 0 to 1 at cycle s (upward: with DIR 0)", by a write that was served

pub record Started (b : Board) (timer offset size value s places : ℕ) : Type 0 where
  pub served : (step b (write timer offset size value s places)).number ≡ 0
  pub was-off : CEN (timer_at b timer).regs.cr1 ≡ false
  pub is-on : CEN (timer_at (step b (write timer offset size value s places)).board timer).regs.cr1 ≡ true
  pub upward : DIR (timer_at (step b (write timer offset size value s places)).board timer).regs.cr1 ≡ false

-- ---- the settings on the board that the start left

pub record Settings (b : Board) (timer ch pin : ℕ) : Type 0 where
  -- "Only timers 2, 3 and 4 drive"
  pub drives : driver (timer_at b timer).inst.n ≡ true
  -- "prescaler, reload and compare active as written"
  pub prescaler : (timer_at b timer).count.psc_act ≡ (timer_at b timer).regs.psc
  pub reload : (timer_at b timer).count.arr_act ≡ (timer_at b timer).regs.arr
  pub compare : ccr_in_use (timer_at b timer) ch ≡ get_or (timer_at b timer).chan.ccr ch 0
  -- "one-pulse clear"
  pub one-pulse : OPM (timer_at b timer).regs.cr1 ≡ false
  -- "channel below the timer's channel count, an output, enabled, polarity 0", "in PWM mode 1"
  pub channel : ch < (timer_at b timer).inst.channels
  pub output : is_output (timer_at b timer) ch ≡ true
  pub enabled : Out.CCxE ch (timer_at b timer).regs.ccer ≡ true
  pub polarity : Out.CCxP ch (timer_at b timer).regs.ccer ≡ false
  pub mode : oc_mode (timer_at b timer) ch ≡ Out.pwm_mode1
  -- "pin in alternate mode, push-pull, set to that channel and the last pin to take or leave it"; that it is the last follows, since a pin in
  -- alternate mode routes the signal that it is set to (document 02, F-4; crates/machine/specs/Sockets.antt)
  pub alternate : (gpio_at b.pads pin).cfg.mode ≡ alternate_mode
  pub push-pull : (gpio_at b.pads pin).cfg.open_drain ≡ false
  pub set_to : (gpio_at b.pads pin).sig ≡ tim_signal (timer_at b timer).inst.n ch
  -- "The period rule of document 01 then reads "reload above 0" for manual mode, and so does the accuracy rule there" (F-6)
  pub above_zero : (timer_at b timer).inst.manual ≡ true → 0 < (timer_at b timer).regs.arr

-- ---- since then: "refused calls aside, the timer got only reads, peeks, deliveries and writes to SR, DIER, CR2, SMCR; the clock tree and
-- that pin stayed untouched, .. no set-up or pin reset came". "The steady pilot conditions no longer need their clause about another pin" (F-4)

-- "writes to SR, DIER, CR2, SMCR"; a write that the clock gate stops does not reach the timer
abbrev pub quiet_register : ℕ → Bool
quiet_register off = eqb off 0x04 || (eqb off 0x08 || (eqb off 0x0c || eqb off 0x10))

-- a served call that leaves the pilot of a timer on a pin steady. Not needed, and not asked: that an outside drive spares the pin
unfoldable pub steady_call : ℕ → ℕ → Board → Call → Bool
steady_call timer pin b (set_up _) = false
steady_call timer pin b (clock_tree _ _) = false
steady_call timer pin b (enable _ _) = true
steady_call timer pin b (clear_pending _) = true
steady_call timer pin b (ask _) = true
steady_call timer pin b (lend (pin_setting q mode od out pu pd f) _ _) = not (eqb q pin)
steady_call timer pin b (lend (outside_drive _ _) _ _) = true
steady_call timer pin b (lend pin_reset _ _) = false
steady_call timer pin b (lend (writing i offset size value) _ _) =
    not (eqb i timer) || (quiet_register (register offset) || not (clock_on b (timer_at b timer)))
steady_call timer pin b (lend (resetting i) _ _) = not (eqb i timer)
steady_call timer pin b (lend (delivery _) _ _) = true

-- "refused calls aside": every other call of the list, on the board that it arrives at
unfoldable pub steady : ℕ → ℕ → Board → List Call → Bool
steady timer pin b [] = true
steady timer pin b (c ∷ cs) = (is_refusal (step b c).number || steady_call timer pin b c) && steady timer pin (step b c).board cs

-- ---- the span: "from the first update to the last full delivery"

-- "The first update's due cycle, UDIS set or not, is s + (reload + 1 − counter) × t", on the board that the start left
abbrev pub first_update : Timer → ℕ → ℕ → ℕ
first_update t s cycles = s + (t.count.arr_act + 1 - t.count.cnt0) * cycles

-- the cycle after a call, if it is a delivery to the timer
unfoldable pub delivered_at : ℕ → Call → ℕ → ℕ
delivered_at timer c other = if_lent (λ k cycle places. if_delivery (λ i. cond (eqb i timer) (cycle + 1) other) other k) other c

-- the cycle after the timer's last delivery answered 0; 0 where there is none
unfoldable pub covered : ℕ → Board → List Call → ℕ → ℕ
covered timer b [] end = end
covered timer b (c ∷ cs) end = covered timer (step b c).board cs (cond (eqb (step b c).number 0) (delivered_at timer c end) end)

-- ---- H: "A pin's level at a cycle is that of its last entry at or before it, in the entries of all calls after the start, joined in order,
-- else its level on the board that the start left; H counts cycles at level 1."

unfoldable pub joined : List Outcome → List Entry
joined [] = []
joined (o ∷ os) = o.entries ++ joined os

-- ---- the bound: "H × P and W × D at most D × (P − D) apart"

pub record WithinBound (H W P D : ℕ) : Type 0 where
  pub above : H * P ≤ W * D + D * (P - D)
  pub below : W * D ≤ H * P + D * (P - D)

-- t: "(active prescaler + 1) × divider cycles"; P: a period of reload + 1 steps; D: the high steps, at most the period
abbrev pub cycles_of : Board → ℕ → ℕ
cycles_of b timer = step_cycles (timer_at b timer).regs.psc (divider_of b (timer_at b timer))

abbrev pub period_of : Board → ℕ → ℕ
period_of b timer = cycles_of b timer * ((timer_at b timer).regs.arr + 1)

abbrev pub high_of : Board → ℕ → ℕ → ℕ
high_of b timer ch = cycles_of b timer * min (get_or (timer_at b timer).chan.ccr ch 0) ((timer_at b timer).regs.arr + 1)

-- ---- the claim: for every list of calls before the start, every start, every list after it, every channel and pin, every window

pub record Pilot : Type 0 where
  pub before : List Call
  pub timer : ℕ
  pub offset : ℕ
  pub size : ℕ
  pub value : ℕ
  pub s : ℕ
  pub places : ℕ
  pub after : List Call
  pub ch : ℕ
  pub pin : ℕ

-- the board that the start arrives at, and the one that it leaves
abbrev pub board₀ : Pilot → Board
board₀ π = board_after first_board π.before

abbrev pub board₁ : Pilot → Board
board₁ π = (step (board₀ π) (write π.timer π.offset π.size π.value π.s π.places)).board

abbrev pub timer₁ : Pilot → Timer
timer₁ π = timer_at (board₁ π) π.timer

-- the pin's level at each cycle, by the record
abbrev pub recorded : Pilot → ℕ → ℕ
recorded π = level_at π.pin (joined (run (board₁ π) π.after)) (gpio_at (board₁ π).pads π.pin).pin.level

pub record Steady (π : Pilot) : Type 0 where
  pub started : Started (board₀ π) π.timer π.offset π.size π.value π.s π.places
  pub settings : Settings (board₁ π) π.timer π.ch π.pin
  pub since : steady π.timer π.pin (board₁ π) π.after ≡ true

pub record Window (π : Pilot) (a W : ℕ) : Type 0 where
  pub from : first_update (timer₁ π) π.s (cycles_of (board₁ π) π.timer) ≤ a
  pub to : a + W ≤ covered π.timer (board₁ π) π.after 0

abbrev pub Claim : Type 0
Claim =
    (π : Pilot) → Steady π → (a W : ℕ) → Window π a W
    → WithinBound (highs (recorded π) a W) W (period_of (board₁ π) π.timer) (high_of (board₁ π) π.timer π.ch)
