-- "Why is this pilot low" (document 02, F-12): each reason is a test of the board, in a list; the answer is the first that is true.
-- Proved in proofs/Whys.antt (`explains : Explains`).
use Rattle.std.specs.Prelude.{Bool, true, false, cond, not, ◌&&◌, ◌||◌, List, [], ◌∷◌, ℕ, zero, suc, ◌+◌, ◌-◌, eqb, ltb, leb, get_or}
use Rattle.rm0440.specs.Output as Out
use Rattle.tim.specs.declared.Timer.{Timer}
use Rattle.tim.specs.declared.Inst.{Inst}
use Rattle.tim.specs.Timer.{down, oc_mode, is_output, ccr_in_use}
use Rattle.tim.specs.Count.{cnt_at}
use Rattle.tim.specs.Next.{next_event}
use Rattle.sig.specs.Signal.{tim_signal}
use Rattle.gpio.specs.declared.Gpio.{Gpio}
use Rattle.gpio.specs.declared.PinCfg.{PinCfg}
use Rattle.gpio.specs.Gpio.{signal_of, drives, output_mode, alternate_mode}
use Rattle.machine.specs.Board.{Board, timer_at, gpio_at, route_of, level_of}
use Rattle.machine.specs.Sys.{driver}
use Rattle.machine.specs.Deliver.{due_by}

-- ---- "the driving timer whose channel the pin's selected signal is, if there is one"

-- which channel of a timer signal s would be
abbrev pub channel_of : Inst → ℕ → ℕ
channel_of k s = s - tim_signal k.n 0

-- signal s is that of a channel of a timer, one of four and below its channel count, and the timer drives (2, 3 or 4)
unfoldable pub feeds : Inst → ℕ → Bool
feeds k s = driver k.n && (leb (tim_signal k.n 0) s && (ltb (channel_of k s) 4 && ltb (channel_of k s) k.channels))

-- the first of n timers from index i on that feeds signal s; the index behind them where none does
unfoldable pub feeder_from : ℕ → ℕ → Board → ℕ → ℕ
feeder_from zero i b s = i
feeder_from (suc n) i b s = cond (feeds (timer_at b i).inst s) i (feeder_from n (i + 1) b s)

-- of the timers "on this board"
abbrev pub feeder : Board → ℕ → ℕ
feeder b s = feeder_from b.counts.timers 0 b s

abbrev pub is_fed : Board → ℕ → Bool
is_fed b s = ltb (feeder b s) b.counts.timers

-- ---- 8, backlog: "when an event of the driving timer whose channel the pin's selected signal is, if there is one, is due at or before the cycle".
-- Due is the next event's own cycle. A pin that is not in alternate mode selects no signal.
abbrev pub timer_behind : Board → ℕ → ℕ → Bool
timer_behind b i cycle = ltb i b.counts.timers && due_by (next_event (timer_at b i)) cycle

abbrev pub is_behind : Board → ℕ → ℕ → Bool
is_behind b pin cycle = timer_behind b (feeder b (signal_of (gpio_at b.pads pin))) cycle

-- ---- the tests

-- "0 it is high"
abbrev pub is_high : Gpio → Bool
is_high g = eqb g.pin.level 1

-- "1 the pin is an input or analogue": "A mode above 3 acts as input"
abbrev pub drives_nothing : PinCfg → Bool
drives_nothing c = not (eqb c.mode output_mode || eqb c.mode alternate_mode)

-- "2 plain output with bit 0"
abbrev pub outputs_zero : PinCfg → Bool
outputs_zero c = eqb c.mode output_mode && eqb c.odr 0

abbrev pub is_alternate : Gpio → Bool
is_alternate g = eqb g.cfg.mode alternate_mode

-- "3 in alternate mode, but signal 0 is selected"
abbrev pub selects_none : Gpio → Bool
selects_none g = is_alternate g && eqb g.sig 0

-- "4 an open-drain 1 has released it": the output bit, or the level of a signal that drives the pin
unfoldable pub is_released : Gpio → ℕ → Bool
is_released g level =
    g.cfg.open_drain && cond (eqb g.cfg.mode output_mode) (eqb g.cfg.odr 1) (drives (signal_of g) && eqb level 1)

-- "7 the channel is off or no output": CCxE, CCxS
unfoldable pub is_off : Timer → ℕ → Bool
is_off t ch = not (is_output t ch && Out.CCxE ch t.regs.ccer)

-- "8 forced or latched level, modes 0 to 5"
abbrev pub is_held : Timer → ℕ → Bool
is_held t ch = leb (oc_mode t ch) 5

-- the way as of a cycle
abbrev pub way_at : Timer → ℕ → Bool
way_at t cycle = down t

-- "9 the counter's side of the compare in mode 6 or 7", at the count and way as of the cycle, with the polarity, is low
unfoldable pub counts_low : Timer → ℕ → ℕ → Bool
counts_low t ch cycle =
    leb 6 (oc_mode t ch)
    && not (Out.level true (Out.CCxP ch t.regs.ccer) (Out.ocref (oc_mode t ch) (way_at t cycle) (cnt_at t cycle) (ccr_in_use t ch) (get_or t.chan.oc ch false)))

-- ---- the list

-- of a pin, and the level that its selected signal was last driven to; whether a driving timer feeds that signal, whether the pin routes it;
-- the timer, and which channel of it the signal is. "Reasons 5 to 9 need alternate mode, 8 and 9 also a channel level last driven low, polarity included."
abbrev pub tests : Gpio → ℕ → Bool → Bool → Timer → ℕ → ℕ → List Bool
tests g level fed routed t ch cycle =
    is_high g
    ∷ drives_nothing g.cfg
    ∷ outputs_zero g.cfg
    ∷ selects_none g
    ∷ is_released g level
    -- "5 the signal belongs to no channel of a driving timer on this board"
    ∷ (is_alternate g && not fed)
    -- "6 this pin does not route it"
    ∷ (is_alternate g && not routed)
    ∷ (is_alternate g && (fed && is_off t ch))
    ∷ (is_alternate g && (fed && (is_held t ch && eqb level 0)))
    ∷ (is_alternate g && (fed && (counts_low t ch cycle && eqb level 0)))
    ∷ []

-- reasons 0 to 9 of a pin of the board at a cycle
unfoldable pub reasons : Board → ℕ → ℕ → List Bool
reasons b pin cycle =
    let g = gpio_at b.pads pin in
    let s = signal_of g in
    let t = timer_at b (feeder b s) in
    tests g (level_of b.pads s) (is_fed b s) (eqb (route_of b.pads s) pin) t (channel_of t.inst s) cycle

-- ---- the answer

-- "the first true reason": its place in the list, and behind the list, "10 none of these"
unfoldable pub first_true : List Bool → ℕ
first_true [] = 0
first_true (t ∷ ts) = cond t 0 (suc (first_true ts))

-- reason k is true of the board; "10 none of these" where it is reached
abbrev pub is_reason : Board → ℕ → ℕ → ℕ → Bool
is_reason b pin cycle k = get_or (reasons b pin cycle) k true

abbrev pub why_low : Board → ℕ → ℕ → ℕ
why_low b pin cycle = first_true (reasons b pin cycle)
