-- One clock of the kernel clock: prescaler, counter, overflow and underflow, update event, matches (RM0440, "Time-base unit", "Counter modes",
-- "Output compare mode", "One-pulse mode", TIMx_CR1, TIMx_SR, TIMx_ARR).
use Rattle.std.specs.Prelude.{Bool, true, false, cond, not, ◌&&◌, ◌||◌, List, ℕ, zero, suc, ◌+◌, ◌-◌, ◌%◌, eqb, ltb, leb, get_or, set}
use Rattle.rm0440.specs.Bits.{is_set, CEN, UDIS, OPM}
use Rattle.rm0440.specs.Output as Out
use Rattle.rm0440.specs.Rules.{Rules}
use Rattle.rm0440.specs.State.{Timer, reg, each, in_turn, ccr_of, mode, is_output, down, centre, CMS, with_shadows, with_count, with_matches, with_cr1, with_sr, with_bit, flag, cc_flags}

-- ---- the counter

-- the step from this count is the overflow or the underflow.
-- "Center-aligned mode: counts from 0 to the auto-reload value - 1, generates an overflow, then counts from the auto-reload
-- value down to 1 and generates an underflow." Upward above the reload the manual has no value to meet but the largest.
unfoldable pub wraps : Rules → Timer → Bool
wraps r t =
    cond (centre r t) (cond (down t) (leb t.cnt 1) (eqb (t.cnt + 1) t.arr))
    (cond (down t) (eqb t.cnt 0)
    (cond r.above-reload (eqb t.cnt t.arr || eqb t.cnt t.max) (leb t.arr t.cnt)))

-- a step that is neither
abbrev pub counted : Timer → Timer
counted t = with_count t t.on 0 (cond (down t) (t.cnt - 1) (t.cnt + 1))

-- where counting goes on after one: upward from 0, downward from the reload; centre-aligned it turns
unfoldable pub restarted : Rules → Timer → Timer
restarted r t =
    cond (centre r t)
    (with_cr1 (with_bit 4 (not (down t)) t.cr1) (with_count t t.on 0 (cond (down t) 0 t.arr)))
    (with_count t t.on 0 (cond (down t) t.arr 0))

-- ---- the update event

-- "the auto-reload shadow register is updated with the preload value, the prescaler is reloaded", and the compares
abbrev pub loaded : Timer → Timer
loaded t = with_shadows t (reg t 10) (reg t 11) t.compares

-- "One-pulse mode: the counter stops at the next update event (clearing the bit CEN)"; the Rust leaves CEN
unfoldable pub pulse_ended : Rules → Bool → Timer → Timer
pulse_ended r opm t = cond opm (with_cr1 (cond r.one-pulse (t.cr1 - t.cr1 % 2) t.cr1) (with_count t false t.pre t.cnt)) t

-- "UDIS: the update event is not generated, shadow registers keep their value"; then the manual's one-pulse goes on (F-11)
unfoldable pub update_event : Rules → Timer → Timer
update_event r t =
    cond (UDIS t.cr1)
    (cond r.one-pulse-udis (restarted r t) (pulse_ended r (OPM t.cr1) (restarted r t)))
    (pulse_ended r (OPM t.cr1) (restarted r (flag 0 (loaded t))))

-- "CCxIF: if the compare is above the reload, set on the overflow, or on the underflow in downcounting mode"
abbrev pub passes_over : Rules → Timer → ℕ → Bool
passes_over r t ch = r.compare-above-reload && (is_output t ch && ltb t.arr (ccr_of t ch)) && not (centre r t && down t)

-- the Rust's record of matches, after an overflow, an underflow or UG
abbrev pub all_ahead : Timer → Timer
all_ahead t = with_matches t t.ref (each (λ ch. cond (ltb ch t.channels) (ltb t.arr (ccr_of t ch)) false))

unfoldable pub wrapped : Rules → Timer → Timer
wrapped r t = all_ahead (update_event r (with_sr (cc_flags (passes_over r t) t.sr) t))

-- ---- a match

-- OCxREF of the channels of which f is true, by their mode
abbrev pub latched : (ℕ → Bool) → Timer → List Bool
latched f t = in_turn (λ ch l. cond (f ch) (set l ch (Out.at_match (mode t ch) (get_or l ch false))) l) t.ref

-- a match of the channels of which f is true: its flag where flags are set, OCxREF, and the Rust's record
abbrev pub marked : Bool → (ℕ → Bool) → Timer → Timer
marked flagged f t = with_matches (with_sr (cond flagged (cc_flags f t.sr) t.sr) t) (latched f t) (in_turn (λ ch l. cond (f ch) (set l ch true) l) t.done)

-- "TIMx_ARR: the counter is blocked while the auto-reload value is null" (F-6: with no part of a step kept)
abbrev pub blocked : Rules → Timer → Bool
blocked r t = r.reload-zero && eqb t.arr 0

-- the counter goes on
abbrev pub going : Rules → Timer → Bool
going r t = not (blocked r t) && t.on

abbrev pub equal : Timer → ℕ → Bool
equal t ch = eqb t.cnt (ccr_of t ch)

-- "CMS 01: compare flags are set only when the counter is counting down; 10: up; 11: both". The flags only: F-8, "every match is an event, and
-- latching output modes act on it"
abbrev pub flags : Rules → Timer → Bool
flags r t = not (centre r t) || is_set (cond (down t) 0 1) (CMS t.cr1)

-- "when a match is found between the compare register and the counter", just after a step. The Rust asks that it is still to
-- come in this period, and that the counter goes on.
abbrev pub meets : Rules → Timer → ℕ → Bool
meets r t ch = is_output t ch && (equal t ch && (r.done-equality || (going r t && not (get_or t.done ch false))))

unfoldable pub matched : Rules → Timer → Timer
matched r t = marked (flags r t) (meets r t) t

-- ---- the clock

-- "The counter is clocked by the prescaler output": one step of it
unfoldable pub stepped : Rules → Timer → Timer
stepped r t = matched r (cond (wraps r t) (wrapped r t) (counted t))

-- one kernel clock. "The actual counter enable signal CNT_EN is set one clock cycle after CEN."
unfoldable pub clock : Rules → Timer → Timer
clock r t =
    cond t.on
    (cond (blocked r t) (with_count t true 0 t.cnt)
    (cond (ltb t.pre t.psc) (with_count t true (t.pre + 1) t.cnt) (stepped r (with_count t true 0 t.cnt))))
    (with_count t (r.start-delay && CEN t.cr1) t.pre t.cnt)

unfoldable pub clocks : Rules → ℕ → Timer → Timer
clocks r zero t = t
clocks r (suc n) t = clock r (clocks r n t)
