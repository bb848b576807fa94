-- The exact cases of docs/DIFFERENCES.md that a clock can meet, each a test of the machine's state.
use Rattle.std.specs.Prelude.{Bool, true, false, cond, not, ◌&&◌, ◌||◌, ◌≡◌, ℕ, eqb, ltb, get_or}
use Rattle.rm0440.specs.Bits.{CEN, UDIS, OPM}
use Rattle.rm0440.specs.Rules.{Rules}
use Rattle.rm0440.specs.State.{Timer, ccr_of, is_output, down, CMS, with_count}
use Rattle.rm0440.specs.Clock.{wraps, wrapped, counted, equal, going}

-- this clock is a step of the counter, and its overflow or underflow
abbrev pub steps : Timer → Bool
steps t = t.on && not (ltb t.pre t.psc)

abbrev pub overflows : Rules → Timer → Bool
overflows r t = steps t && wraps r (with_count t true 0 t.cnt)

-- where that leaves the counter, before it is compared
abbrev pub next : Rules → Timer → Timer
next r t = let s = with_count t true 0 t.cnt in cond (wraps r s) (wrapped r s) (counted s)

abbrev pub some : (ℕ → Bool) → Bool
some f = f 0 || f 1 || f 2 || f 3

abbrev pub differ : Bool → Bool → Bool
differ a b = cond a (not b) b

-- "running, active reload 0"
abbrev pub reload-zero : Timer → Bool
reload-zero t = t.on && eqb t.arr 0

-- "running upward, counter above the active reload", and not blocked
abbrev pub above-reload : Rules → Timer → Bool
above-reload r t = going r t && (not (down t) && ltb t.arr t.cnt)

-- "CMS not 0, channels above 0"
abbrev pub centre-aligned : Timer → Bool
centre-aligned t = not (eqb t.channels 0) && not (eqb (CMS t.cr1) 0)

-- CEN is set and the counter not enabled: the clock after a start; with the Rust's rule also after one-pulse
abbrev pub start-delay : Timer → Bool
start-delay t = not t.on && CEN t.cr1

-- "OPM set at an overflow or underflow"; "OPM and UDIS set"
abbrev pub one-pulse : Rules → Timer → Bool
one-pulse r t = overflows r t && OPM t.cr1

abbrev pub one-pulse-udis : Rules → Timer → Bool
one-pulse-udis r t = overflows r t && (OPM t.cr1 && UDIS t.cr1)

-- "output channel, compare above the active reload", at an overflow or underflow
abbrev pub above : Timer → ℕ → Bool
above t ch = is_output t ch && ltb t.arr (ccr_of t ch)

abbrev pub compare-above-reload : Rules → Timer → Bool
compare-above-reload r t = overflows r t && some (above t)

-- an output's compare is met that the port's record calls done, or with one-pulse just ended
abbrev pub missed : Rules → Timer → ℕ → Bool
missed r t ch = is_output t ch && (equal t ch && not (going r t && not (get_or t.done ch false)))

abbrev pub done-equality : Rules → Timer → Bool
done-equality r t = steps t && some (missed r (next r t))

-- a rule is the manual's, or its case is not met
abbrev pub settled : Bool → Bool → Type 0
settled rule case = rule || not case ≡ true

-- this clock is outside every case that rules r leave to the Rust
pub record Outside (r : Rules) (t : Timer) : Type 0 where
  pub reload-zero-not : settled r.reload-zero (reload-zero t)
  pub above-reload-not : settled r.above-reload (above-reload r t)
  pub centre-aligned-not : settled r.centre-aligned (centre-aligned t)
  pub start-delay-not : settled r.start-delay (start-delay t)
  pub one-pulse-not : settled r.one-pulse (one-pulse r t)
  pub one-pulse-udis-not : settled r.one-pulse-udis (one-pulse-udis r t)
  pub compare-above-reload-not : settled r.compare-above-reload (compare-above-reload r t)
  pub done-equality-not : settled r.done-equality (done-equality r t)
