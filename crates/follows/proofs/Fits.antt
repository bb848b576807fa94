-- Clocks of the machine keep its reload, written and in use, within the timer's width. Assumes nothing.
use Prim.Native.Nat.{ℕ, zero, suc, ◌≤◌}
use mathlib.Core.Bool.{Bool, true}
use lib.Dec.{ltb}
use Rattle.rm0440.specs.Bits.{UDIS, OPM}
use Rattle.rm0440.specs.Rules.{Rules}
use Rattle.rm0440.specs.State.{Timer, reg, centre, with_count, with_sr, cc_flags, flag}
use Rattle.rm0440.specs.Clock.{wraps, restarted, loaded, pulse_ended, update_event, passes_over, wrapped, blocked, matched, stepped, clock, clocks}
use Rattle.tim.proofs.Fit.{either}
use Rattle.follows.specs.Follows.{FitsStay}

abbrev Fit : Timer → Type 0
Fit s = (s.arr ≤ s.max) × (reg s 11 ≤ s.max)

module _ (r : Rules) where
  fit-restarted : (s : Timer) → Fit s → Fit (restarted r s)
  unfolding restarted
  fit-restarted s f = either Fit (centre r s) f f

  fit-ended : (o : Bool) (s : Timer) → Fit s → Fit (pulse_ended r o s)
  unfolding pulse_ended
  fit-ended o s f = either Fit o f f

  fit-update : (s : Timer) → Fit s → Fit (update_event r s)
  unfolding update_event
  fit-update s f =
      either Fit (UDIS s.cr1)
      (either Fit r.one-pulse-udis (fit-restarted s f) (fit-ended (OPM s.cr1) (restarted r s) (fit-restarted s f)))
      (fit-ended (OPM s.cr1) (restarted r (flag 0 (loaded s))) (fit-restarted (flag 0 (loaded s)) (f.1, f.1)))

  fit-wrapped : (s : Timer) → Fit s → Fit (wrapped r s)
  unfolding wrapped
  fit-wrapped s f = fit-update (with_sr (cc_flags (passes_over r s) s.sr) s) f

  fit-stepped : (s : Timer) → Fit s → Fit (stepped r s)
  unfolding stepped matched
  fit-stepped s f = either Fit (wraps r s) (fit-wrapped s f) f

  fit-clock : (s : Timer) → Fit s → Fit (clock r s)
  unfolding clock
  fit-clock s f = either Fit s.on (either Fit (blocked r s) f (either Fit (ltb s.pre s.psc) f (fit-stepped (with_count s true 0 s.cnt) f))) f

  fit-clocks : (m : ℕ) (s : Timer) → Fit s → Fit (clocks r m s)
  unfolding clocks
  fit-clocks zero s f = f
  fit-clocks (suc m) s f = fit-clock (clocks r m s) (fit-clocks m s f)

pub fits-stay : FitsStay
fits-stay r s m f g = (fit-clocks r m s (f, g)).0
