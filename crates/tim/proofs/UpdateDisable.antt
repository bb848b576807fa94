-- What F-11 changes, "only with both bits set in manual mode": with UDIS or one-pulse clear, or the mode off, an update is as before. Assumes nothing.
use mathlib.Core.Path.{◌≡◌, refl, sym, ap}
use mathlib.Core.Bool.{Bool, true, false, cond, not, ◌&&◌, false≢true}
use Prim.Native.Nat.{ℕ}
use Rattle.rm0440.specs.Bits.{UDIS, OPM}
use Rattle.tim.specs.declared.Timer.{Timer}
use Rattle.tim.specs.Timer.{with_cr1}
use Rattle.tim.specs.Change.{reloaded, restarted, recomputed_after_update, with_running, without_cen, ended, updated}
use Rattle.tim.proofs.Fit.{either}

-- both bits set, in manual mode
abbrev pub both_set : Timer → Bool
both_set t = t.inst.manual && (UDIS t.regs.cr1 && OPM t.regs.cr1)

-- before F-11 one-pulse ended with the period, UDIS set or not
abbrev pub ended_before : Timer → Timer
ended_before t =
    with_running (with_cr1 t (cond (OPM t.regs.cr1 && t.inst.manual) (without_cen t.regs.cr1) t.regs.cr1)) (cond (OPM t.regs.cr1) false t.count.running)

abbrev pub updated_before : Timer → ℕ → ℕ → Timer
updated_before t at div = ended_before (recomputed_after_update (restarted (reloaded t) at div))

same_end : (m u o : Bool) → m && (u && o) ≡ false → o && not (m && u) ≡ o
same_end false u true h = refl
same_end false u false h = refl
same_end true false true h = refl
same_end true false false h = refl
same_end true true true h = sym h
same_end true true false h = refl

pub ends-as-before : (t : Timer) → both_set t ≡ false → ended t ≡ ended_before t
unfolding ended
ends-as-before t h =
    ap (λ (b : Bool). with_running (with_cr1 t (cond (b && t.inst.manual) (without_cen t.regs.cr1) t.regs.cr1)) (cond b false t.count.running))
    (same_end t.inst.manual (UDIS t.regs.cr1) (OPM t.regs.cr1) h)

-- an update loads neither bit nor the mode
pub updates-as-before : (t : Timer) (at div : ℕ) → both_set t ≡ false → updated t at div ≡ updated_before t at div
unfolding updated recomputed_after_update restarted reloaded
updates-as-before t at div h =
    ends-as-before (recomputed_after_update (restarted (reloaded t) at div)) (either (λ (s : Timer). both_set s ≡ false) (UDIS t.regs.cr1) h h)

-- with both set in manual mode nothing ends: the timer runs on, CEN as it was
pub goes_on : (t : Timer) → both_set t ≡ true → ended t ≡ t
unfolding ended
goes_on t h =
    ap (λ (b : Bool). with_running (with_cr1 t (cond (b && t.inst.manual) (without_cen t.regs.cr1) t.regs.cr1)) (cond b false t.count.running))
    (none t.inst.manual (UDIS t.regs.cr1) (OPM t.regs.cr1) h)
  where
    none : (m u o : Bool) → m && (u && o) ≡ true → o && not (m && u) ≡ false
    none true true true h = refl
    none true true false h = refl
    none true false o h = absurd (false≢true h)
    none false u o h = absurd (false≢true h)
