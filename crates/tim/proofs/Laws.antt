-- Bounds of what the timer's definitions give. Assumes nothing.
use mathlib.Core.Path.{◌≡◌, refl, ap, sym, ◌∙◌}
use mathlib.Core.Bool.{beq, Bool, true, false, cond, not, ◌&&◌}
use mathlib.Core.List.{List, [], ◌∷◌}
use lib.ListN.{length, get_or}
use Rattle.std.proofs.Common.{Option, Some, None}
use Prim.Native.Nat.{ℕ, ◌+◌, ◌-◌, ◌*◌, ◌^◌, ◌≤◌, ◌<◌}
use lib.Dec.{ltb, leb, eqb}
use native.Mathlib.Omega.{arith}
use native.Mathlib.Nat.{add-zero, le_refl, le_trans, mul-le-mul}
use borrow.Author.Tests.{eq-eqb, ne_eqb, lt-ltb, le-ltb, ltb-true, leb-true, leb-false, eqb-true, eqb-false}
use mir.Val.{bool_byte}
use Rattle.tim.specs.declared.Timer.{Timer}
use Rattle.tim.specs.declared.Ahead.{Ahead}
use Rattle.tim.specs.declared.Next.TheVariants.{Compare}
use Rattle.tim.specs.declared.Due.TheVariants.{At, Stopped}
use Rattle.rm0440.specs.Bits.{UDIS, OPM}
use Rattle.rm0440.specs.Update.{shadow}
use Rattle.rm0440.specs.Output as Out
use Rattle.tim.specs.Timer.{down, Fit, with_cr1, ccr_in_use}
use Rattle.tim.specs.Count.{counts}
use Rattle.tim.specs.Change.{reloaded, loaded, with_flag, UIF, with_running, without_cen, pulse_ends, ended}
use Rattle.tim.specs.Next.{update_steps, ahead, waiting, compares, compare_steps, steps_to, nearer, consider, next_steps, next_event}

-- an event that is considered can only be nearer
consider-le : (t : Timer) (ch : ℕ) (best : Ahead) → (consider t ch best).steps ≤ best.steps
unfolding consider
consider-le t ch best = go (compares t ch) (ltb (compare_steps t ch) best.steps) refl
  where
    go : (b l : Bool) → ltb (compare_steps t ch) best.steps ≡ l
        → (cond b (cond l (record { steps = compare_steps t ch; next = Compare ch }) best) best).steps ≤ best.steps
    go false l e = le_refl best.steps
    go true false e = le_refl best.steps
    go true true e = omega (arith, ltb-true)

update-le : (t : Timer) → t.count.cnt0 < 4294967296 → t.count.arr_act < 4294967296 → update_steps t ≤ 4294967296
update-le t c a = go (down t)
  where
    go : (b : Bool) → cond b (t.count.cnt0 + 1) (t.count.arr_act + 1 - t.count.cnt0) ≤ 4294967296
    go true = omega arith
    go false = omega arith

-- the next event is at most 2^32 steps ahead
pub steps-le : (t : Timer) → t.count.cnt0 < 4294967296 → t.count.arr_act < 4294967296 → (next_steps t).steps ≤ 4294967296
unfolding next_steps
steps-le t c a =
    le_trans (consider-le t 3 _)
    (le_trans (consider-le t 2 _) (le_trans (consider-le t 1 _) (le_trans (consider-le t 0 _) (update-le t c a))))

-- an update loads a prescaler that fits
pub reloaded-psc : (t : Timer) → Fit t → (reloaded t).count.psc_act < 65536
unfolding reloaded
reloaded-psc t f = go (UDIS t.regs.cr1)
  where
    go : (b : Bool) → (shadow b (with_flag (loaded t) UIF) t).count.psc_act < 65536
    go true = f.psc_act-lt
    go false = f.psc-lt

-- the next event's cycle is below 2^64
pub due-fits : (t : Timer) → Fit t → t.count.cnt0 < 4294967296 → t.count.arr_act < 4294967296
    → t.count.base + (next_steps t).steps * t.count.tick < 2 ^ 64
due-fits t f c a =
    omega (arith, mul-le-mul {n₂ = 4294967296} {m₂ = 536870912} (steps-le t c a) f.tick-le, f.base-lt)

-- the next event of a timer that counts
pub next-runs : (t : Timer) → counts t ≡ true → At (t.count.base + (next_steps t).steps * t.count.tick) (next_steps t).next ≡ next_event t
unfolding next_event
next-runs t h = sym (ap (λ (b : Bool). cond b (At (t.count.base + (next_steps t).steps * t.count.tick) (next_steps t).next) Stopped) h)

-- two that differ: the one, turned where the other is true
pub differs : (r p : Bool) → not (beq r p) ≡ cond p (not r) r
differs true true = refl
differs true false = refl
differs false true = refl
differs false false = refl

-- a list of four is that of its elements
pub four_of : (xs : List Bool) (a b c d : Bool) → length xs ≡ 4 → get_or xs 0 false ≡ a → get_or xs 1 false ≡ b → get_or xs 2 false ≡ c → get_or xs 3 false ≡ d → xs ≡ a ∷ b ∷ c ∷ d ∷ []
four_of [] a b c d h p q r s = absurd (omega arith)
four_of (x ∷ []) a b c d h p q r s = absurd (omega arith)
four_of (x ∷ y ∷ []) a b c d h p q r s = absurd (omega arith)
four_of (x ∷ y ∷ z ∷ []) a b c d h p q r s = absurd (omega arith)
four_of (x ∷ y ∷ z ∷ w ∷ []) a b c d h p q r s = rw (p, q, r, s)
four_of (x ∷ y ∷ z ∷ w ∷ v ∷ xs) a b c d h p q r s = absurd (omega arith)

-- ---- the compares that can be next

-- a channel that is done, or no output, changes nothing
pub shut : (t : Timer) (ch : ℕ) (best : Ahead) → waiting t ch ≡ false → consider t ch best ≡ best
unfolding consider compares
shut t ch best h = rw h

-- any other counts if its compare lies ahead
pub opened : (t : Timer) (ch : ℕ) (best : Ahead) → waiting t ch ≡ true
    → consider t ch best ≡ cond (ahead t ch) (nearer (compare_steps t ch) ch best) best
unfolding consider compares
opened t ch best h = rw h

-- by the steps to its compare, if it lies ahead
considered-by : Timer → ℕ → Ahead → Option ℕ → Ahead
considered-by t ch best None = best
considered-by t ch best (Some n) = nearer n ch best

by-steps : (t : Timer) (ch : ℕ) (best : Ahead) → waiting t ch ≡ true
    → consider t ch best ≡ considered-by t ch best (steps_to t (ccr_in_use t ch))
unfolding considered-by
by-steps t ch best h =
    opened t ch best h ∙ go (down t) (leb (ccr_in_use t ch) t.count.cnt0) (leb t.count.cnt0 (ccr_in_use t ch)) (leb (ccr_in_use t ch) t.count.arr_act)
  where
    go : (d low high in_period : Bool)
        → cond (cond d low (high && in_period)) (nearer (cond d (t.count.cnt0 - ccr_in_use t ch) (ccr_in_use t ch - t.count.cnt0)) ch best) best
        ≡ considered-by t ch best (cond d (cond low (Some (t.count.cnt0 - ccr_in_use t ch)) None) (cond in_period (cond high (Some (ccr_in_use t ch - t.count.cnt0)) None) None))
    go true true h p = refl
    go true false h p = refl
    go false l true true = refl
    go false l true false = refl
    go false l false true = refl
    go false l false false = refl

pub steps-some : (t : Timer) (ch : ℕ) (best : Ahead) (n : ℕ) → waiting t ch ≡ true → steps_to t (ccr_in_use t ch) ≡ Some n
    → consider t ch best ≡ nearer n ch best
unfolding considered-by
steps-some t ch best n h e = by-steps t ch best h ∙ ap (considered-by t ch best) e

pub steps-none : (t : Timer) (ch : ℕ) (best : Ahead) → waiting t ch ≡ true → steps_to t (ccr_in_use t ch) ≡ None → consider t ch best ≡ best
unfolding considered-by
steps-none t ch best h e = by-steps t ch best h ∙ ap (considered-by t ch best) e

-- ---- the output reference

pub bit_le : (b : Bool) → bool_byte b ≤ 1
bit_le true = omega arith
bit_le false = omega arith

-- PWM mode 1 in one comparison: a count at the compare is still active downward
pub edge : (d : Bool) (cnt ccr : ℕ) → ltb cnt (ccr + bool_byte d) ≡ Out.pwm1 d cnt ccr
edge false cnt ccr = rw add-zero
edge true cnt ccr = go (leb cnt ccr) refl
  where
    go : (b : Bool) → leb cnt ccr ≡ b → ltb cnt (ccr + 1) ≡ b
    go true e = lt-ltb cnt (ccr + 1) (omega (arith, leb-true cnt ccr e))
    go false e = le-ltb cnt (ccr + 1) (omega (arith, leb-false cnt ccr e))

-- the forced modes
pub forced : (mode : ℕ) (d : Bool) (cnt ccr : ℕ) (l : Bool) → 4 ≤ mode → mode < 6 → eqb mode 5 ≡ Out.ocref mode d cnt ccr l
unfolding Out.ocref
forced mode d cnt ccr l h k = go (eqb mode 5) refl
  where
    go : (b : Bool) → eqb mode 5 ≡ b → b ≡ cond (eqb mode 4) false (cond b true (cond (eqb mode 6) (Out.pwm1 d cnt ccr) (cond (eqb mode 7) (not (Out.pwm1 d cnt ccr)) l)))
    go true e = rw (ne_eqb mode 4 (λ q. omega (arith, eqb-true mode 5 e, q)))
    go false e = rw (eq-eqb mode 4 (omega (arith, eqb-false mode 5 e)))

-- the modes that keep what the last match left
pub kept-ref : (mode : ℕ) (d : Bool) (cnt ccr : ℕ) (l : Bool) → mode < 4 → l ≡ Out.ocref mode d cnt ccr l
unfolding Out.ocref
kept-ref mode d cnt ccr l h =
    rw (ne_eqb mode 4 (λ q. omega (arith, q)), ne_eqb mode 5 (λ q. omega (arith, q)), ne_eqb mode 6 (λ q. omega (arith, q)), ne_eqb mode 7 (λ q. omega (arith, q)))

-- ---- what ends at an update, by OPM and manual mode

abbrev ended_by : Timer → Bool → Bool → Timer
ended_by t ends manual = with_running (with_cr1 t (cond (ends && manual) (without_cen t.regs.cr1) t.regs.cr1)) (cond ends false t.count.running)

pub ends : (t : Timer) (o m : Bool) → pulse_ends t ≡ o → t.inst.manual ≡ m → ended_by t o m ≡ ended t
unfolding ended
ends t o m e f = sym (ap (λ (b : Bool). ended_by t b t.inst.manual) e ∙ ap (ended_by t o) f)

pub ends-not : (t : Timer) → pulse_ends t ≡ false → ended t ≡ t
ends-not t e = sym (ends t false t.inst.manual e refl)

-- without one-pulse nothing ends
pub ends-never : (t : Timer) → OPM t.regs.cr1 ≡ false → ended t ≡ t
ends-never t e = ends-not t (ap (λ (o : Bool). o && not (t.inst.manual && UDIS t.regs.cr1)) e)
