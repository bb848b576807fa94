-- With the rules that the port takes, in manual mode or not, its definitions over the period are tim's, of every timer. Assumes nothing.
use Prim.Native.Nat.{ℕ, zero, suc}
use mathlib.Core.Path.{◌≡◌, refl, ap, ◌∙◌}
use mathlib.Core.Bool.{Bool, true, false, cond, not, ◌&&◌}
use native.Mathlib.Omega.{arith}
use Rattle.rm0440.specs.Bits.{UDIS, OPM}
use Rattle.rm0440.specs.Rules.{port_takes}
use Rattle.tim.specs.declared.Timer.{Timer}
use Rattle.tim.specs.declared.Inst.{Inst}
use Rattle.tim.specs.declared.Due.{Due}
use Rattle.tim.specs.declared.Due.TheVariants.{At, Stopped}
use Rattle.tim.specs.declared.Next.TheVariants.{Update, Compare}
use Rattle.tim.specs.Timer as T
use Rattle.tim.specs.Count as K
use Rattle.tim.specs.Next as N
use Rattle.tim.specs.Change as C
use Rattle.tim.proofs.Fit.{either}
use Rattle.tim.proofs.Laws.{ends}
use Rattle.stepping.proofs.Synced.{runs_of, free_of}
use Rattle.tim.proofs.Fixed.{inst-reloaded, inst-updated, inst-compared}
use Rattle.follows.specs.Seen as S
use Rattle.follows.specs.Seen.{Timed, Within, due_by}
use Rattle.follows.proofs.Edge.{counted-place}
use Rattle.follows.proofs.First.{first}
use Rattle.follows.proofs.Port.{moves, cnt_at, cr1_at, next_steps, next_event, seen, pulse_ends, ended, updated, compared, applied, deliver, Runs}
use Rattle.follows.proofs.After.{over, cr1-reloaded}

module _ (p : Bool) (t : Timer) (is : t.inst.manual ≡ p) where
  pub moves-is : moves (port_takes p) t ≡ K.counts t
  moves-is = rw (← is)

  pub cnt-at : (c : ℕ) → cnt_at (port_takes p) t c ≡ K.cnt_at t c
  unfolding cnt_at K.cnt_at
  cnt-at c = rw (moves-is, counted-place (T.down t) t.count.arr_act t.count.cnt0 (K.ticks_at t c))

  cr1-at : (c : ℕ) → cr1_at (port_takes p) t c ≡ t.regs.cr1
  unfolding cr1_at
  cr1-at c = go (moves (port_takes p) t)
    where
      go : (b : Bool) → cond b t.regs.cr1 t.regs.cr1 ≡ t.regs.cr1
      go true = refl
      go false = refl

  pub seen-is : (div c : ℕ) → seen (port_takes p) t div c ≡ S.seen t div c
  seen-is div c = rw (cnt-at c, cr1-at c, moves-is)

  pub event-is : next_event (port_takes p) t ≡ N.next_event t
  unfolding next_event next_steps N.next_event N.next_steps N.consider first
  event-is = rw moves-is

  -- a timer that counts within its reload is on its course
  pub on-course : (div : ℕ) → Timed t div → K.counts t ≡ true → Within t → Runs (port_takes p) t div
  on-course div w r h = record {
    pos = w.pos;
    runs = runs_of t r;
    free = rw (← is) (free_of t r);
    timed = w.timed;
    sized = w.sized;
    stands = record { within = h r; up = λ e f. absurd (never e); downward = λ e f. absurd (never e) };
    small = λ e. absurd (never e);
    blocks = λ e. absurd (never e);
  }
    where
      never : false ≡ true → ⊥
      never e = let z : ◌≡◌ {A = ℕ} 0 1 = cc in omega arith

pub next-is : (p : Bool) (t : Timer) → next_steps (port_takes p) t ≡ N.next_steps t
unfolding next_steps N.next_steps N.consider first
next-is p t = refl

-- ---- events and deliveries

module _ (p : Bool) (t : Timer) (is : t.inst.manual ≡ p) where
  module _ (c div : ℕ) where
    abbrev u : Timer
    u = over (port_takes p) t c div

    cr1-over : u.regs.cr1 ≡ t.regs.cr1
    unfolding C.restarted C.recomputed_after_update
    cr1-over = cr1-reloaded (port_takes p) t c div

    manual-over : u.inst.manual ≡ p
    unfolding C.restarted C.recomputed_after_update
    manual-over = ap (λ (i : Inst). i.manual) (inst-reloaded t) ∙ is

    pub updated-is : updated (port_takes p) t c div ≡ C.updated t c div
    unfolding updated C.updated
    updated-is = go (pulse_ends (port_takes p) t.regs.cr1) refl
      where
        same : C.pulse_ends u ≡ pulse_ends (port_takes p) t.regs.cr1
        same =
            ap (λ (v : ℕ). OPM v && not (u.inst.manual && UDIS v)) cr1-over ∙ ap (λ (m : Bool). OPM t.regs.cr1 && not (m && UDIS t.regs.cr1)) manual-over

        go : (o : Bool) → pulse_ends (port_takes p) t.regs.cr1 ≡ o → ended (port_takes p) o u ≡ C.ended u
        go true e = ends u true p (same ∙ e) manual-over
        go false e = ends u false p (same ∙ e) manual-over

  applied-is : (div : ℕ) (e : Due) → applied (port_takes p) t div e ≡ S.applied t div e
  unfolding compared C.compared C.matched
  applied-is div (At x Update) = updated-is x div
  applied-is div (At x (Compare ch)) = refl
  applied-is div Stopped = refl

  manual-applied : (div : ℕ) (e : Due) → (S.applied t div e).inst.manual ≡ p
  manual-applied div (At x Update) = ap (λ (i : Inst). i.manual) (inst-updated t x div) ∙ is
  manual-applied div (At x (Compare ch)) = ap (λ (i : Inst). i.manual) (inst-compared t ch) ∙ is
  manual-applied div Stopped = is

deliver-step : (p : Bool) (f c div : ℕ) (t : Timer) → t.inst.manual ≡ p
    → ((u : Timer) → u.inst.manual ≡ p → deliver (port_takes p) f c div u ≡ S.deliver f c div u)
    → cond (due_by (next_event (port_takes p) t) c) (deliver (port_takes p) f c div (applied (port_takes p) t div (next_event (port_takes p) t))) t
    ≡ cond (due_by (N.next_event t) c) (S.deliver f c div (S.applied t div (N.next_event t))) t
deliver-step p f c div t is ih =
    ap (λ (e : Due). cond (due_by e c) (deliver (port_takes p) f c div (applied (port_takes p) t div e)) t) (event-is p t is)
    ∙ ap (λ (u : Timer). cond (due_by (N.next_event t) c) u t)
    (ap (deliver (port_takes p) f c div) (applied-is p t is div (N.next_event t)) ∙ ih (S.applied t div (N.next_event t)) (manual-applied p t is div (N.next_event t)))

pub deliver-is : (p : Bool) (f c div : ℕ) (t : Timer) → t.inst.manual ≡ p → deliver (port_takes p) f c div t ≡ S.deliver f c div t
unfolding deliver S.deliver
deliver-is p zero c div t is = refl
deliver-is p (suc f) c div t is = deliver-step p f c div t is (deliver-is p f c div)

-- events leave the mode
pub manual-left : (p : Bool) (f c div : ℕ) (t : Timer) → t.inst.manual ≡ p → (S.deliver f c div t).inst.manual ≡ p
unfolding S.deliver
manual-left p zero c div t is = is
manual-left p (suc f) c div t is =
    either (λ (u : Timer). u.inst.manual ≡ p) (due_by (N.next_event t) c) (manual-left p f c div (S.applied t div (N.next_event t)) (manual-applied p t is div (N.next_event t))) is
