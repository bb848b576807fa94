-- A call that leaves the pilot's timer, signal and pin alone leaves what the record tells. Assumes nothing.
use Prim.Native.Nat.{ℕ}
use native.Mathlib.Nat.{le_refl}
use mathlib.Core.Path.{◌≡◌, refl, sym, ap, subst, ◌∙◌}
use mathlib.Core.List.{List, [], ◌∷◌, ◌++◌}
use borrow.Author.Tests.{ne_eqb}
use Rattle.tim.specs.declared.Timer.{Timer}
use Rattle.tim.specs.declared.Inst.{Inst}
use Rattle.tim.specs.declared.Chan.{Chan}
use Rattle.tim.specs.declared.Count.{Count}
use Rattle.tim.specs.Next.{next_steps, consider, compares}
use Rattle.clk.specs.declared.ClockTree.{ClockTree}
use Rattle.clk.specs.Clk.{timer_div}
use Rattle.book.specs.Book.{Entry}
use Rattle.machine.specs.Board.{Board, Pads, timer_at}
use Rattle.machine.specs.Call.{Outcome}
use Rattle.machine.specs.Sound.{Sound, SoundPads, Held}
use Rattle.machine.proofs.Reach.{Spared, Calm, Rest}
use Rattle.book.specs.Level.{level_at}
use Rattle.accuracy.proofs.Levels.{Silent, level-append, Upward, upward-then}
use Rattle.accuracy.proofs.Aim.{Aim, signal_of, due, Fixed, Phase, coming, in_period}
use Rattle.accuracy.proofs.Drive.{wired-held}
use Rattle.accuracy.proofs.Record.{Told}
use Rattle.accuracy.proofs.Own.{Kept}

-- ---- entries of other pins

spared-level : (pin : ℕ) (es : List Entry) → Spared pin es → (l c : ℕ) → level_at pin es l c ≡ l
unfolding level_at
spared-level pin [] h l c = refl
spared-level pin (e ∷ es) h l c = rw (ne_eqb e.pin pin h.0) (spared-level pin es h.1 l c)

upward-spared : (pin d : ℕ) (es : List Entry) → Spared pin es → Upward pin d es d
unfolding Upward
upward-spared pin d [] h = le_refl d
upward-spared pin d (e ∷ es) h = (λ x. absurd (h.0 x), rw (ne_eqb e.pin pin h.0) (upward-spared pin d es h.1))

pub spared-silent : (pin : ℕ) (es : List Entry) → Spared pin es → Silent pin es
spared-silent pin es h = record { stays = spared-level pin es h; upward = λ d. upward-spared pin d es h }

-- ---- a timer with other CR2, SMCR, DIER and SR

abbrev quieted : Timer → ℕ → ℕ → ℕ → ℕ → Timer
quieted t cr2 smcr dier sr = record {
  inst = t.inst;
  regs = record { cr1 = t.regs.cr1; cr2 = cr2; smcr = smcr; dier = dier; sr = sr; ccer = t.regs.ccer; psc = t.regs.psc; arr = t.regs.arr };
  chan = t.chan;
  count = t.count;
}

together : (f : Inst → Chan → Count → ℕ → ℕ → ℕ → ℕ → Timer) (i i₁ : Inst) (h h₁ : Chan) (k k₁ : Count) (w w₁ x x₁ y y₁ z z₁ : ℕ)
    → i ≡ i₁ → h ≡ h₁ → k ≡ k₁ → w ≡ w₁ → x ≡ x₁ → y ≡ y₁ → z ≡ z₁ → f i h k w x y z ≡ f i₁ h₁ k₁ w₁ x₁ y₁ z₁
together f i i₁ h h₁ k k₁ w w₁ x x₁ y y₁ z z₁ a b c d e g j = cc

calm-is : (t u : Timer) → Calm t u → u ≡ quieted t u.regs.cr2 u.regs.smcr u.regs.dier u.regs.sr
calm-is t u c =
    together
    (λ (i : Inst) (h : Chan) (k : Count) (w x y z : ℕ). record {
      inst = i;
      regs = record { cr1 = w; cr2 = u.regs.cr2; smcr = u.regs.smcr; dier = u.regs.dier; sr = u.regs.sr; ccer = x; psc = y; arr = z };
      chan = h;
      count = k;
    })
    u.inst t.inst u.chan t.chan u.count t.count u.regs.cr1 t.regs.cr1 u.regs.ccer t.regs.ccer u.regs.psc t.regs.psc u.regs.arr t.regs.arr
    c.inst c.chan c.count c.cr1 c.ccer c.psc c.arr

module _ (a : Aim) (t : Timer) (w x y z : ℕ) where
  fixed-quiet : Fixed a t → Fixed a (quieted t w x y z)
  fixed-quiet f = f

  steps-quiet : next_steps (quieted t w x y z) ≡ next_steps t
  unfolding next_steps consider compares
  steps-quiet = refl

  due-quiet : due (quieted t w x y z) ≡ due t
  due-quiet = rw steps-quiet

  phase-quiet : Phase a t → Phase a (quieted t w x y z)
  phase-quiet (coming p) = coming (record { update = p.update })
  phase-quiet (in_period k p) = in_period k (record { base-is = p.base-is; cnt-is = p.cnt-is; passed = λ e le. rw steps-quiet (p.passed e le) })

-- ---- the record

module _ (a : Aim) (pin l₀ : ℕ) where
  told-quiet : (t : Timer) (p : Pads) (es : List Entry) (w x y z : ℕ) → Told a pin l₀ t p es → Told a pin l₀ (quieted t w x y z) p es
  told-quiet t p es w x y z h = record {
    drives = h.drives;
    fixed = fixed-quiet a t w x y z h.fixed;
    phase = phase-quiet a t w x y z h.phase;
    wired = h.wired;
    past = λ c from to. h.past c from (rw (due-quiet a t w x y z) at to);
    present = λ c le. h.present c (rw (due-quiet a t w x y z) at le);
    ordered = subst (λ (d : ℕ). Upward pin 0 es d) (sym (due-quiet a t w x y z)) h.ordered;
  }

  told-calm : (t u : Timer) (p : Pads) (es : List Entry) → Calm t u → Told a pin l₀ t p es → Told a pin l₀ u p es
  told-calm t u p es c h =
      subst (λ (v : Timer). Told a pin l₀ v p es) (sym (calm-is t u c)) (told-quiet t p es u.regs.cr2 u.regs.smcr u.regs.dier u.regs.sr h)

  due-calm : (t u : Timer) → Calm t u → due u ≡ due t
  due-calm t u c = ap due (calm-is t u c) ∙ due-quiet a t u.regs.cr2 u.regs.smcr u.regs.dier u.regs.sr

  told-held : (t : Timer) (p q : Pads) (es fs : List Entry) → SoundPads q → Held (signal_of a) pin p q → Silent pin fs → Told a pin l₀ t p es → Told a pin l₀ t q (es ++ fs)
  told-held t p q es fs sound k s h = record {
    drives = h.drives;
    fixed = h.fixed;
    phase = h.phase;
    wired = wired-held (signal_of a) pin p q h.wired sound k;
    past = λ c from to. level-append pin es fs l₀ c ∙ s.stays (level_at pin es l₀ c) c ∙ h.past c from to;
    present = λ c le. level-append pin es fs l₀ c ∙ s.stays (level_at pin es l₀ c) c ∙ h.present c le ∙ sym k.shown;
    ordered = upward-then pin 0 es (due t) fs (due t) h.ordered (s.upward (due t));
  }

  -- a call that leaves the pilot alone
  pub kept-rest : (i from : ℕ) (b : Board) (es : List Entry) (o : Outcome) → Sound o.board → Rest i (signal_of a) pin b o
      → Kept a pin l₀ i from b es → Kept a pin l₀ i from o.board (es ++ o.entries)
  kept-rest i from b es o sound r k = record {
    here = rw r.past.timers k.here;
    divider = ap (λ (t : ClockTree). timer_div t a.apb) r.past.tree ∙ k.divider;
    told = told-held (timer_at o.board i) b.pads o.board.pads es o.entries sound.pads r.past.held (spared-silent pin o.entries r.spared)
        (told-calm (timer_at b i) (timer_at o.board i) b.pads es r.past.timer k.told);
    later = rw (due-calm (timer_at b i) (timer_at o.board i) r.past.timer) k.later;
  }
