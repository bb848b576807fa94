-- One event of a timer that runs the programmed pilot: it goes on running it, and until the next event the wave has the level that the
-- event drives. Assumes nothing.
use Prim.Native.Nat.{ℕ, zero, suc, ◌+◌, ◌-◌, ◌*◌, ◌≤◌, ◌<◌}
use mathlib.Core.Path.{◌≡◌, refl, sym, ap, subst, ◌∙◌}
use mathlib.Core.Logic.{◌⊎◌, inl, inr}
use mathlib.Core.Bool.{Bool, true, false, not, ◌&&◌}
use mathlib.Core.List.{List, [], ◌∷◌}
use native.Mathlib.Nat.{mul-le-mul_right, sub-zero, min-eq_left, min-eq_right}
use native.Mathlib.Omega.{arith}
use lib.Dec.{ltb, leb}
use lib.ListN.{get_or, set}
use borrow.Author.Tests.{ltb-true, ltb-false, leb-true, leb-false, lt-ltb, le-ltb, le-leb, not-true}
use Rattle.rm0440.specs.Bits.{UDIS}
use Rattle.rm0440.specs.Update.{shadow}
use Rattle.rm0440.specs.Output as Out
use Rattle.tim.specs.declared.Timer.{Timer}
use Rattle.tim.specs.declared.Next.{Next}
use Rattle.tim.specs.declared.Next.TheVariants.{Update, Compare}
use Rattle.tim.specs.Timer.{is_output, ccr_in_use}
use Rattle.tim.specs.Next.{compare_steps, compares, waiting, ahead, next_steps}
use Rattle.tim.specs.Change as C
use Rattle.tim.proofs.Laws.{ends-never}
use Rattle.stepping.proofs.Agrees.{next-best}
use Rattle.gpio.specs.Gpio.{bit}
use Rattle.machine.specs.Deliver.{applied, count_at}
use Rattle.accuracy.proofs.Tests.{never}
use Rattle.std.specs.Cmp.{first_so, second_so}
use Rattle.accuracy.proofs.Wave.{wave, wave-in}
use Rattle.accuracy.proofs.Aim.{Aim, period, high, Fixed, due, Coming, InPeriod, Phase, coming, in_period, Goes}

-- ---- which channels are done

-- a channel that is not done after another was set, was not done before
undone-before : (d : List Bool) (j i : ℕ) → get_or (set d j true) i false ≡ false → get_or d i false ≡ false
undone-before [] j i e = refl
undone-before (x ∷ d) zero zero e = absurd (never (sym e))
undone-before (x ∷ d) zero (suc i) e = e
undone-before (x ∷ d) (suc j) zero e = e
undone-before (x ∷ d) (suc j) (suc i) e = undone-before d j i e

-- one that is done, was done before or is the one set
done-before : (d : List Bool) (j i : ℕ) → get_or (set d j true) i false ≡ true → (get_or d i false ≡ true) ⊎ (i ≡ j)
done-before [] j i e = inl e
done-before (x ∷ d) zero zero e = inr refl
done-before (x ∷ d) zero (suc i) e = inl e
done-before (x ∷ d) (suc j) zero e = inl e
done-before (x ∷ d) (suc j) (suc i) e = go (done-before d j i e)
  where
    go : (get_or d i false ≡ true) ⊎ (i ≡ j) → (get_or d i false ≡ true) ⊎ (suc i ≡ suc j)
    go (inl h) = inl h
    go (inr h) = inr (ap suc h)

-- of four
of_four : (f : ℕ → Bool) (i : ℕ) → get_or (f 0 ∷ f 1 ∷ f 2 ∷ f 3 ∷ []) i false ≡ true → f i ≡ true
of_four f zero e = e
of_four f (suc zero) e = e
of_four f (suc (suc zero)) e = e
of_four f (suc (suc (suc zero))) e = e
of_four f (suc (suc (suc (suc i)))) e = absurd (never e)

-- ---- the next event

module _ (a : Aim) (t : Timer) (f : Fixed a t) where
  pub steps-upto : (next_steps t).steps ≤ a.reload + 1 - t.count.cnt0
  steps-upto = rw (← f.arr-act) (rw f.upward at (next-best t).by-update)

  pub output-is : (x : ℕ) → C.output t a.ch x ≡ ltb x a.compare
  unfolding C.output Out.ocref
  output-is x = rw (f.output, f.enabled, f.polarity, f.mode, f.upward, f.ccr-act)

  -- a compare that is next is between the counter and the reload
  picked-at : (j : ℕ) → compares t j ≡ true → (t.count.cnt0 ≤ ccr_in_use t j) × (ccr_in_use t j ≤ a.reload)
  unfolding compares
  picked-at j e =
      let g : ahead t j ≡ true = second_so (waiting t j) (ahead t j) e in
      let lo : Bool = leb t.count.cnt0 (ccr_in_use t j) in
      let hi : Bool = leb (ccr_in_use t j) t.count.arr_act in
      let h : lo && hi ≡ true = rw f.upward at g in
      (leb-true _ _ (first_so lo hi h), rw (← f.arr-act) (leb-true _ _ (second_so lo hi h)))

  -- the pilot's own compare, where it is not done
  own-compares : get_or t.chan.cc_done a.ch false ≡ false → t.count.cnt0 ≤ a.compare → a.compare ≤ a.reload → compares t a.ch ≡ true
  unfolding compares
  own-compares e lo hi =
      rw (e, f.output, f.upward, f.ccr-act, f.arr-act) (rw (le-leb t.count.cnt0 a.compare lo, le-leb a.compare a.reload hi))

  own-near : get_or t.chan.cc_done a.ch false ≡ false → t.count.cnt0 ≤ a.compare → a.compare ≤ a.reload → (next_steps t).steps ≤ a.compare
  own-near e lo hi =
      let s : compare_steps t a.ch ≡ a.compare - t.count.cnt0 = rw (f.upward, f.ccr-act) in
      omega (arith, (next-best t).by-compare a.ch f.four (own-compares e lo hi))

-- a compare event: no other becomes due before it
module _ (t : Timer) (j : ℕ) where
  still-compares : (i : ℕ) → compares (C.compared t j) i ≡ true → compares t i ≡ true
  unfolding compares C.compared C.matched
  still-compares i e =
      let d : Bool = get_or (set t.chan.cc_done j true) i false in
      let w : not d && is_output t i ≡ true = first_so (not d && is_output t i) (ahead t i) e in
      let u = undone-before t.chan.cc_done j i (not-true d (first_so (not d) (is_output t i) w)) in
      rw (u, second_so (not d) (is_output t i) w) (second_so (not d && is_output t i) (ahead t i) e)

  compared-later : (next_steps t).steps ≤ (next_steps (C.compared t j)).steps
  unfolding C.compared C.matched
  compared-later = go (next_steps (C.compared t j)).next refl
    where
      go : (e : Next) → (next_steps (C.compared t j)).next ≡ e → (next_steps t).steps ≤ (next_steps (C.compared t j)).steps
      go Update e = rw ((next-best (C.compared t j)).update-is e) (next-best t).by-update
      go (Compare i) e =
          let p = (next-best (C.compared t j)).compare-is i e in
          rw p.steps-are ((next-best t).by-compare i p.below (still-compares i p.compares-so))

-- ---- the wave between two events

-- in the period k, from x steps on and up to y steps: no more than the compare's, while the count is below it
span-at : (a : Aim) (k x y r : ℕ) → (x < a.compare → a.compare ≤ a.reload → y ≤ a.compare) → y ≤ a.reload + 1
    → x * a.tick ≤ r → r < y * a.tick → wave (period a) (high a) a.first (a.first + k * period a + r) ≡ bit (ltb x a.compare)
span-at a k x y r near le from to =
    wave-in (period a) (high a) a.first k r (omega (arith, mul-le-mul_right a.tick le)) ∙ go (ltb x a.compare) refl
  where
    below : (b : Bool) → leb a.compare a.reload ≡ b → x < a.compare → r < high a
    below true e h =
        let l : a.compare ≤ a.reload + 1 = omega (arith, leb-true) in
        rw (min-eq_left l) (omega (arith, mul-le-mul_right a.tick (near h (leb-true _ _ e))))
    below false e h =
        let l : a.reload + 1 ≤ a.compare = omega (arith, leb-false) in
        rw (min-eq_right l) (omega (arith, mul-le-mul_right a.tick le))

    above : (b : Bool) → leb a.compare a.reload ≡ b → a.compare ≤ x → high a ≤ r
    above true e h =
        let l : a.compare ≤ a.reload + 1 = omega (arith, leb-true) in
        rw (min-eq_left l) (omega (arith, mul-le-mul_right a.tick h))
    above false e h =
        let l : a.reload + 1 ≤ a.compare = omega (arith, leb-false) in
        let g : a.reload + 1 ≤ x = omega arith in
        rw (min-eq_right l) (omega (arith, mul-le-mul_right a.tick g))

    go : (b : Bool) → ltb x a.compare ≡ b → bit (ltb r (high a)) ≡ bit b
    go true e = ap bit (lt-ltb r (high a) (below (leb a.compare a.reload) refl (ltb-true x a.compare e)))
    go false e = ap bit (le-ltb r (high a) (above (leb a.compare a.reload) refl (ltb-false x a.compare e)))

span : (a : Aim) (k x y b c : ℕ) → b ≡ a.first + k * period a → (x < a.compare → a.compare ≤ a.reload → y ≤ a.compare) → y ≤ a.reload + 1
    → b + x * a.tick ≤ c → c < b + y * a.tick → wave (period a) (high a) a.first c ≡ bit (ltb x a.compare)
span a k x y b c at near le from to =
    let s : a.first + k * period a + (c - b) ≡ c = omega arith in
    ap (wave (period a) (high a) a.first) (sym s) ∙ span-at a k x y (c - b) near le (omega arith) (omega arith)

-- ---- an event keeps the settings

by-udis : (P : Timer → Type 0) (b : Bool) {x y : Timer} → P x → P y → P (shadow b x y)
by-udis P true p q = q
by-udis P false p q = p

module _ (a : Aim) (t : Timer) (f : Fixed a t) where
  fixed-compared : (j : ℕ) → Fixed a (C.compared t j)
  unfolding C.compared C.matched
  fixed-compared j = f

  fixed-reloaded : Fixed a (C.reloaded t)
  unfolding C.reloaded
  fixed-reloaded =
      by-udis (Fixed a) (UDIS t.regs.cr1)
      (record {
        number = f.number;
        bus = f.bus;
        channel = f.channel;
        four = f.four;
        running = f.running;
        upward = f.upward;
        one-pulse = f.one-pulse;
        psc-is = f.psc-is;
        psc-act = f.psc-is;
        arr_is = f.arr_is;
        arr-act = f.arr_is;
        ccr-is = f.ccr-is;
        ccr-act = f.ccr-is;
        tick_is = f.tick_is;
        step_is = f.step_is;
        output = f.output;
        enabled = f.enabled;
        polarity = f.polarity;
        mode = f.mode;
        above_zero = f.above_zero;
      })
      f

  fixed-over : (at : ℕ) → Fixed a (C.recomputed_after_update (C.restarted t at a.div))
  unfolding C.recomputed_after_update C.restarted
  fixed-over at = record {
    number = f.number;
    bus = f.bus;
    channel = f.channel;
    four = f.four;
    running = f.running;
    upward = f.upward;
    one-pulse = f.one-pulse;
    psc-is = f.psc-is;
    psc-act = f.psc-act;
    arr_is = f.arr_is;
    arr-act = f.arr-act;
    ccr-is = f.ccr-is;
    ccr-act = f.ccr-act;
    tick_is = rw f.psc-act f.step_is;
    step_is = f.step_is;
    output = f.output;
    enabled = f.enabled;
    polarity = f.polarity;
    mode = f.mode;
    above_zero = f.above_zero;
  }

  -- one-pulse is clear, so nothing ends
  fixed-restarted : (at : ℕ) → Fixed a (C.ended (C.recomputed_after_update (C.restarted t at a.div)))
  fixed-restarted at = subst (Fixed a) (sym (ends-never (C.recomputed_after_update (C.restarted t at a.div)) (fixed-over at).one-pulse)) (fixed-over at)

  -- after an update a channel is done only if its compare is above the reload
  passed-restarted : (at : ℕ) → get_or (C.ended (C.recomputed_after_update (C.restarted t at a.div))).chan.cc_done a.ch false ≡ true → a.reload < a.compare
  unfolding C.ended C.recomputed_after_update C.restarted
  passed-restarted at e =
      let s : Timer = C.restarted t at a.div in
      let h : C.done_after_update s a.ch ≡ true = of_four (C.done_after_update s) a.ch e in
      ltb-true _ _ (rw (lt-ltb a.ch t.inst.channels f.channel, f.arr-act, f.ccr-act) at h)

pub fixed-updated : (a : Aim) (t : Timer) → Fixed a t → (at : ℕ) → Fixed a (C.updated t at a.div)
unfolding C.updated
fixed-updated a t f at = fixed-restarted a (C.reloaded t) (fixed-reloaded a t f) at

passed-updated : (a : Aim) (t : Timer) → Fixed a t → (at : ℕ) → get_or (C.updated t at a.div).chan.cc_done a.ch false ≡ true → a.reload < a.compare
unfolding C.updated
passed-updated a t f at = passed-restarted a (C.reloaded t) (fixed-reloaded a t f) at

-- counting starts again at 0, at the update's own cycle
updated-base : (t : Timer) (at div : ℕ) → (C.updated t at div).count.base ≡ at
unfolding C.updated C.ended C.recomputed_after_update C.restarted
updated-base t at div = refl

updated-cnt : (a : Aim) (t : Timer) → Fixed a t → (at : ℕ) → (C.updated t at a.div).count.cnt0 ≡ 0
unfolding C.updated C.ended C.recomputed_after_update C.restarted
updated-cnt a t f at = rw (fixed-reloaded a t f).upward

-- ---- one event

module _ (a : Aim) (t : Timer) (f : Fixed a t) where
  module _ (j : ℕ) (next : (next_steps t).next ≡ Compare j) where
    -- before the first update: no cycle of the wave yet
    compare-coming : Coming a t → Goes a t (C.compared t j) (ccr_in_use t j)
    unfolding C.compared C.matched
    compare-coming p =
        let g = fixed-compared a t f j in
        record {
          fixed = g;
          phase = coming (record { update = p.update });
          later = omega (arith, mul-le-mul_right t.count.tick (compared-later t j));
          wave-is = λ c from at to.
              let up = steps-upto a (C.compared t j) g in
              let tick : (next_steps (C.compared t j)).steps * t.count.tick ≡ (next_steps (C.compared t j)).steps * a.tick = rw f.tick_is in
              omega (arith, mul-le-mul_right a.tick up, p.update);
        }

    compare-in : (k : ℕ) → InPeriod a k t → Goes a t (C.compared t j) (ccr_in_use t j)
    unfolding C.compared C.matched
    compare-in k p = record {
      fixed = g;
      phase = in_period k (record { base-is = p.base-is; cnt-is = p.cnt-is; passed = λ e le. passed (done-before t.chan.cc_done j a.ch e) le });
      later = omega (arith, mul-le-mul_right t.count.tick (compared-later t j));
      wave-is = λ c from at to.
          span a k (ccr_in_use t j) (next_steps (C.compared t j)).steps t.count.base c p.base-is
          (λ l le. near l le (get_or (set t.chan.cc_done j true) a.ch false) refl) (omega (arith, steps-upto a (C.compared t j) g))
          (rw (← count, ← f.tick_is) at) (rw (← f.tick_is) to);
    }
      where
        g : Fixed a (C.compared t j)
        g = fixed-compared a t f j

        count : (next_steps t).steps ≡ ccr_in_use t j
        count =
            let q = (next-best t).compare-is j next in
            let s : compare_steps t j ≡ ccr_in_use t j - t.count.cnt0 = rw f.upward in
            omega (arith, q.steps-are, p.cnt-is)

        passed : (get_or t.chan.cc_done a.ch false ≡ true) ⊎ (a.ch ≡ j) → a.compare ≤ a.reload → a.compare ≤ (next_steps (C.compared t j)).steps
        passed (inl e) le = omega (arith, p.passed e le, compared-later t j)
        passed (inr e) le = omega (arith, count, compared-later t j, ap (ccr_in_use t) e, f.ccr-act)

        near : ccr_in_use t j < a.compare → a.compare ≤ a.reload → (d : Bool) → get_or (set t.chan.cc_done j true) a.ch false ≡ d
            → (next_steps (C.compared t j)).steps ≤ a.compare
        near l le true e = late (done-before t.chan.cc_done j a.ch e)
          where
            late : (get_or t.chan.cc_done a.ch false ≡ true) ⊎ (a.ch ≡ j) → (next_steps (C.compared t j)).steps ≤ a.compare
            late (inl d) = omega (arith, count, p.passed d le)
            late (inr d) = omega (arith, ap (ccr_in_use t) d, f.ccr-act)
        near l le false e = own-near a (C.compared t j) g e (omega (arith, p.cnt-is)) le

  -- an update, at its own cycle: a period begins
  update-in : (k : ℕ) → (next_steps t).next ≡ Update → due t ≡ a.first + k * period a → Goes a t (C.updated t (due t) a.div) 0
  update-in k next at = record {
    fixed = g;
    phase = in_period k (record { base-is = updated-base t (due t) a.div ∙ at; cnt-is = zeroed; passed = λ e le. omega (arith, passed-updated a t f (due t) e) });
    later = omega (arith, updated-base t (due t) a.div);
    wave-is = λ c from at₁ to.
        span a k 0 (next_steps t₁).steps (due t) c at
        (λ l le. near l le (get_or t₁.chan.cc_done a.ch false) refl) (omega (arith, steps-upto a t₁ g, zeroed))
        (omega arith) (omega (arith, ap (λ (x : ℕ). (next_steps t₁).steps * x) g.tick_is, updated-base t (due t) a.div));
  }
    where
      t₁ : Timer
      t₁ = C.updated t (due t) a.div

      g : Fixed a t₁
      g = fixed-updated a t f (due t)

      zeroed : t₁.count.cnt0 ≡ 0
      zeroed = updated-cnt a t f (due t)

      near : 0 < a.compare → a.compare ≤ a.reload → (d : Bool) → get_or t₁.chan.cc_done a.ch false ≡ d → (next_steps t₁).steps ≤ a.compare
      near l le true e = omega (arith, passed-updated a t f (due t) e)
      near l le false e = own-near a t₁ g e (omega (arith, zeroed)) le

  update-at : (next_steps t).next ≡ Update → due t ≡ t.count.base + (a.reload + 1 - t.count.cnt0) * a.tick
  update-at next = rw ((next-best t).update-is next, f.upward, f.arr-act, f.tick_is)

  at_zero : Goes a t (C.updated t (due t) a.div) 0 → Goes a t (C.updated t (due t) a.div) (C.updated t (due t) a.div).count.cnt0
  at_zero = subst (Goes a t (C.updated t (due t) a.div)) (sym (updated-cnt a t f (due t)))

  -- whatever is next
  pub goes : (e : Next) → (next_steps t).next ≡ e → Phase a t → Goes a t (applied t e (due t) a.div) (count_at (applied t e (due t) a.div) e)
  unfolding C.compared C.matched
  goes (Compare j) next (coming p) = compare-coming j next p
  goes (Compare j) next (in_period k p) = compare-in j next k p
  goes Update next (coming p) = at_zero (update-in 0 next (omega (arith, update-at next, p.update)))
  goes Update next (in_period k p) = at_zero (update-in (suc k) next (update-at next ∙ rw (p.base-is, p.cnt-is, sub-zero (a.reload + 1)) (omega arith)))
