-- What is true of the event that next_steps picks. Assumes nothing.
use Prim.Native.Nat.{ℕ, suc, ◌+◌, ◌*◌, ◌≤◌, ◌<◌}
use mathlib.Core.Path.{◌≡◌, refl, sym, ap, ◌∙◌}
use mathlib.Core.Bool.{Bool, true, false, cond}
use mathlib.Core.Logic.{◌⊎◌, inl, inr}
use native.Mathlib.Omega.{arith}
use native.Mathlib.Nat.{eq-or-lt_of_le, le_refl, le_of_suc-le-suc}
use lib.Dec.{ltb}
use borrow.Author.Tests.{ltb-true, ltb-false}
use Rattle.tim.specs.declared.Timer.{Timer}
use Rattle.tim.specs.declared.Ahead.{Ahead}
use Rattle.tim.specs.declared.Next.{Next}
use Rattle.tim.specs.declared.Next.TheVariants.{Update, Compare}
use Rattle.tim.specs.declared.Due.TheVariants.{At, Stopped}
use Rattle.tim.specs.Count.{counts}
use Rattle.tim.specs.Next.{update_steps, compares, compare_steps, consider, next_steps, next_event}
use Rattle.stepping.specs.Reading.{Best}

pub event-runs : (t : Timer) → counts t ≡ true
    → next_event t ≡ At (t.count.base + (next_steps t).steps * t.count.tick) (next_steps t).next
unfolding next_event
event-runs t e = rw e

pub event-stopped : (t : Timer) → counts t ≡ false → next_event t ≡ Stopped
unfolding next_event
event-stopped t e = rw e

-- ---- the event picked

not_compare : (j : ℕ) → Update ≡ Compare j → ⊥
not_compare j e = let z : ◌≡◌ {A = ℕ} 0 1 = cc in omega arith

differ : (b : Bool) → b ≡ false → b ≡ true → ⊥
differ b e f = let z : ◌≡◌ {A = ℕ} 0 1 = cc in omega arith

same : (i j : ℕ) → Compare i ≡ Compare j → i ≡ j
same i j e = cc

module _ (t : Timer) where
  best_none : Best t 0 (record { steps = update_steps t; next = Update })
  best_none = record {
    by-update = le_refl (update_steps t);
    by-compare = λ i h e. absurd (omega arith);
    strictly = λ j e. absurd (not_compare j e);
    lowest = λ j e i h c. absurd (not_compare j e);
    update-is = λ e. refl;
    compare-is = λ j e. absurd (not_compare j e);
  }

  best-step : (n : ℕ) (best : Ahead) → Best t n best → Best t (suc n) (consider t n best)
  unfolding consider
  best-step n best b = go (compares t n) (ltb (compare_steps t n) best.steps) refl refl
    where
      up_to : (s : ℕ) → s ≤ best.steps → (compares t n ≡ true → s ≤ compare_steps t n)
          → (i : ℕ) → i < suc n → compares t i ≡ true → s ≤ compare_steps t i
      up_to s l own i h e = either (eq-or-lt_of_le (le_of_suc-le-suc h))
        where
          either : (i ≡ n) ⊎ (i < n) → s ≤ compare_steps t i
          either (inl q) = rw q (own (cc))
          either (inr q) = omega (arith, b.by-compare i q e)

      keep : (compares t n ≡ true → best.steps ≤ compare_steps t n) → Best t (suc n) best
      keep own = record {
        by-update = b.by-update;
        by-compare = up_to best.steps (le_refl best.steps) own;
        strictly = b.strictly;
        lowest = b.lowest;
        update-is = b.update-is;
        compare-is = λ j q. let p = b.compare-is j q in record { below = omega (arith, p.below); compares-so = p.compares-so; steps-are = p.steps-are };
      }

      go : (c l : Bool) → compares t n ≡ c → ltb (compare_steps t n) best.steps ≡ l
          → Best t (suc n) (cond c (cond l (record { steps = compare_steps t n; next = Compare n }) best) best)
      go false l e f = keep (λ g. absurd (differ (compares t n) e g))
      go true false e f = keep (λ g. ltb-false (compare_steps t n) best.steps f)
      go true true e f =
          let nearer : compare_steps t n < best.steps = ltb-true (compare_steps t n) best.steps f in
          record {
            by-update = omega (arith, b.by-update);
            by-compare = up_to (compare_steps t n) (omega arith) (λ g. le_refl (compare_steps t n));
            strictly = λ j q. omega (arith, b.by-update);
            lowest = λ j q i h g. omega (arith, b.by-compare i (omega (arith, same n j q)) g);
            update-is = λ q. absurd (not_compare n (sym q));
            compare-is = λ j q. let p = same n j q in record { below = omega arith; compares-so = rw p at e; steps-are = rw p };
          }

  pub best-next : Best t 4 (next_steps t)
  unfolding next_steps
  best-next = best-step 3 _ (best-step 2 _ (best-step 1 _ (best-step 0 _ best_none)))

  -- an update that is there already is the next event
  pub next-at-once : update_steps t ≡ 0 → next_steps t ≡ record { steps = 0; next = Update }
  next-at-once e = go (next_steps t).next refl
    where
      go : (x : Next) → (next_steps t).next ≡ x → next_steps t ≡ record { steps = 0; next = Update }
      go Update q =
          ap (λ (s : ℕ). record { steps = s; next = (next_steps t).next }) (best-next.update-is q ∙ e) ∙ ap (λ (x : Next). record { steps = 0; next = x }) q
      go (Compare j) q = absurd (omega (arith, best-next.strictly j q))
