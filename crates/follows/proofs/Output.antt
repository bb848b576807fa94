-- Between events the output stays, edge and centre modes alike: what the port drove last is the machine's level at every cycle. Assumes nothing.
use Prim.Native.Nat.{ℕ, zero, suc, ◌+◌, ◌-◌, ◌/◌, ◌%◌, ◌≤◌, ◌<◌}
use mathlib.Core.Path.{◌≡◌, refl, sym, ap, ◌∙◌}
use mathlib.Core.Bool.{Bool, true, false, cond, not, ◌&&◌}
use mathlib.Core.Logic.{◌⊎◌, inl, inr}
use native.Mathlib.Nat.{eq-or-lt_of_le, le_of_suc-le-suc}
use native.Mathlib.Omega.{arith}
use lib.Dec.{eqb, ltb, leb}
use lib.ListN.{get_or}
use borrow.Author.Tests.{ltb-true, ltb-false, leb-true, leb-false, eqb-false, lt-ltb, le-ltb, le-leb, lt-leb}
use Rattle.rm0440.specs.Output as Out
use Rattle.tim.specs.declared.Timer.{Timer}
use Rattle.tim.specs.declared.Ahead.{Ahead}
use Rattle.tim.specs.Timer as T
use Rattle.tim.specs.Change as C
use Rattle.rm0440.specs.Rules.{manual_mode, Taken}
use Rattle.rm0440.specs.State as M
use Rattle.rm0440.specs.Clock.{meets}
use Rattle.rm0440.specs.Level.{level}
use Rattle.follows.proofs.Leap as Leap
use Rattle.follows.specs.Seen.{raw, clocks_at, per}
use Rattle.follows.proofs.Event.{next, not_yet, meets-is}
use Rattle.follows.proofs.First.{turn_steps}
use Rattle.follows.proofs.Port.{centre, next_steps, seen, Runs}
use Rattle.follows.proofs.Between.{seen_at, next-same, best}

-- ---- the level changes at a match or a turn only

-- a step on the way that does not meet the compare keeps the level
step-level : (c : Bool) (a : ℕ) (d : Bool) (x v j : ℕ) → suc j < turn_steps c a d x → (cond d (x - suc j) (x + suc j) ≡ v → ⊥)
    → Out.pwm1 d (cond d (x - suc j) (x + suc j)) v ≡ Out.pwm1 d (cond d (x - j) (x + j)) v
step-level c a true x v j h ne = go (leb (x - j) v) refl (inside c h)
  where
    inside : (c : Bool) → suc j < x + cond c 0 1 → suc j ≤ x
    inside true h = omega arith
    inside false h = omega arith

    go : (b : Bool) → leb (x - j) v ≡ b → suc j ≤ x → leb (x - suc j) v ≡ b
    go true e l = le-leb (x - suc j) v (omega (arith, leb-true (x - j) v e))
    go false e l = by (eq-or-lt_of_le (leb-false (x - j) v e))
      where
        by : (suc v ≡ x - j) ⊎ (suc v < x - j) → leb (x - suc j) v ≡ false
        by (inl q) = absurd (ne (omega arith))
        by (inr q) = lt-leb (x - suc j) v (omega arith)
step-level c a false x v j h ne = go (ltb (x + j) v) refl
  where
    go : (b : Bool) → ltb (x + j) v ≡ b → ltb (x + suc j) v ≡ b
    go false e = le-ltb (x + suc j) v (omega (arith, ltb-false (x + j) v e))
    go true e = by (eq-or-lt_of_le (ltb-true (x + j) v e))
      where
        by : (suc (x + j) ≡ v) ⊎ (suc (x + j) < v) → ltb (x + suc j) v ≡ true
        by (inl q) = absurd (ne (omega arith))
        by (inr q) = lt-ltb (x + suc j) v (omega arith)

output-at : (t : Timer) (p j ch : ℕ) → level (Leap.at (raw t) p j) ch ≡ C.output t ch (Leap.onward (raw t) j)
unfolding level C.output
output-at t p j ch = refl

-- of an output that is not done, a count that matches nothing is not its compare
unequal : (o e d : Bool) → o && (e && not d) ≡ false → o ≡ true → d ≡ false → e ≡ false
unequal true false d h p q = refl
unequal true true false h p q = h
unequal true true true h p q = absurd (let z : ◌≡◌ {A = ℕ} 0 1 = cc in omega arith)
unequal false e d h p q = absurd (let z : ◌≡◌ {A = ℕ} 0 1 = cc in omega arith)

module _ (m : Taken) (t : Timer) (div : ℕ) (w : Runs m t div) (ch : ℕ) (four : ch < 4) where
  -- at the step after j no compare is met that the record calls done (done-equality)
  abbrev pub Kept : ℕ → Type 0
  Kept j = get_or t.chan.cc_done ch false ≡ true → T.is_output t ch ≡ true → Leap.onward (raw t) (suc j) ≡ T.ccr_in_use t ch → ⊥

  apart : (j : ℕ) → suc j < (next_steps m t).steps → Kept j → T.is_output t ch ≡ true → Leap.onward (raw t) (suc j) ≡ T.ccr_in_use t ch → ⊥
  apart j h k o = go (get_or t.chan.cc_done ch false) refl
    where
      go : (d : Bool) → get_or t.chan.cc_done ch false ≡ d → Leap.onward (raw t) (suc j) ≡ T.ccr_in_use t ch → ⊥
      go true e = k e o
      go false e =
          let s : suc j < (next (manual_mode m) (raw t)).steps = rw (ap (λ (a : Ahead). a.steps) (next-same m t div w)) at h in
          let n : meets (manual_mode m) (Leap.at (raw t) 0 (suc j)) ch ≡ false = not_yet (manual_mode m) (raw t) refl refl w.free (suc j) s ch four in
          eqb-false _ _ (unequal (T.is_output t ch) (eqb (Leap.onward (raw t) (suc j)) (T.ccr_in_use t ch)) (get_or t.chan.cc_done ch false)
          (sym (meets-is (manual_mode m) (raw t) refl refl w.free (suc j) ch) ∙ n) o e)

  -- a step before the next event keeps the level
  one-step : (j : ℕ) → suc j < (next_steps m t).steps → Kept j → C.output t ch (Leap.onward (raw t) (suc j)) ≡ C.output t ch (Leap.onward (raw t) j)
  unfolding C.output Out.ocref
  one-step j h k = go (T.is_output t ch) refl
    where
      go : (o : Bool) → T.is_output t ch ≡ o
          → Out.level (cond o (Out.CCxE ch t.regs.ccer) false) (Out.CCxP ch t.regs.ccer) (C.ocref t ch (Leap.onward (raw t) (suc j)))
          ≡ Out.level (cond o (Out.CCxE ch t.regs.ccer) false) (Out.CCxP ch t.regs.ccer) (C.ocref t ch (Leap.onward (raw t) j))
      go false e = refl
      go true e =
          ap (λ (p : Bool). Out.level (Out.CCxE ch t.regs.ccer) (Out.CCxP ch t.regs.ccer)
          (cond (eqb (T.oc_mode t ch) 4) false (cond (eqb (T.oc_mode t ch) 5) true (cond (eqb (T.oc_mode t ch) 6) p (cond (eqb (T.oc_mode t ch) 7) (not p) (get_or t.chan.oc ch false))))))
          (step-level (centre m t) t.count.arr_act (T.down t) t.count.cnt0 (T.ccr_in_use t ch) j (omega (arith, (best m t div w).by-update)) (apart j h k e))

  -- from step k on, up to the next event
  pub from_step : (k j : ℕ) → k ≤ j → j < (next_steps m t).steps → ((i : ℕ) → k ≤ i → suc i < (next_steps m t).steps → Kept i)
      → C.output t ch (Leap.onward (raw t) j) ≡ C.output t ch (Leap.onward (raw t) k)
  from_step k zero le h kept = let e : k ≡ 0 = omega arith in rw e
  from_step k (suc j) le h kept = go (λ (l : k ≤ j). from_step k j l (omega arith) kept) (eq-or-lt_of_le le)
    where
      go : (k ≤ j → C.output t ch (Leap.onward (raw t) j) ≡ C.output t ch (Leap.onward (raw t) k)) → (k ≡ suc j) ⊎ (k < suc j)
          → C.output t ch (Leap.onward (raw t) (suc j)) ≡ C.output t ch (Leap.onward (raw t) k)
      go ih (inl e) = rw e
      go ih (inr l) = one-step j h (kept j (le_of_suc-le-suc l) h) ∙ ih (le_of_suc-le-suc l)

  -- the machine's level at a cycle before the next event
  pub level-at : (c : ℕ) → clocks_at t div c / per t < (next_steps m t).steps → level (seen m t div c) ch ≡ C.output t ch (Leap.onward (raw t) (clocks_at t div c / per t))
  level-at c h =
      ap (λ (s : M.Timer). level s ch) (seen_at m t div w c (clocks_at t div c) refl (omega (arith, (best m t div w).by-update)))
      ∙ output-at t (clocks_at t div c % per t) (clocks_at t div c / per t) ch
