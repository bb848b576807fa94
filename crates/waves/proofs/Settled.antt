-- After an event the level stays up to the next one, from the count at which the outputs were driven. Assumes nothing.
use Prim.Native.Nat.{ℕ, zero, suc, ◌+◌, ◌-◌, ◌≤◌, ◌<◌}
use mathlib.Core.Path.{◌≡◌, refl, sym, ap, ◌∙◌, subst}
use mathlib.Core.Bool.{Bool, true, false, cond, not, ◌&&◌}
use mathlib.Core.List.{List, [], ◌∷◌}
use native.Mathlib.Omega.{arith}
use lib.Dec.{eqb, ltb, leb}
use lib.ListN.{get_or, set}
use lib.Seq.{get_or-set_other}
use borrow.Author.Tests.{ltb-true, leb-true, eqb-true, eqb-false}
use Rattle.tim.specs.declared.Timer.{Timer}
use Rattle.tim.specs.declared.Next.{Next}
use Rattle.tim.specs.declared.Next.TheVariants.{Update, Compare}
use Rattle.tim.specs.Timer.{down, is_output, ccr_in_use}
use Rattle.tim.specs.Count.{counts}
use Rattle.tim.specs.Next.{update_steps, waiting, ahead, compares, next_steps}
use Rattle.tim.specs.Change as T
use Rattle.tim.proofs.Laws.{ends-not}
use Rattle.stepping.proofs.Nearest.{best-next}
use Rattle.stepping.proofs.Synced.{runs_of}
use Rattle.follows.specs.Seen.{Within}
use Rattle.follows.proofs.Leap.{both}
use Rattle.waves.specs.Waves.{onward, Settled}

-- ---- a compare

-- the count that it comes to is the compare's
comes-to : (d : Bool) (cnt arr x : ℕ) → cond d (leb x cnt) (leb cnt x && leb x arr) ≡ true → cond d (cnt - cond d (cnt - x) (x - cnt)) (cnt + cond d (cnt - x) (x - cnt)) ≡ x
comes-to true cnt arr x e = omega (arith, leb-true x cnt e)
comes-to false cnt arr x e = omega (arith, leb-true cnt x (both (leb cnt x) (leb x arr) e).0)

pub compare-count : (t : Timer) (ch : ℕ) → (next_steps t).next ≡ Compare ch → onward t (next_steps t).steps ≡ ccr_in_use t ch
unfolding compares
compare-count t ch e =
    let p = (best-next t).compare-is ch e in
    ap (onward t) p.steps-are ∙ comes-to (down t) t.count.cnt0 t.count.arr_act (ccr_in_use t ch) (both (waiting t ch) (ahead t ch) p.compares-so).1

-- a later count of the way is another
apart : (d : Bool) (cnt arr k j : ℕ) → k < j → j < cond d (cnt + 1) (arr + 1 - cnt) → cond d (cnt - j) (cnt + j) ≡ cond d (cnt - k) (cnt + k) → ⊥
apart true cnt arr k j l h e = omega arith
apart false cnt arr k j l h e = omega arith

module _ (t : Timer) (c : ℕ) (is : (next_steps t).next ≡ Compare c) where
  compared-settled : (ch k : ℕ) → k ≤ (next_steps t).steps → Settled t ch k → Settled (T.compared t c) ch (next_steps t).steps
  unfolding T.compared T.matched
  compared-settled ch k le h = go (eqb ch c) refl
    where
      go : (b : Bool) → eqb ch c ≡ b → get_or (set t.chan.cc_done c true) ch false ≡ true → is_output t ch ≡ true → (j : ℕ) → (next_steps t).steps < j → j < update_steps t → onward t j ≡ ccr_in_use t ch → ⊥
      go true q d o j l u e =
          apart (down t) t.count.cnt0 t.count.arr_act (next_steps t).steps j l u (e ∙ ap (ccr_in_use t) (eqb-true ch c q) ∙ sym (compare-count t c is))
      go false q d o j l u e = h (sym (get_or-set_other t.chan.cc_done c ch true false (eqb-false ch c q)) ∙ d) o j (omega arith) u e

-- a compare that is handled makes no event earlier
undone : (l : List Bool) (ch i : ℕ) → not (get_or (set l ch true) i false) ≡ true → not (get_or l i false) ≡ true
undone [] ch i h = h
undone (x ∷ xs) zero zero h = absurd (let z : ◌≡◌ {A = ℕ} 0 1 = cc in omega arith)
undone (x ∷ xs) zero (suc i) h = h
undone (x ∷ xs) (suc ch) zero h = h
undone (x ∷ xs) (suc ch) (suc i) h = undone xs ch i h

fewer : (t : Timer) (ch i : ℕ) → compares (T.compared t ch) i ≡ true → compares t i ≡ true
unfolding compares T.compared T.matched
fewer t ch i h =
    let p = both (not (get_or (set t.chan.cc_done ch true) i false) && is_output t i) (ahead t i) h in
    let q = both (not (get_or (set t.chan.cc_done ch true) i false)) (is_output t i) p.0 in
    rw (undone t.chan.cc_done ch i q.0, q.1, p.1)

pub later : (t : Timer) (ch : ℕ) → (next_steps t).steps ≤ (next_steps (T.compared t ch)).steps
unfolding T.compared T.matched
later t ch = go (next_steps (T.compared t ch)).next refl
  where
    go : (e : Next) → (next_steps (T.compared t ch)).next ≡ e → (next_steps t).steps ≤ (next_steps (T.compared t ch)).steps
    go Update e = rw ((best-next (T.compared t ch)).update-is e) (best-next t).by-update
    go (Compare i) e =
        let p = (best-next (T.compared t ch)).compare-is i e in
        rw p.steps-are ((best-next t).by-compare i p.below (fewer t ch i p.compares-so))

-- ---- the update

cond-false : (a b : Bool) → cond a b false ≡ true → b ≡ true
cond-false true b e = e
cond-false false b e = absurd (let z : ◌≡◌ {A = ℕ} 0 1 = cc in omega arith)

inside : (d : Bool) (cnt arr j x : ℕ) → cnt ≤ arr → j < cond d (cnt + 1) (arr + 1 - cnt) → arr < x → cond d (cnt - j) (cnt + j) ≡ x → ⊥
inside true cnt arr j x le h l e = omega arith
inside false cnt arr j x le h l e = omega arith

-- after it only compares above the reload are done
abbrev anew : Timer → List Bool
anew t = T.done_after_update t 0 ∷ T.done_after_update t 1 ∷ T.done_after_update t 2 ∷ T.done_after_update t 3 ∷ []

done_at : (t : Timer) (ch : ℕ) → ch < 4 → get_or (anew t) ch false ≡ T.done_after_update t ch
done_at t zero h = refl
done_at t (suc zero) h = refl
done_at t (suc (suc zero)) h = refl
done_at t (suc (suc (suc zero))) h = refl
done_at t (suc (suc (suc (suc ch)))) h = absurd (omega arith)

abbrev u : Timer → ℕ → ℕ → Timer
u t x div = T.restarted (T.reloaded t) x div

-- the update, a pulse's end aside
abbrev over : Timer → ℕ → ℕ → Timer
over t x div = T.recomputed_after_update (u t x div)

over-settled : (t : Timer) (x div ch : ℕ) → ch < 4 → Within (over t x div) → counts (over t x div) ≡ true → Settled (over t x div) ch 0
unfolding T.recomputed_after_update
over-settled t x div ch four h r d o j l k e =
    let a : (u t x div).count.arr_act < ccr_in_use (u t x div) ch =
    ltb-true _ _ (cond-false (ltb ch (u t x div).inst.channels) (ltb (u t x div).count.arr_act (ccr_in_use (u t x div) ch)) (sym (done_at (u t x div) ch four) ∙ d)) in
    inside (down (u t x div)) (u t x div).count.cnt0 (u t x div).count.arr_act j (ccr_in_use (u t x div) ch) (h r) k a e

runs_on : (o r : Bool) → cond o false r ≡ true → o ≡ false
runs_on true r e = sym e
runs_on false r e = refl

pub settled-after : (t : Timer) (x div ch : ℕ) → ch < 4 → Within (T.updated t x div) → counts (T.updated t x div) ≡ true → Settled (T.updated t x div) ch 0
unfolding T.updated T.ended
settled-after t x div ch four h r =
    let e : T.ended (over t x div) ≡ over t x div = ends-not (over t x div) (runs_on (T.pulse_ends (over t x div)) (over t x div).count.running (runs_of (T.ended (over t x div)) r)) in
    subst (λ (z : Timer). Settled z ch 0) (sym e) (over-settled t x div ch four (subst Within e h) (subst (λ (z : Timer). counts z ≡ true) e r))

pub settled-compared : (t : Timer) (c : ℕ) → (next_steps t).next ≡ Compare c → (ch k : ℕ) → k ≤ (next_steps t).steps → Settled t ch k → Settled (T.compared t c) ch (next_steps t).steps
settled-compared t c is = compared-settled t c is
