-- A sync that is not past an event leaves the next event. Assumes nothing.
use Prim.Native.Nat.{ℕ, ◌+◌, ◌-◌, ◌*◌, ◌≤◌, ◌<◌}
use mathlib.Core.Path.{◌≡◌, refl, sym, ap, ◌∙◌}
use mathlib.Core.Bool.{Bool, true, false, cond, not, ◌&&◌}
use native.Mathlib.Omega.{arith}
use native.Mathlib.Nat.{min-eq_left, le_trans, lt_of_mul-lt-mul_right, div-mul-le_self}
use lib.Dec.{ltb, leb, lit<}
use lib.ListN.{get_or}
use borrow.Author.Tests.{ltb-true, ltb-false, leb-true, leb-false, le-leb, lt-leb, lt-ltb, le-ltb}
use Rattle.tim.specs.declared.Timer.{Timer}
use Rattle.tim.specs.declared.Ahead.{Ahead}
use Rattle.tim.specs.declared.Next.TheVariants.{Compare}
use Rattle.tim.specs.declared.Due.TheVariants.{At}
use Rattle.tim.specs.Timer.{down, is_output, ccr_in_use}
use Rattle.tim.specs.Count.{counts, up_from, ticks_at, cnt_at}
use Rattle.tim.specs.Next.{update_steps, compares, compare_steps, consider, next_steps, next_event}
use Rattle.stepping.proofs.Counting.{counted, down-within}
use Rattle.stepping.proofs.Synced.{cnt-runs, moved}
use Rattle.stepping.proofs.Considered.{is_ahead, steps, nearer, nearer-same, never}
use Rattle.stepping.proofs.Nearest.{best-next, event-runs}

and-false : (a : Bool) → a && false ≡ false
and-false true = refl
and-false false = refl

-- the same event seen n steps earlier
abbrev later : ℕ → Ahead → Ahead
later n b = record { steps = n + b.steps; next = b.next }

nearer-later : (n : ℕ) (is : Bool) (s ch : ℕ) (b : Ahead) → later n (nearer is s ch b) ≡ nearer is (n + s) ch (later n b)
unfolding nearer
nearer-later n false s ch b = refl
nearer-later n true s ch b = go (ltb s b.steps) refl
  where
    go : (l : Bool) → ltb s b.steps ≡ l
        → later n (cond l (record { steps = s; next = Compare ch }) b)
        ≡ cond (ltb (n + s) (n + b.steps)) (record { steps = n + s; next = Compare ch }) (later n b)
    go true e = rw (lt-ltb (n + s) (n + b.steps) (omega (arith, ltb-true s b.steps e)))
    go false e = rw (le-ltb (n + s) (n + b.steps) (omega (arith, ltb-false s b.steps e)))

-- the count n steps on, with no wrap between
pub record Onward (down : Bool) (cnt n cnt' : ℕ) : Type 0 where
  pub within : cond down n 0 ≤ cnt
  pub is : cnt' ≡ cond down (cnt - n) (cnt + n)

-- a compare that is not passed on the way is ahead still
pub record Still (down : Bool) (reload cnt n cnt' x : ℕ) : Type 0 where
  pub so : is_ahead down reload cnt' x ≡ is_ahead down reload cnt x
  pub off : is_ahead down reload cnt x ≡ true → n + steps down cnt' x ≡ steps down cnt x

still : (d : Bool) (reload cnt n cnt' x : ℕ) → Onward d cnt n cnt' → (is_ahead d reload cnt x ≡ true → n ≤ steps d cnt x)
    → Still d reload cnt n cnt' x
still true reload cnt n cnt' x o h = go (leb x cnt) refl
  where
    go : (b : Bool) → leb x cnt ≡ b → Still true reload cnt n cnt' x
    go true e =
        let l : x ≤ cnt = leb-true x cnt e in
        let m : n ≤ cnt - x = h e in
        record { so = le-leb x cnt' (omega (arith, o.is)) ∙ sym e; off = λ a. omega (arith, o.is) }
    go false e =
        let l : cnt < x = leb-false x cnt e in
        record { so = lt-leb x cnt' (omega (arith, o.is)) ∙ sym e; off = λ a. absurd (never (sym e ∙ a)) }
still false reload cnt n cnt' x o h = go (leb cnt x) (leb x reload) refl refl
  where
    go : (b c : Bool) → leb cnt x ≡ b → leb x reload ≡ c → Still false reload cnt n cnt' x
    go true true e f =
        let l : cnt ≤ x = leb-true cnt x e in
        let m : n ≤ x - cnt = h (rw (e, f)) in
        record { so = rw (le-leb cnt' x (omega (arith, o.is)), e); off = λ a. omega (arith, o.is) }
    go true false e f =
        let g : is_ahead false reload cnt x ≡ false = rw (e, f) in
        record { so = rw (f, and-false (leb cnt' x), and-false (leb cnt x)); off = λ a. absurd (never (sym g ∙ a)) }
    go false c e f =
        let g : is_ahead false reload cnt x ≡ false = rw e in
        let l : x < cnt = leb-false cnt x e in
        record { so = rw (lt-leb cnt' x (omega (arith, o.is)), e); off = λ a. absurd (never (sym g ∙ a)) }

module _ (t : Timer) (now : ℕ) where
  -- a channel considered after the sync
  consider-moved : (ch : ℕ) (b : Ahead) → Onward (down t) t.count.cnt0 (ticks_at t now) (cnt_at t now)
      → (compares t ch ≡ true → ticks_at t now ≤ compare_steps t ch)
      → later (ticks_at t now) (consider (moved t now) ch b) ≡ consider t ch (later (ticks_at t now) b)
  unfolding consider compares nearer
  consider-moved ch b o h =
      nearer-later (ticks_at t now) (compares (moved t now) ch) (compare_steps (moved t now) ch) ch b
      ∙ go (not (get_or t.chan.cc_done ch false)) (is_output t ch) h
    where
      go : (p q : Bool)
          → (p && q && is_ahead (down t) t.count.arr_act t.count.cnt0 (ccr_in_use t ch) ≡ true → ticks_at t now ≤ compare_steps t ch)
          → nearer (p && q && is_ahead (down t) t.count.arr_act (cnt_at t now) (ccr_in_use t ch))
          (ticks_at t now + compare_steps (moved t now) ch) ch (later (ticks_at t now) b)
          ≡ nearer (p && q && is_ahead (down t) t.count.arr_act t.count.cnt0 (ccr_in_use t ch)) (compare_steps t ch) ch (later (ticks_at t now) b)
      go false q h = refl
      go true false h = refl
      go true true h =
          let s = still (down t) t.count.arr_act t.count.cnt0 (ticks_at t now) (cnt_at t now) (ccr_in_use t ch) o h in
          nearer-same (is_ahead (down t) t.count.arr_act (cnt_at t now) (ccr_in_use t ch))
          (is_ahead (down t) t.count.arr_act t.count.cnt0 (ccr_in_use t ch)) (ticks_at t now + compare_steps (moved t now) ch)
          (compare_steps t ch) ch (later (ticks_at t now) b) s.so (λ a. s.off (sym s.so ∙ a))

  module _ (runs : counts t ≡ true) (le : t.count.cnt0 ≤ t.count.arr_act) (early : ticks_at t now < update_steps t) where
    onward : Onward (down t) t.count.cnt0 (ticks_at t now) (cnt_at t now)
    unfolding up_from
    onward = rw (cnt-runs t now runs) (go (down t) early)
      where
        go : (d : Bool) → ticks_at t now < cond d (t.count.cnt0 + 1) (t.count.arr_act + 1 - t.count.cnt0)
            → Onward d t.count.cnt0 (ticks_at t now) (counted d t.count.arr_act t.count.cnt0 (ticks_at t now))
        go true e = record {
          within = omega arith;
          is = rw (min-eq_left le) (down-within t.count.arr_act t.count.cnt0 (ticks_at t now) (omega arith));
        }
        go false e = record { within = omega arith; is = rw (le-leb (t.count.cnt0 + ticks_at t now) t.count.arr_act (omega arith)) }

    update-moved : ticks_at t now + update_steps (moved t now) ≡ update_steps t
    update-moved = go (down t) onward early
      where
        go : (d : Bool) → Onward d t.count.cnt0 (ticks_at t now) (cnt_at t now)
            → ticks_at t now < cond d (t.count.cnt0 + 1) (t.count.arr_act + 1 - t.count.cnt0)
            → ticks_at t now + cond d (cnt_at t now + 1) (t.count.arr_act + 1 - cnt_at t now)
            ≡ cond d (t.count.cnt0 + 1) (t.count.arr_act + 1 - t.count.cnt0)
        go true o e = omega (arith, o.is)
        go false o e = omega (arith, o.is)

    -- the event is the same, the steps to it fewer by those to the sync
    next-moved : ticks_at t now ≤ (next_steps t).steps → later (ticks_at t now) (next_steps (moved t now)) ≡ next_steps t
    unfolding next_steps
    next-moved h =
        one 3 (lit< tt) _ ∙ ap (consider t 3) (one 2 (lit< tt) _
        ∙ ap (consider t 2) (one 1 (lit< tt) _ ∙ ap (consider t 1) (one 0 (lit< tt) _ ∙ ap (consider t 0) (rw update-moved))))
      where
        one : (ch : ℕ) → ch < 4 → (b : Ahead)
            → later (ticks_at t now) (consider (moved t now) ch b) ≡ consider t ch (later (ticks_at t now) b)
        one ch lt b = consider-moved ch b onward (λ e. le_trans h ((best-next t).by-compare ch lt e))

    pub event-moved : ticks_at t now ≤ (next_steps t).steps → next_event (moved t now) ≡ next_event t
    event-moved h =
        let e : (t.count.base + ticks_at t now * t.count.tick) + (next_steps (moved t now)).steps * t.count.tick
        ≡ t.count.base + (ticks_at t now + (next_steps (moved t now)).steps) * t.count.tick = omega arith in
        event-runs (moved t now) runs
        ∙ rw e (ap (λ (b : Ahead). At (t.count.base + b.steps * t.count.tick) b.next) (next-moved h))
        ∙ sym (event-runs t runs)

-- fewer whole steps to a cycle before that of s steps
pub ticks-before : (t : Timer) (now s : ℕ) → t.count.base ≤ now → now < t.count.base + s * t.count.tick → ticks_at t now < s
ticks-before t now s h before =
    lt_of_mul-lt-mul_right t.count.tick (omega (arith, div-mul-le_self (now - t.count.base) t.count.tick))
