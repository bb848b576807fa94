-- What a write makes due at once, delivered at its cycle; the machine's reset, and another divider. Assumes nothing.
use Prim.Native.Nat.{ℕ, zero, suc, ◌*◌, ◌/◌, ◌%◌, ◌≤◌, ◌<◌}
use mathlib.Core.Path.{◌≡◌, refl, sym, ap, ◌∙◌, subst}
use mathlib.Core.Bool.{Bool, true, false, cond, ◌&&◌}
use mathlib.Core.Logic.{◌⊎◌, inl, inr}
use native.Mathlib.Nat.{zero-mul, mod-eq_of_lt, lt-div-mul-add}
use native.Mathlib.Numerals.{add-one}
use native.Mathlib.Omega.{arith}
use lib.Dec.{eqb}
use borrow.Author.Tests.{lt-ltb}
use Rattle.rm0440.specs.Counter.{step_cycles}
use Rattle.rm0440.specs.Rules.{port_takes, port_rules}
use Rattle.rm0440.specs.State as M
use Rattle.rm0440.specs.Clock.{matched, clock, clocks}
use Rattle.rm0440.specs.Write.{reset}
use Rattle.tim.specs.declared.Timer.{Timer}
use Rattle.tim.specs.declared.Due.{Due}
use Rattle.tim.specs.Count.{counts, ticks_at, cnt_at, synced}
use Rattle.tim.specs.Next.{next_event}
use Rattle.tim.specs.Change as T
use Rattle.stepping.proofs.Nearest.{event-stopped}
use Rattle.stepping.proofs.Synced.{runs_of, not-counts}
use Rattle.follows.specs.Seen.{raw, clocks_at, per, seen, Timed, Within, due_by, deliver}
use Rattle.follows.proofs.Leap as Leap
use Rattle.follows.proofs.Leap.{clocks-suc}
use Rattle.follows.proofs.Between.{ticks-are, seen_at, update-later}
use Rattle.follows.proofs.Deliver.{from-there}
use Rattle.follows.proofs.Instances.{seen-is, on-course}
use Rattle.follows.proofs.Delivered.{left_is, seen-left, quiet}
use Rattle.follows.proofs.Standing.{either-sync, seen-rests, Near, near-cnt, Stands, stands}

-- ---- a match inside a step, seen at its beginning or later

one-clock : (p : Bool) (s : M.Timer) → p && eqb s.arr 0 ≡ false → (n : ℕ) → n < s.psc → clock (port_rules p) (matched (port_rules p) (Leap.at s n 0)) ≡ matched (port_rules p) (Leap.at s (suc n) 0)
unfolding clock matched
one-clock p s free n h = rw (free, lt-ltb n s.psc h, add-one n)

within_step : (p : Bool) (s : M.Timer) → p && eqb s.arr 0 ≡ false → (n : ℕ) → n ≤ s.psc → clocks (port_rules p) n (matched (port_rules p) (Leap.at s 0 0)) ≡ matched (port_rules p) (Leap.at s n 0)
unfolding clocks
within_step p s free zero h = refl
within_step p s free (suc n) h = ap (clock (port_rules p)) (within_step p s free n (omega arith)) ∙ one-clock p s free n (omega arith)

-- ---- a delivery at the cycle of a write

module _ (p : Bool) (u : Timer) (is : u.inst.manual ≡ p) (div : ℕ) (w : Timed u div) (h : Within u) (now : ℕ) (b : u.count.base ≤ now) where
  deliver-none : (f : ℕ) → due_by (next_event u) now ≡ false → deliver f now div u ≡ u
  unfolding deliver
  deliver-none zero d = refl
  deliver-none (suc f) d = rw d

  undue : (f : ℕ) → due_by (next_event u) now ≡ false → matched (port_rules p) (seen u div now) ≡ seen (deliver f now div u) div now
  undue f d = quiet p u is div w h now b d ∙ ap (λ (z : Timer). seen z div now) (sym (deliver-none f d))

  due-now : (f : ℕ) → counts u ≡ true → ticks_at u now ≡ 0 → due_by (next_event (deliver f now div u)) now ≡ false
      → matched (port_rules p) (seen u div now) ≡ seen (deliver f now div u) div now
  due-now f r none d =
      let y = on-course p u is div w r h in
      let z : clocks_at u div now / per u ≡ 0 = sym (ticks-are (port_takes p) u div y now) ∙ none in
      let zz : clocks_at u div now / per u * per u ≡ 0 = ap (λ (q : ℕ). q * per u) z ∙ zero-mul (per u) in
      let l : clocks_at u div now < per u = omega (arith, zz, lt-div-mul-add {a = clocks_at u div now} {b = per u} (omega arith)) in
      let m : clocks_at u div now % per u ≡ clocks_at u div now = mod-eq_of_lt l in
      let there : seen u div now ≡ Leap.at (raw u) (clocks_at u div now) 0 =
      sym (seen-is p u is div now) ∙ seen_at (port_takes p) u div y now (clocks_at u div now) refl (rw z (update-later (port_takes p) u div y)) ∙ rw (z, m) in
      ap (matched (port_rules p)) there ∙ sym (within_step p (raw u) y.free (clocks_at u div now) (omega arith))
      ∙ from-there (port_takes p) u div y f (clocks_at u div now) now refl b (left_is p f now div u is d) ∙ seen-left p f now div u is

  pub settles : (f : ℕ) → Near u now ⊎ (due_by (next_event u) now ≡ false) → due_by (next_event (deliver f now div u)) now ≡ false
      → matched (port_rules p) (seen u div now) ≡ seen (deliver f now div u) div now
  settles f (inr n) d = undue f n
  settles f (inl near) d = go (counts u) refl
    where
      go : (r : Bool) → counts u ≡ r → matched (port_rules p) (seen u div now) ≡ seen (deliver f now div u) div now
      go true r = due-now f r (near (runs_of u r)) d
      go false r = undue f (ap (λ (e : Due). due_by e now) (event-stopped u r))

-- ---- reset

pub resets : (t : Timer) (div c div' c' : ℕ) → reset (seen t div c) ≡ seen (T.reset_state t.inst div') div' c'
unfolding reset T.reset_state
resets t div c div' c' = seen-rests (T.reset_state t.inst div') div' c' (not-counts (T.reset_state t.inst div') refl)

-- ---- another divider, outside clock-change-jump: the part of a step that has passed is kept in cycles

module _ (t : Timer) (div : ℕ) (w : Timed t div) (now div' : ℕ) where
  abbrev y : Timer
  y = synced t now

  st : Stands t div now y
  st = stands t div w now

  retimed-port : T.retimed t now div' ≡ T.with_tick y (step_cycles y.count.psc_act div')
  unfolding T.retimed
  retimed-port =
      either-sync t now (λ (z : Timer). T.with_tick z (step_cycles t.count.psc_act div') ≡ T.with_tick z (step_cycles z.count.psc_act div')) (λ k b. refl) refl

  pub retimed-seen : Near (T.retimed t now div') now
      → seen (T.retimed t now div') div' now ≡ M.with_count (seen t div now) y.count.running (cond (counts y) (clocks_at y div' now % per y) 0) (cnt_at t now)
  retimed-seen near =
      ap (λ (z : Timer). seen z div' now) retimed-port
      ∙ ap (λ (k : ℕ). M.with_count (raw y) y.count.running (cond (counts y) (clocks_at y div' now % per y) 0) k)
      (near-cnt (T.with_tick y (step_cycles y.count.psc_act div')) now (subst (λ (z : Timer). Near z now) retimed-port near) st.within ∙ sym st.here ∙ ap (λ (s : M.Timer). s.cnt) st.shown)
      ∙ ap (λ (s : M.Timer). M.with_count s y.count.running (cond (counts y) (clocks_at y div' now % per y) 0) (cnt_at t now)) st.shown
