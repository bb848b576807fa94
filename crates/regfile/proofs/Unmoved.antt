-- A write of CR1 that leaves CEN and DIR as they were. Assumes nothing.
use mathlib.Core.Path.{◌≡◌, refl, ap, sym, ◌∙◌}
use mathlib.Core.Bool.{Bool, true, false, cond, not, ◌&&◌, false≢true}
use Prim.Native.Nat.{ℕ, ◌+◌, ◌-◌, ◌/◌, ◌%◌, ◌≤◌, ◌<◌}
use native.Mathlib.Nat.{div-one, mod-lt}
use native.Mathlib.Omega.{arith}
use lib.Dec.{eqb, leb, ltb}
use lib.ListN.{length}
use borrow.Author.Tests.{eq-eqb, eqb-true, le-ltb, leb-true}
use Rattle.rm0440.specs.Bits.{CEN}
use Rattle.tim.specs.declared.Timer.{Timer}
use Rattle.tim.specs.Timer.{down, with_cr1}
use Rattle.tim.specs.Count.{blocked, up_from, cnt_at, synced}
use Rattle.regs.specs.Regs.{kept_cr1, turned, cr1_written, astray}
use Rattle.machine.specs.Board.{Board, timer_at, with_timer}
use Rattle.fields.proofs.Words.{changed-twice}
use Rattle.regfile.specs.Course.{same_course}

both_left : (x y : Bool) → x && y ≡ true → x ≡ true
both_left true y e = refl
both_left false y e = e

both_right : (x y : Bool) → x && y ≡ true → y ≡ true
both_right true y e = e
both_right false y e = absurd (false≢true e)

module _ (old new : ℕ) (h : same_course old new ≡ true) where
  enabled : CEN new ≡ CEN old
  enabled =
      let e : old % 2 ≡ new % 2 = eqb-true _ _ (both_left (eqb (old % 2) (new % 2)) (eqb (old / 16 % 2) (new / 16 % 2)) h) in
      ap (λ (n : ℕ). eqb (n % 2) 1) (div-one new) ∙ ap (λ (n : ℕ). eqb n 1) (sym e) ∙ ap (λ (n : ℕ). eqb (n % 2) 1) (sym (div-one old))

  direction : old / 16 % 2 ≡ new / 16 % 2
  direction = eqb-true _ _ (both_right (eqb (old % 2) (new % 2)) (eqb (old / 16 % 2) (new / 16 % 2)) h)

-- then CR1 is all that the write changes, but for the reference
pub steady-written : (t : Timer) (v now div : ℕ) → same_course t.regs.cr1 (kept_cr1 t v) ≡ true → cr1_written t v now div ≡ with_cr1 (synced t now) (kept_cr1 t v)
unfolding cr1_written turned
steady-written t v now div h =
    rw (enabled t.regs.cr1 (kept_cr1 t v) h, eq-eqb _ _ (direction t.regs.cr1 (kept_cr1 t v) h)) (same (CEN t.regs.cr1) _ _ _)
  where
    same : (b : Bool) (s x y : Timer) → cond b (cond b s x) (cond b y s) ≡ s
    same true s x y = refl
    same false s x y = refl

-- ---- a timer that was synced is not astray

pub up_le : (reload cnt n : ℕ) → up_from reload cnt n ≤ reload
unfolding up_from
up_le reload cnt n = go (leb (cnt + n) reload) refl
  where
    go : (b : Bool) → leb (cnt + n) reload ≡ b → cond b (cnt + n) ((cnt + n - (reload + 1)) % (reload + 1)) ≤ reload
    go true e = leb-true (cnt + n) reload e
    go false e = omega (arith, mod-lt (cnt + n - (reload + 1)) {m = reload + 1} (omega arith))

below : (d : Bool) (a b n : ℕ) → b ≤ n → (not d && ltb n (cond d a b)) ≡ false
below true a b n h = refl
below false a b n h = le-ltb n b h

pub synced-fine : (t : Timer) (now new : ℕ) → t.regs.cr1 / 16 % 2 ≡ new / 16 % 2 → astray (with_cr1 (synced t now) new) ≡ false
unfolding astray synced cnt_at
synced-fine t now new d = go (blocked t) t.count.running refl refl
  where
    go : (b r : Bool) → blocked t ≡ b → t.count.running ≡ r → astray (with_cr1 (synced t now) new) ≡ false
    go true false p e = rw (e, p)
    go true true p e = rw (e, p)
    go false false p e = rw (e, p)
    go false true p e = rw (e, p, sym d) (below (down t) _ _ (t.count.arr_act + 1) (omega (arith, up_le t.count.arr_act t.count.cnt0 ((now - t.count.base) / t.count.tick))))

-- ---- the write, over any board

module _ (b : Board) (i v cycle : ℕ) (t : Timer) (new : ℕ) (load : t ≡ timer_at b i) (k : new ≡ kept_cr1 t v) (h : same_course t.regs.cr1 new ≡ true) where
  abbrev u : Timer
  u = timer_at b i

  kept : new ≡ kept_cr1 u v
  kept = k ∙ ap (λ (y : Timer). kept_cr1 y v) load

  stays : same_course u.regs.cr1 (kept_cr1 u v) ≡ true
  stays = ap (λ (n : ℕ). same_course u.regs.cr1 n) (sym kept) ∙ ap (λ (y : Timer). same_course y.regs.cr1 new) (sym load) ∙ h

  pub steady-fine : (div : ℕ) → astray (cr1_written u v cycle div) ≡ false
  steady-fine div =
      ap astray (steady-written u v cycle div stays) ∙ synced-fine u cycle (kept_cr1 u v) (direction u.regs.cr1 (kept_cr1 u v) stays)

  pub steady-stored : (b₁ : Board) → b₁ ≡ with_timer b i (with_cr1 (synced u cycle) new) → (div : ℕ) → b₁ ≡ with_timer b i (cr1_written u v cycle div)
  steady-stored b₁ e div =
      e ∙ ap (λ (n : ℕ). with_timer b i (with_cr1 (synced u cycle) n)) kept ∙ ap (with_timer b i) (sym (steady-written u v cycle div stays))

-- the reference moved, then CR1
pub moved : (b b₁ b₂ : Board) (i cycle new : ℕ) → i < length b.timers → b₁ ≡ with_timer b i (synced (timer_at b i) cycle)
    → b₂ ≡ with_timer b₁ i (with_cr1 (timer_at b₁ i) new) → b₂ ≡ with_timer b i (with_cr1 (synced (timer_at b i) cycle) new)
moved b b₁ b₂ i cycle new n p q = changed-twice b b₁ b₂ i (λ y. synced y cycle) (λ y. with_cr1 y new) n p q
