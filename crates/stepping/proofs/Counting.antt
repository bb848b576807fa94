-- The closed forms of a count, up_from and down_from, against the steps. Assumes nothing.
use Prim.Native.Nat.{ℕ, zero, suc, ◌+◌, ◌-◌, ◌%◌, ◌≤◌, ◌<◌, min}
use mathlib.Core.Path.{◌≡◌, refl, sym, ap, ◌∙◌}
use mathlib.Core.Logic.{◌⊎◌, inl, inr}
use mathlib.Core.Bool.{Bool, true, false, cond}
use native.Mathlib.Nat.{mod-lt, suc-mod, mod-eq_of_lt, mod_self, mod-eq-sub-mod, zero-mod, mod-add-mod, eq-or-lt_of_le, min-eq_left, min-le_right, add-zero, add-suc}
use native.Mathlib.Omega.{arith}
use lib.Dec.{ltb, leb}
use borrow.Author.Tests.{ltb-true, ltb-false, leb-true, leb-false, le-leb, lt-leb, le-ltb}
use Rattle.rm0440.specs.Counter.{tick_up, tick_down, after}
use Rattle.tim.specs.Count.{up_from, down_from}

-- n + m steps are m after n
pub after-add : (f : ℕ → ℕ) (n m cnt : ℕ) → after f (n + m) cnt ≡ after f m (after f n cnt)
unfolding after
after-add f n zero cnt = rw (add-zero n)
after-add f n (suc m) cnt = rw (add-suc n m, after-add f n m cnt)

module _ (reload : ℕ) where
  -- ---- upward

  tick-mod : (x : ℕ) → x ≤ reload → tick_up reload x ≡ suc x % (reload + 1)
  unfolding tick_up
  tick-mod x h = go (ltb x reload) refl
    where
      go : (b : Bool) → ltb x reload ≡ b → cond b (suc x) 0 ≡ suc x % (reload + 1)
      go false e = let s : suc x ≡ reload + 1 = omega (arith, ltb-false) in rw (s, mod_self (reload + 1))
      go true e = let s : suc x < reload + 1 = omega (arith, ltb-true) in rw (mod-eq_of_lt s)

  up-mod : (x n : ℕ) → x ≤ reload → after (tick_up reload) n x ≡ (x + n) % (reload + 1)
  unfolding after
  up-mod x zero h = let l : x < reload + 1 = omega arith in rw (add-zero x, mod-eq_of_lt l)
  up-mod x (suc n) h =
      let l : (x + n) % (reload + 1) ≤ reload = omega (arith, mod-lt (x + n) {m = reload + 1} (omega arith)) in
      rw (up-mod x n h, tick-mod ((x + n) % (reload + 1)) l, ← suc-mod (x + n) (reload + 1), add-suc x n)

  -- from a count within the reload
  pub up-after : (cnt n : ℕ) → cnt ≤ reload → up_from reload cnt n ≡ after (tick_up reload) n cnt
  unfolding up_from
  up-after cnt n h = rw (up-mod cnt n h) (go (leb (cnt + n) reload) refl)
    where
      go : (b : Bool) → leb (cnt + n) reload ≡ b
          → cond b (cnt + n) ((cnt + n - (reload + 1)) % (reload + 1)) ≡ (cnt + n) % (reload + 1)
      go true e = let l : cnt + n < reload + 1 = omega (arith, leb-true) in sym (mod-eq_of_lt l)
      go false e = let l : reload + 1 ≤ cnt + n = omega (arith, leb-false) in sym (mod-eq-sub-mod l)

  -- from a count above the reload: as from its excess over the period
  pub up_above : (cnt n : ℕ) → reload < cnt → up_from reload cnt n ≡ after (tick_up reload) n ((cnt - (reload + 1)) % (reload + 1))
  unfolding up_from
  up_above cnt n h =
      let l : (cnt - (reload + 1)) % (reload + 1) ≤ reload = omega (arith, mod-lt (cnt - (reload + 1)) {m = reload + 1} (omega arith)) in
      let e : cnt + n - (reload + 1) ≡ cnt - (reload + 1) + n = omega arith in
      rw (up-mod ((cnt - (reload + 1)) % (reload + 1)) n l, lt-leb (cnt + n) reload (omega arith), e, mod-add-mod (cnt - (reload + 1)) (reload + 1) n)

  pub up_le : (cnt n : ℕ) → up_from reload cnt n ≤ reload
  unfolding up_from
  up_le cnt n = go (leb (cnt + n) reload) refl
    where
      go : (b : Bool) → leb (cnt + n) reload ≡ b → cond b (cnt + n) ((cnt + n - (reload + 1)) % (reload + 1)) ≤ reload
      go true e = omega (arith, leb-true)
      go false e = omega (arith, mod-lt (cnt + n - (reload + 1)) {m = reload + 1} (omega arith))

  -- ---- downward

  down_pos : (x : ℕ) → 0 < x → tick_down reload x ≡ x - 1
  unfolding tick_down
  down_pos zero h = omega arith
  down_pos (suc x) h = omega arith

  down-zero : (x : ℕ) → x ≡ 0 → tick_down reload x ≡ reload
  unfolding tick_down
  down-zero x e = rw e

  -- down is up in the mirror
  mirror : (y : ℕ) → y ≤ reload → tick_down reload (reload - y) ≡ reload - suc y % (reload + 1)
  mirror y h = go (eq-or-lt_of_le h)
    where
      go : (y ≡ reload) ⊎ (y < reload) → tick_down reload (reload - y) ≡ reload - suc y % (reload + 1)
      go (inl e) =
          let s : suc y ≡ reload + 1 = omega arith in
          rw (down-zero (reload - y) (omega arith), s, mod_self (reload + 1)) (omega arith)
      go (inr l) =
          let s : suc y < reload + 1 = omega arith in
          rw (down_pos (reload - y) (omega arith), mod-eq_of_lt s) (omega arith)

  pub down-within : (cnt n : ℕ) → n ≤ cnt → down_from reload cnt n ≡ cnt - n
  unfolding down_from
  down-within cnt n h = rw (le-leb n cnt h)

  down-past : (cnt n : ℕ) → cnt < n → down_from reload cnt n ≡ reload - (n - cnt - 1) % (reload + 1)
  unfolding down_from
  down-past cnt n h = rw (lt-leb n cnt h)

  down_step : (cnt n : ℕ) → tick_down reload (down_from reload cnt n) ≡ down_from reload cnt (suc n)
  down_step cnt n = go (leb n cnt) refl
    where
      within : (n ≡ cnt) ⊎ (n < cnt) → tick_down reload (down_from reload cnt n) ≡ down_from reload cnt (suc n)
      within (inl e) =
          let z : suc n - cnt - 1 ≡ 0 = omega arith in
          rw (down-within cnt n (omega arith), down-past cnt (suc n) (omega arith), z, zero-mod (reload + 1), down-zero (cnt - n) (omega arith)) (omega arith)
      within (inr l) =
          rw (down-within cnt n (omega arith), down-within cnt (suc n) (omega arith), down_pos (cnt - n) (omega arith)) (omega arith)

      go : (b : Bool) → leb n cnt ≡ b → tick_down reload (down_from reload cnt n) ≡ down_from reload cnt (suc n)
      go true e = within (eq-or-lt_of_le (leb-true n cnt e))
      go false e =
          let p : cnt < n = leb-false n cnt e in
          let s : suc n - cnt - 1 ≡ suc (n - cnt - 1) = omega arith in
          let l : (n - cnt - 1) % (reload + 1) ≤ reload = omega (arith, mod-lt (n - cnt - 1) {m = reload + 1} (omega arith)) in
          rw (down-past cnt n p, down-past cnt (suc n) (omega arith), s, suc-mod (n - cnt - 1) (reload + 1)) (mirror ((n - cnt - 1) % (reload + 1)) l)

  -- from any count, one above the reload too
  pub down-after : (cnt n : ℕ) → down_from reload cnt n ≡ after (tick_down reload) n cnt
  unfolding after
  down-after cnt zero = down-within cnt 0 (omega arith) ∙ omega arith
  down-after cnt (suc n) = sym (down_step cnt n) ∙ ap (tick_down reload) (down-after cnt n)

  pub down_le : (cnt n : ℕ) → cnt ≤ reload → down_from reload cnt n ≤ reload
  unfolding down_from
  down_le cnt n h = go (leb n cnt)
    where
      go : (b : Bool) → cond b (cnt - n) (reload - (n - cnt - 1) % (reload + 1)) ≤ reload
      go true = omega arith
      go false = omega arith

-- one step past the reload + 1 is 0
pub up-over : (reload n : ℕ) → after (tick_up reload) (1 + n) (reload + 1) ≡ after (tick_up reload) n 0
unfolding after tick_up
up-over reload n = rw (after-add (tick_up reload) 1 n (reload + 1), le-ltb (reload + 1) reload (omega arith))

-- the steps down to the reload, from a count above it
pub down-over : (reload cnt n : ℕ) → after (tick_down reload) n (min cnt reload) ≡ after (tick_down reload) (cnt - reload + n) cnt
down-over reload cnt n =
    let e : min cnt reload ≡ cnt - (cnt - reload) = omega arith in
    rw (
      after-add (tick_down reload) (cnt - reload) n cnt,
      ← down-after reload cnt (cnt - reload),
      down-within reload cnt (cnt - reload) (omega arith),
      e,
    )

-- ---- either direction

-- the count after n steps, as cnt_at has it: downward clamped to the reload
abbrev pub counted : Bool → ℕ → ℕ → ℕ → ℕ
counted down reload cnt n = cond down (down_from reload (min cnt reload) n) (up_from reload cnt n)

up-again : (reload cnt n m : ℕ) → up_from reload (up_from reload cnt n) m ≡ up_from reload cnt (n + m)
up-again reload cnt n m = rw (up-after reload (up_from reload cnt n) m (up_le reload cnt n)) (go (leb cnt reload) refl)
  where
    go : (b : Bool) → leb cnt reload ≡ b → after (tick_up reload) m (up_from reload cnt n) ≡ up_from reload cnt (n + m)
    go true e =
        let h : cnt ≤ reload = leb-true cnt reload e in
        rw (up-after reload cnt n h, up-after reload cnt (n + m) h, after-add (tick_up reload) n m cnt)
    go false e =
        let h : reload < cnt = leb-false cnt reload e in
        rw (up_above reload cnt n h, up_above reload cnt (n + m) h, after-add (tick_up reload) n m ((cnt - (reload + 1)) % (reload + 1)))

down-again : (reload cnt n m : ℕ) → cnt ≤ reload → down_from reload (min (down_from reload cnt n) reload) m ≡ down_from reload cnt (n + m)
down-again reload cnt n m h =
    rw (
      min-eq_left (down_le reload cnt n h),
      down-after reload (down_from reload cnt n) m,
      down-after reload cnt n,
      down-after reload cnt (n + m),
      after-add (tick_down reload) n m cnt,
    )

-- m steps from where n left it are n + m
pub counted-again : (down : Bool) (reload cnt n m : ℕ) → counted down reload (counted down reload cnt n) m ≡ counted down reload cnt (n + m)
counted-again true reload cnt n m = down-again reload (min cnt reload) n m (min-le_right cnt reload)
counted-again false reload cnt n m = up-again reload cnt n m
