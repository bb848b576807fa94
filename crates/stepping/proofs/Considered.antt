-- A compare ahead of a count, and when it is the nearer event. Assumes nothing.
use Prim.Native.Nat.{ℕ, ◌-◌}
use mathlib.Core.Path.{◌≡◌, refl}
use mathlib.Core.Bool.{Bool, true, false, cond, ◌&&◌}
use native.Mathlib.Omega.{arith}
use lib.Dec.{ltb, leb}
use Rattle.tim.specs.declared.Ahead.{Ahead}
use Rattle.tim.specs.declared.Next.TheVariants.{Compare}

-- the compare value x lies ahead of the count, and by how many steps
abbrev pub is_ahead : Bool → ℕ → ℕ → ℕ → Bool
is_ahead down reload cnt x = cond down (leb x cnt) (leb cnt x && leb x reload)

abbrev pub steps : Bool → ℕ → ℕ → ℕ
steps down cnt x = cond down (cnt - x) (x - cnt)

-- best, or channel ch's compare s steps ahead, if it is one and nearer
unfoldable pub nearer : Bool → ℕ → ℕ → Ahead → Ahead
nearer is s ch best = cond is (cond (ltb s best.steps) (record { steps = s; next = Compare ch }) best) best

pub never : false ≡ true → ⊥
never e = let z : ◌≡◌ {A = ℕ} 0 1 = cc in omega arith

pub nearer-same : (is is' : Bool) (s s' ch : ℕ) (best : Ahead) → is ≡ is' → (is ≡ true → s ≡ s') → nearer is s ch best ≡ nearer is' s' ch best
unfolding nearer
nearer-same true is' s s' ch best e f = rw (← e, f refl)
nearer-same false is' s s' ch best e f = rw (← e)
