-- Laws of booked events.
use mathlib.Core.Path.{◌≡◌, refl, ◌∙◌}
use mathlib.Core.Logic.{◌⊎◌, inl, inr, ◌≢◌}
use mathlib.Core.Bool.{Bool, true, false}
use mathlib.Core.List.{List, [], ◌∷◌}
use Prim.Native.Nat.{ℕ, zero, suc, min, ◌≤◌, ◌<◌}
use native.Mathlib.Omega.{arith}
use lib.Dec.{leb}
use lib.ListN.{length}
use Rattle.std.specs.List.{fold}
use lib.Seq.{get_or-set_same, get_or-set_other}
use borrow.Author.Tests.{leb-true, leb-false}
use Rattle.scheduler.specs.Booking.{never, cycle_of, rebook, least}

-- no cycle is above that of none
pub least-most : (m : List ℕ) → least m ≤ never
unfolding least
least-most [] = omega arith
least-most (c ∷ m) = omega (arith, least-most m)

-- the least so far, taken through the rest
lesser-of : (m : List ℕ) (low : ℕ) → low ≤ never → fold min low m ≡ min low (least m)
unfolding least
lesser-of [] low h = omega arith
lesser-of (c ∷ m) low h = lesser-of m (min low c) (omega arith) ∙ omega arith

pub least-folded : (m : List ℕ) → fold min never m ≡ least m
least-folded m = lesser-of m never (omega arith) ∙ omega (arith, least-most m)

-- the least cycle is at most each owner's
pub least-le : (m : List ℕ) (owner : ℕ) → owner < length m → least m ≤ cycle_of m owner
unfolding least
least-le [] owner h = omega arith
least-le (c ∷ m) zero h = omega arith
least-le (c ∷ m) (suc owner) h = omega (arith, least-le m owner (omega arith))

-- the least cycle is an owner's, or there is none
pub least-is : (m : List ℕ) → ((owner : ℕ) × ((owner < length m) × (cycle_of m owner ≡ least m))) ⊎ (least m ≡ never)
unfolding least
least-is [] = inr refl
least-is (c ∷ m) = go (leb c (least m)) refl (least-is m)
  where
    go : (b : Bool) → leb c (least m) ≡ b → ((owner : ℕ) × ((owner < length m) × (cycle_of m owner ≡ least m))) ⊎ (least m ≡ never)
        → ((owner : ℕ) × ((owner < length (c ∷ m)) × (cycle_of (c ∷ m) owner ≡ min c (least m)))) ⊎ (min c (least m) ≡ never)
    go true e ih = inl (0, (omega arith, omega (arith, leb-true c (least m) e)))
    go false e (inl ih) = inl (suc ih.0, (omega arith, omega (arith, leb-false c (least m) e)))
    go false e (inr ih) = inr (omega (arith, leb-false c (least m) e))

-- without a booking the least cycle is 2^64 − 1
pub least-none : (m : List ℕ) → ((owner : ℕ) → owner < length m → cycle_of m owner ≡ never) → least m ≡ never
unfolding least
least-none [] h = refl
least-none (c ∷ m) h = omega (arith, h 0 (omega arith), least-none m (λ owner l. h (suc owner) (omega arith)))

-- booking changes one owner's cycle and no other's
pub book-same : (m : List ℕ) (owner cycle : ℕ) → owner < length m → cycle_of (rebook m owner cycle) owner ≡ cycle
book-same m owner cycle h = get_or-set_same m owner cycle never h

pub book-other : (m : List ℕ) (owner cycle j : ℕ) → j ≢ owner → cycle_of (rebook m owner cycle) j ≡ cycle_of m j
book-other m owner cycle j h = get_or-set_other m owner j cycle never h
