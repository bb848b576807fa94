-- The first of the update and the compares, by tim's steps to each.
use Rattle.std.specs.Prelude.{ℕ, ◌≤◌, ◌<◌, ◌≡◌, true}
use Rattle.tim.specs.declared.Timer.{Timer}
use Rattle.tim.specs.declared.Ahead.{Ahead}
use Rattle.tim.specs.declared.Next.TheVariants.{Update, Compare}
use Rattle.tim.specs.Next.{update_steps, compares, compare_steps}

-- channel j, below n, compares, and in that many steps
pub record Picked (t : Timer) (n j steps : ℕ) : Type 0 where
  pub below : j < n
  pub compares-so : compares t j ≡ true
  pub steps-are : steps ≡ compare_steps t j

-- best is the first of the update and of the compares of the channels below n
pub record Best (t : Timer) (n : ℕ) (best : Ahead) : Type 0 where
  -- it is one of them
  pub update-is : best.next ≡ Update → best.steps ≡ update_steps t
  pub compare-is : (j : ℕ) → best.next ≡ Compare j → Picked t n j best.steps
  -- none is earlier
  pub by-update : best.steps ≤ update_steps t
  pub by-compare : (i : ℕ) → i < n → compares t i ≡ true → best.steps ≤ compare_steps t i
  -- "A compare goes before an update only if strictly earlier"
  pub strictly : (j : ℕ) → best.next ≡ Compare j → best.steps < update_steps t
  -- "equal compares go lowest channel first"
  pub lowest : (j : ℕ) → best.next ≡ Compare j → (i : ℕ) → i < j → compares t i ≡ true → best.steps < compare_steps t i
