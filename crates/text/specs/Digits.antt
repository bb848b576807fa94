-- Numbers as docs/CALLS.md writes them: "All its numbers are decimal".
use Rattle.std.specs.Prelude.{◌≡◌, Bool, cond, List, [], ◌∷◌, ◌++◌, ℕ, zero, suc, ◌+◌, ◌/◌, ◌%◌, ltb, leb, length, take, drop, Option, None, Some}

-- how many decimal digits n has, if it has at most `most`: one, and one more for each tenth part that is not 0
unfoldable pub places_in : ℕ → ℕ → ℕ
places_in zero n = 1
places_in (suc most) n = cond (ltb n 10) 1 (places_in most (n / 10) + 1)

-- 64 bits have at most 20 digits
abbrev pub places_of : ℕ → ℕ
places_of n = places_in 20 n

-- the last k decimal digits of n, the first in front
unfoldable pub last_digits : ℕ → ℕ → List ℕ
last_digits zero n = []
last_digits (suc k) n = last_digits k (n / 10) ++ ((48 + n % 10) ∷ [])

abbrev pub digits_of : ℕ → List ℕ
digits_of n = last_digits (places_of n) n

-- a list laid over another from a place on
abbrev pub over : List ℕ → ℕ → List ℕ → List ℕ
over xs at old = take at old ++ (xs ++ drop (at + length xs) old)

-- what writing a number leaves: its digits and the place behind them, or nothing where they do not fit
abbrev pub fits : ℕ → ℕ → List ℕ → Bool
fits n at out = leb (at + places_of n) (length out)

pub record Wrote (n at : ℕ) (out out₁ : List ℕ) (r : Option ℕ) : Type 0 where
  pub place : r ≡ cond (fits n at out) (Some (at + places_of n)) None
  pub bytes : out₁ ≡ cond (fits n at out) (over (digits_of n) at out) out
