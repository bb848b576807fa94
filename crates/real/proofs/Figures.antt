-- Bench figures of document 01 on floats, by computation: inputs beside expected values, and one claim over the list.
use Rattle.std.proofs.Common.{◌≡◌, ℕ, ◌+◌, ◌^◌, false, List, [], ◌∷◌, map, pos, refl}
use lib.Ieee as Ieee
use lib.Ieee.{Float, fin}
use Rattle.real.specs.Real.{nearest_to}

pub record Figure : Type 0 where
  pub cycle : ℕ
  pub becomes : Float

-- 2^53 + 1 becomes 2^53 = 1 × 2^53; 2^53 + 3 becomes 2^53 + 4 = (2^51 + 1) × 2^2
abbrev pub figures : List Figure
figures = record { cycle = 2 ^ 53 + 1; becomes = fin false 1 (pos 53) } ∷ record { cycle = 2 ^ 53 + 3; becomes = fin false (2 ^ 51 + 1) (pos 2) } ∷ []

pub figures-hold : map (λ (f : Figure). nearest_to f.cycle) figures ≡ map (λ (f : Figure). f.becomes) figures
unfolding Ieee.of_int
figures-hold = refl
