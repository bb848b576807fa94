-- The four sources and their numbers. Assumes nothing.
use mathlib.Core.Path.{◌≡◌, refl}
use Prim.Native.Nat.{◌%◌, ◌≤◌}
use lib.Dec.{lit≤}
use Rattle.pins.specs.declared.Source.{Source}
use Rattle.pins.specs.declared.Source.TheVariants.{Chip, Outside, Pull, Held}
use Rattle.pins.specs.Pins.{source_number, source_of}

pub number-low : (s : Source) → 1 ≤ source_number s
number-low Chip = lit≤ tt
number-low Outside = lit≤ tt
number-low Pull = lit≤ tt
number-low Held = lit≤ tt

pub number-high : (s : Source) → source_number s ≤ 4
number-high Chip = lit≤ tt
number-high Outside = lit≤ tt
number-high Pull = lit≤ tt
number-high Held = lit≤ tt

-- a source comes back from its number, and from two bits of it
pub back : (s : Source) → source_of (source_number s) ≡ s
back Chip = refl
back Outside = refl
back Pull = refl
back Held = refl

pub back-of-bits : (s : Source) → source_of (source_number s % 4) ≡ s
back-of-bits Chip = refl
back-of-bits Outside = refl
back-of-bits Pull = refl
back-of-bits Held = refl
