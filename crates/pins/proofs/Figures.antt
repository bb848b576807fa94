-- Bench figures of document 01 on an input's level, by computation: inputs beside expected values, and one claim over the list.
use mathlib.Core.Path.{◌≡◌, refl}
use mathlib.Core.Bool.{true, false}
use mathlib.Core.List.{List, [], ◌∷◌, map}
use Prim.Native.Nat.{ℕ}
use lib.IntN.{pos, negsuc}
use lib.Ieee as Ieee
use lib.Ieee.{Float, nan, fin}
use Rattle.pins.specs.declared.ExtDrive.TheVariants as ext
use Rattle.pins.specs.declared.Source.{Source}
use Rattle.pins.specs.Pins.{by_outside, only_held, blank, with_ext, with_level, sensed_from, resolved}

-- an analogue drive on an input, and the level, the volts and the source that it gets
pub record Figure : Type 0 where
  pub drive : Float
  pub level : ℕ
  pub volts : Float
  pub source : Source

-- 5.0 = 5 × 2^0, 3.0 = 3 × 2^0, 2.0 = 1 × 2^1, 1.5 = 3 × 2^-1, and minus zero
abbrev pub v5·0 : Float
v5·0 = fin false 5 (pos 0)

abbrev pub v3·0 : Float
v3·0 = fin false 3 (pos 0)

abbrev pub v2·0 : Float
v2·0 = fin false 1 (pos 1)

abbrev pub v1·5 : Float
v1·5 = fin false 3 (negsuc 0)

abbrev pub minus_zero : Float
minus_zero = fin true 0 (pos 0)

-- "supply 5.0: 3.0 V is high, 1.5 low, 2.0 holds"; "not-a-number holds the level" and stays; minus zero stays. `held` is the level before.
-- "analogue volts that settle neither level" leave the source 4
abbrev pub figures : ℕ → List Figure
figures held =
    record { drive = v3·0; level = 1; volts = v3·0; source = by_outside }
    ∷ record { drive = v1·5; level = 0; volts = v1·5; source = by_outside }
    ∷ record { drive = v2·0; level = held; volts = v2·0; source = only_held }
    ∷ record { drive = nan; level = held; volts = nan; source = only_held }
    ∷ record { drive = minus_zero; level = 0; volts = minus_zero; source = by_outside }
    ∷ []

-- the figure that `resolved` gives for a drive, at supply 5.0
abbrev pub resolved_for : ℕ → Figure → Figure
resolved_for held f =
    let p = resolved (with_ext (with_level blank held v5·0 only_held) (ext.Analog f.drive)) v5·0 in
    record { drive = f.drive; level = p.level; volts = p.volts; source = p.source }

pub figures-hold : (held : ℕ) → map (resolved_for held) (figures held) ≡ figures held
unfolding resolved sensed_from Ieee.of_bits Ieee.lt Ieee.le Ieee.mul
figures-hold held = refl
