-- A flag, a level with its source, and an outside drive come back from their words. Assumes nothing.
use mathlib.Core.Path.{◌≡◌, refl}
use mathlib.Core.Bool.{Bool, true, false}
use Prim.Native.Nat.{ℕ, ◌+◌, ◌*◌, ◌/◌, ◌%◌, ◌≤◌}
use native.Mathlib.Omega.{arith}
use lib.Dec.{eqb}
use mir.Val.{bool_byte}
use Rattle.pins.specs.declared.Source.{Source}
use Rattle.pins.specs.Pins.{source_number, source_of}
use Rattle.pins.proofs.Sources.{back-of-bits}
use Rattle.pins.specs.declared.ExtDrive.{ExtDrive}
use Rattle.pins.specs.declared.ExtDrive.TheVariants as ext
use Rattle.codec.specs.Pin.{ext_of, ext_code, ext_volts}

pub flag : (b : Bool) → eqb (bool_byte b % 2) 1 ≡ b
flag true = refl
flag false = refl

-- the level's word: the level, and above it the source
pub level-back : (l s : ℕ) → l ≤ 1 → (l + 2 * (s % 4)) % 2 ≡ l
level-back l s h = omega arith

pub source-back : (l : ℕ) (s : Source) → l ≤ 1 → source_of ((l + 2 * (source_number s % 4)) / 2 % 4) ≡ s
source-back l s h =
    let e : (l + 2 * (source_number s % 4)) / 2 % 4 ≡ source_number s % 4 = omega arith in
    rw e (back-of-bits s)

pub drive : (e : ExtDrive) → ext_of (ext_code e % 4) (ext_volts e) ≡ e
unfolding ext_of ext_code ext_volts
drive ext.Float = refl
drive ext.Low = refl
drive ext.High = refl
drive (ext.Analog x) = refl
