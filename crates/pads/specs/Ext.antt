-- The outside drive that a call's number and volts ask for.
use Rattle.std.specs.Prelude.{cond, ℕ, eqb}
use Rattle.std.specs.Float.Ieee as Ieee
use Rattle.pins.specs.declared.ExtDrive.{ExtDrive}
use Rattle.pins.specs.declared.ExtDrive.TheVariants.{Float, Low, High, Analog}

-- "nothing, low, high, or an analogue drive that carries its volts": 1 is low, 2 high, 3 analogue, every other number nothing
abbrev pub drive_of : ℕ → Ieee.Float → ExtDrive
drive_of kind volts = cond (eqb kind 1) Low (cond (eqb kind 2) High (cond (eqb kind 3) (Analog volts) Float))
