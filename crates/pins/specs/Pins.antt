-- What a pin's level, volts and source are. Reserved pins are left out (document 01).
use Rattle.std.specs.Prelude.{cond, ℕ, eqb, Float, Option, Some, None}
use Rattle.std.specs.Float.Ieee as Ieee
use Rattle.std.specs.Float.{binary64}
use Rattle.real.specs.Real.{zero_float}
use Rattle.pins.specs.declared.ExtDrive.{ExtDrive}
use Rattle.pins.specs.declared.ExtDrive.TheVariants as ext
use Rattle.pins.specs.declared.Source.{Source}
use Rattle.pins.specs.declared.Source.TheVariants as source
use Rattle.pins.specs.declared.Pin.{Pin}

-- "whether the level comes from 1 the chip .., 2 the outside, 3 a pull, or 4 is only held" (document 02, F-5)
abbrev pub by_chip : Source
by_chip = source.Chip

abbrev pub by_outside : Source
by_outside = source.Outside

abbrev pub by_pull : Source
by_pull = source.Pull

abbrev pub only_held : Source
only_held = source.Held

abbrev pub source_number : Source → ℕ
source_number source.Chip = 1
source_number source.Outside = 2
source_number source.Pull = 3
source_number source.Held = 4

-- the source of a number, where every number but 1 to 3 is only held
abbrev pub source_of : ℕ → Source
source_of n = cond (eqb n 1) by_chip (cond (eqb n 2) by_outside (cond (eqb n 3) by_pull only_held))

-- a pin at first: nothing set, nothing connected, low; "a pin just set up has source 4"
abbrev pub blank : Pin
blank = record {
  mcu = record { dir = 0; out = 0; pullup = 0; pulldown = 0; ov_enable = 0; ov_value = 0; ddoe = 0; ddov = 0 };
  ext = ext.Float;
  level = 0;
  volts = zero_float;
  source = only_held;
}

-- "Value driven by the MCU when the pin is an output."
abbrev pub driven_level : Pin → ℕ
driven_level p = cond (eqb p.mcu.ov_enable 0) p.mcu.out p.mcu.ov_value

-- "Direction after peripheral overrides (1 = output)."
abbrev pub effective_dir : Pin → ℕ
effective_dir p = cond (eqb p.mcu.ddoe 0) p.mcu.dir p.mcu.ddov

-- the volts that the supply gives at a level: none at level 0
abbrev pub supply_at : Float → ℕ → Float
supply_at vcc level = cond (eqb level 0) zero_float vcc

-- `clamp(0.0, vcc)`: below 0 is 0, above the supply is the supply
abbrev pub clamped : Float → Float → Float
clamped v vcc = cond (Ieee.lt v zero_float) zero_float (cond (Ieee.lt vcc v) vcc v)

-- "VIL = 0.3 Vcc, VIH = 0.6 Vcc": 0.3 and 0.6 by their bits
abbrev pub vil : Float → Float
vil vcc = Ieee.mul binary64 (Ieee.of_bits binary64 0x3fd3_3333_3333_3333) vcc

abbrev pub vih : Float → Float
vih vcc = Ieee.mul binary64 (Ieee.of_bits binary64 0x3fe3_3333_3333_3333) vcc

-- "Schmitt-trigger thresholds [..] with hysteresis": high from VIH up, low from VIL down, else the level held
abbrev pub triggered : Float → Float → ℕ → ℕ
triggered v vcc level = cond (Ieee.le (vih vcc) v) 1 (cond (Ieee.le v (vil vcc)) 0 level)

-- the level that the thresholds settle, or none
abbrev pub settled : Float → Float → Option ℕ
settled v vcc = cond (Ieee.le (vih vcc) v) (Some 1) (cond (Ieee.le v (vil vcc)) (Some 0) None)

-- "analogue volts that settle neither level": between the thresholds, and not-a-number, the level is only held, whatever the pulls
abbrev pub settled_by : Float → Float → Source
settled_by v vcc = cond (Ieee.le (vih vcc) v) by_outside (cond (Ieee.le v (vil vcc)) by_outside only_held)

-- the pin at a level and volts that a source gives it
abbrev pub with_level : Pin → ℕ → Float → Source → Pin
with_level p l v s = record { mcu = p.mcu; ext = p.ext; level = l; volts = v; source = s }

-- the pin with another outside drive
abbrev pub with_ext : Pin → ExtDrive → Pin
with_ext p e = record { mcu = p.mcu; ext = e; level = p.level; volts = p.volts; source = p.source }

-- an input: "An outside drive is nothing, low, high, or an analogue drive that carries its volts (not-a-number holds the level)."
-- With nothing connected the pulls decide, and without them "keep the last level".
unfoldable pub sensed_from : Pin → Float → ExtDrive → Pin
sensed_from p vcc ext.Low = with_level p 0 zero_float by_outside
sensed_from p vcc ext.High = with_level p 1 vcc by_outside
sensed_from p vcc (ext.Analog x) = with_level p (triggered (clamped x vcc) vcc p.level) (clamped x vcc) (settled_by (clamped x vcc) vcc)
sensed_from p vcc ext.Float =
    cond (eqb p.mcu.pullup 0)
    (cond (eqb p.mcu.pulldown 0) (with_level p p.level (supply_at vcc p.level) only_held) (with_level p 0 zero_float by_pull))
    (with_level p 1 vcc by_pull)

-- "`Pin::resolve` decides level and volts": an output shows what it drives, an input what is connected. "1 the chip (also if the outside agrees)"
unfoldable pub resolved : Pin → Float → Pin
resolved p vcc = cond (eqb (effective_dir p) 0) (sensed_from p vcc p.ext) (with_level p (driven_level p) (supply_at vcc (driven_level p)) by_chip)
