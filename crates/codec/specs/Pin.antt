-- A pin as 16 words and two floats: one word for each field, in the order of the struct's fields; the source is in the level's word. Every content of
-- the words is a value in range: a word counts by its remainder. No word is spare.
use Rattle.std.specs.Prelude.{Bool, cond, List, ℕ, ◌+◌, ◌/◌, ◌%◌, eqb, get_or, Float}
use Rattle.real.specs.Real.{zero_float}
use Rattle.pins.specs.declared.Mcu.{Mcu}
use Rattle.pins.specs.declared.Source.{Source}
use Rattle.pins.specs.Pins.{source_of}
use Rattle.pins.specs.declared.ExtDrive.{ExtDrive}
use Rattle.pins.specs.declared.ExtDrive.TheVariants as ext
use Rattle.gpio.specs.declared.PinCfg.{PinCfg}
use Rattle.gpio.specs.declared.Gpio.{Gpio}

-- word k of b as a number of 8 bits, as a level and as a flag
abbrev pub u8_at : List ℕ → ℕ → ℕ
u8_at b k = get_or b k 0 % 256

abbrev pub u1_at : List ℕ → ℕ → ℕ
u1_at b k = get_or b k 0 % 2

-- the source, above the level's bit: 1, 2, 3, and only held for 0, so that zeroed memory and a state without sources are
abbrev pub source_at : List ℕ → ℕ → Source
source_at b k = source_of (get_or b k 0 / 2 % 4)

abbrev pub flag_at : List ℕ → ℕ → Bool
flag_at b k = eqb (get_or b k 0 % 2) 1

abbrev pub cfg_at : List ℕ → ℕ → PinCfg
cfg_at b k = record { mode = u8_at b k; open_drain = flag_at b (k + 1); odr = u1_at b (k + 2); pullup = flag_at b (k + 3); pulldown = flag_at b (k + 4) }

abbrev pub mcu_at : List ℕ → ℕ → Mcu
mcu_at b k = record {
  dir = u8_at b k;
  out = u1_at b (k + 1);
  pullup = u8_at b (k + 2);
  pulldown = u8_at b (k + 3);
  ov_enable = u8_at b (k + 4);
  ov_value = u1_at b (k + 5);
  ddoe = u8_at b (k + 6);
  ddov = u8_at b (k + 7);
}

-- an outside drive as a number and volts, which count for an analogue drive only
unfoldable pub ext_of : ℕ → Float → ExtDrive
ext_of code x = cond (eqb code 0) ext.Float (cond (eqb code 1) ext.Low (cond (eqb code 2) ext.High (ext.Analog x)))

unfoldable pub ext_code : ExtDrive → ℕ
ext_code ext.Float = 0
ext_code ext.Low = 1
ext_code ext.High = 2
ext_code (ext.Analog x) = 3

unfoldable pub ext_volts : ExtDrive → Float
ext_volts ext.Float = zero_float
ext_volts ext.Low = zero_float
ext_volts ext.High = zero_float
ext_volts (ext.Analog x) = x

-- volts is the pin's, x the analogue drive's
unfoldable pub decode_gpio : List ℕ → Float → Float → Gpio
decode_gpio b volts x = record {
  cfg = cfg_at b 0;
  pin = record { mcu = mcu_at b 5; ext = ext_of (get_or b 13 0 % 4) x; level = u1_at b 14; volts = volts; source = source_at b 14 };
  sig = u8_at b 15;
}
