-- A pin by value: what its configuration and its signal make it drive, and whether its level changed (sys.rs, refresh_pin and update_pin).
use Rattle.std.specs.Prelude.{Bool, cond, not, ◌&&◌, ℕ, ◌≤◌, ◌<◌, eqb, Option, Some, None}
use Rattle.std.specs.Float.Ieee as Ieee
use Rattle.pins.specs.declared.Pin.{Pin}
use Rattle.pins.specs.declared.Mcu.{Mcu}
use Rattle.pins.specs.declared.ExtDrive.{ExtDrive}
use Rattle.pins.specs.declared.Source.{Source}
use Rattle.pins.specs.Pins.{by_chip, resolved, supply_at}
use Rattle.gpio.specs.declared.Gpio.{Gpio}
use Rattle.gpio.specs.declared.PinCfg.{PinCfg}
use Rattle.sig.specs.Signal.{is_input}
use Rattle.gpio.specs.declared.Edge.{Edge}
use Rattle.gpio.specs.declared.Moved.{Moved}

-- the range of a pin: each level is 0 or 1, the signal one of the 256; its source's type has the four
pub record GpioFit (g : Gpio) : Type 0 where
  pub odr : g.cfg.odr ≤ 1
  pub out : g.pin.mcu.out ≤ 1
  pub value : g.pin.mcu.ov_value ≤ 1
  pub level : g.pin.level ≤ 1
  pub sig : g.sig < 256

-- the modes: "A mode above 3 acts as input"
abbrev pub output_mode : ℕ
output_mode = 1

abbrev pub alternate_mode : ℕ
alternate_mode = 2

-- the signal that a pin is connected to: in alternate mode the selected one, else none (0)
abbrev pub signal_of : Gpio → ℕ
signal_of g = cond (eqb g.cfg.mode alternate_mode) g.sig 0

-- a signal that drives its pin: one that is no receive signal
abbrev pub drives : ℕ → Bool
drives s = not (eqb s 0) && not (is_input s)

abbrev pub bit : Bool → ℕ
bit b = cond b 1 0

-- "Open-drain outputs only pull low; a 1 releases the pin": the direction is overridden by 0
abbrev pub released : PinCfg → ℕ → ℕ
released c level = cond c.open_drain (bit (eqb level 1)) 0

-- what the chip drives: the output bit; a signal's level; nothing
abbrev pub output_side : Mcu → PinCfg → Mcu
output_side m c = record {
  dir = 1;
  out = c.odr;
  pullup = bit c.pullup;
  pulldown = bit c.pulldown;
  ov_enable = 0;
  ov_value = m.ov_value;
  ddoe = released c c.odr;
  ddov = 0;
}

abbrev pub signal_side : Mcu → PinCfg → ℕ → Mcu
signal_side m c level = record {
  dir = 1;
  out = m.out;
  pullup = bit c.pullup;
  pulldown = bit c.pulldown;
  ov_enable = 1;
  ov_value = level;
  ddoe = released c level;
  ddov = 0;
}

abbrev pub input_side : Mcu → PinCfg → Mcu
input_side m c = record {
  dir = 0;
  out = m.out;
  pullup = bit c.pullup;
  pulldown = bit c.pulldown;
  ov_enable = 0;
  ov_value = m.ov_value;
  ddoe = 0;
  ddov = 0;
}

-- by mode, with the level of the pin's signal
unfoldable pub side_of : Gpio → ℕ → Mcu
side_of g level =
    cond (eqb g.cfg.mode output_mode) (output_side g.pin.mcu g.cfg)
    (cond (drives (signal_of g)) (signal_side g.pin.mcu g.cfg level) (input_side g.pin.mcu g.cfg))

abbrev pub with_pin : Gpio → Pin → Gpio
with_pin g p = record { cfg = g.cfg; pin = p; sig = g.sig }

abbrev pub with_mcu : Gpio → Mcu → Gpio
with_mcu g m = with_pin g (record { mcu = m; ext = g.pin.ext; level = g.pin.level; volts = g.pin.volts; source = g.pin.source })

abbrev pub edge : ℕ → ℕ → Source → Edge
edge i level source = record { pin = i; level = level; source = source }

-- "An entry is made exactly when a pin's level changes", "A change of source alone makes no entry": the change of pin i from an old level to a new
-- one, which a source gives it
abbrev pub changed : ℕ → ℕ → ℕ → Source → Option Edge
changed i old new source = cond (eqb new old) None (Some (edge i new source))

-- a pin resolved at the supply, and its change
unfoldable pub updated : ℕ → Gpio → Ieee.Float → Moved
updated i g vcc =
    let p = resolved g.pin vcc in
    record { gpio = with_pin g p; change = changed i g.pin.level p.level p.source }

-- the chip's side made anew, then resolved
unfoldable pub refreshed : ℕ → Gpio → ℕ → Ieee.Float → Moved
refreshed i g level vcc = updated i (with_mcu g (side_of g level)) vcc

-- ---- a push-pull pin that its signal drives

-- in alternate mode, and not open drain
abbrev pub is_push_pull : PinCfg → Bool
is_push_pull c = eqb c.mode alternate_mode && not c.open_drain

-- such a pin at the level of a signal that drives it, whatever is connected: its source is the chip
unfoldable pub push_pull : Gpio → ℕ → Ieee.Float → Gpio
push_pull g l vcc = with_pin g (record {
  mcu = record {
    dir = 1;
    out = g.pin.mcu.out;
    pullup = bit g.cfg.pullup;
    pulldown = bit g.cfg.pulldown;
    ov_enable = 1;
    ov_value = l;
    ddoe = 0;
    ddov = 0;
  };
  ext = g.pin.ext;
  level = l;
  volts = supply_at vcc l;
  source = by_chip;
})

-- another configuration and signal
abbrev pub configured : Gpio → PinCfg → ℕ → Gpio
configured g c s = record { cfg = c; pin = g.pin; sig = s }

-- another outside drive
abbrev pub connected : Gpio → ExtDrive → Gpio
connected g e = with_pin g (record { mcu = g.pin.mcu; ext = e; level = g.pin.level; volts = g.pin.volts; source = g.pin.source })
