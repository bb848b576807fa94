-- Every decoded timer and every decoded pin is in range. Assumes nothing.
use mathlib.Core.List.{List}
use Prim.Native.Nat.{ℕ}
use native.Mathlib.Omega.{arith}
use Rattle.tim.specs.Timer.{Fit}
use lib.Ieee.{Float}
use Rattle.gpio.specs.Gpio.{GpioFit}
use Rattle.codec.specs.Codec.{decode_timer}
use Rattle.codec.specs.Pin.{decode_gpio}

pub timer-fit : (b : List ℕ) → Fit (decode_timer b)
unfolding decode_timer
timer-fit b = record { psc-lt = omega arith; psc_act-lt = omega arith; tick-pos = omega arith; tick-le = omega arith; base-lt = omega arith }

pub gpio-fit : (b : List ℕ) (volts x : Float) → GpioFit (decode_gpio b volts x)
unfolding decode_gpio
gpio-fit b volts x = omega arith
