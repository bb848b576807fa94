-- A pin in range stays so. Assumes nothing.
use mathlib.Core.Bool.{Bool, true, false, cond}
use Prim.Native.Nat.{ℕ, ◌≤◌, ◌<◌}
use lib.Dec.{eqb, lit≤}
use lib.Ieee as Ieee
use lib.Ieee.{Float}
use Rattle.pins.specs.declared.Source.{Source}
use Rattle.pins.specs.declared.Pin.{Pin}
use Rattle.pins.specs.declared.Mcu.{Mcu}
use Rattle.pins.specs.declared.ExtDrive.{ExtDrive}
use Rattle.pins.specs.declared.ExtDrive.TheVariants as ext
use Rattle.pins.specs.Pins.{by_chip, by_outside, by_pull, only_held, driven_level, effective_dir, supply_at, clamped, vil, vih, triggered, settled_by, with_level, sensed_from, resolved}
use Rattle.gpio.specs.declared.Gpio.{Gpio}
use Rattle.gpio.specs.declared.PinCfg.{PinCfg}
use Rattle.gpio.specs.Gpio.{GpioFit, signal_of, drives, side_of, output_side, signal_side, input_side, with_pin, with_mcu, configured, connected, updated, refreshed}

-- what holds of both holds of either
either : {A : Type 0} (P : A → Type 0) (b : Bool) {x y : A} → P x → P y → P (cond b x y)
either P true p q = p
either P false p q = q

record McuFit (m : Mcu) : Type 0 where
  out : m.out ≤ 1
  value : m.ov_value ≤ 1

record PinFit (p : Pin) : Type 0 where
  mcu : McuFit p.mcu
  level : p.level ≤ 1

module _ (p : Pin) (vcc : Float) (f : PinFit p) where
  at_level : (l : ℕ) (v : Float) (s : Source) → l ≤ 1 → PinFit (with_level p l v s)
  at_level l v s h = record { mcu = f.mcu; level = h }

  sensed-fit : (e : ExtDrive) → PinFit (sensed_from p vcc e)
  unfolding sensed_from
  sensed-fit ext.Low = at_level 0 (supply_at vcc 0) by_outside (lit≤ tt)
  sensed-fit ext.High = at_level 1 vcc by_outside (lit≤ tt)
  sensed-fit (ext.Analog x) =
      let high = Ieee.le (vih vcc) (clamped x vcc) in
      let low = Ieee.le (clamped x vcc) (vil vcc) in
      at_level (triggered (clamped x vcc) vcc p.level) (clamped x vcc) (settled_by (clamped x vcc) vcc)
      (either (λ (n : ℕ). n ≤ 1) high (lit≤ tt) (either (λ (n : ℕ). n ≤ 1) low (lit≤ tt) f.level))
  sensed-fit ext.Float =
      either PinFit (eqb p.mcu.pullup 0)
      (either PinFit (eqb p.mcu.pulldown 0) (at_level p.level (supply_at vcc p.level) only_held f.level) (at_level 0 (supply_at vcc 0) by_pull (lit≤ tt)))
      (at_level 1 vcc by_pull (lit≤ tt))

  resolved-fit : PinFit (resolved p vcc)
  unfolding resolved
  resolved-fit =
      either PinFit (eqb (effective_dir p) 0) (sensed-fit p.ext)
      (at_level (driven_level p) (supply_at vcc (driven_level p)) by_chip (either (λ (n : ℕ). n ≤ 1) (eqb p.mcu.ov_enable 0) f.mcu.out f.mcu.value))

module _ (g : Gpio) (f : GpioFit g) where
  abbrev pin-fit : PinFit g.pin
  pin-fit = record { mcu = record { out = f.out; value = f.value }; level = f.level }

  with-pin : (p : Pin) → PinFit p → GpioFit (with_pin g p)
  with-pin p h = record { odr = f.odr; out = h.mcu.out; value = h.mcu.value; level = h.level; sig = f.sig }

  side-fit : (level : ℕ) → level ≤ 1 → McuFit (side_of g level)
  unfolding side_of
  side-fit level h =
      either McuFit (eqb g.cfg.mode 1) {x = output_side g.pin.mcu g.cfg} (record { out = f.odr; value = f.value })
      (either McuFit (drives (signal_of g)) {x = signal_side g.pin.mcu g.cfg level} {y = input_side g.pin.mcu g.cfg} (record { out = f.out; value = h }) (record { out = f.out; value = f.value }))

  pub connected-fit : (e : ExtDrive) → GpioFit (connected g e)
  connected-fit e = record { odr = f.odr; out = f.out; value = f.value; level = f.level; sig = f.sig }

  pub configured-fit : (c : PinCfg) (s : ℕ) → c.odr ≤ 1 → s < 256 → GpioFit (configured g c s)
  configured-fit c s h k = record { odr = h; out = f.out; value = f.value; level = f.level; sig = k }

pub updated-fit : (i : ℕ) (g : Gpio) (vcc : Float) → GpioFit g → GpioFit (updated i g vcc).gpio
unfolding updated
updated-fit i g vcc f = with-pin g f (resolved g.pin vcc) (resolved-fit g.pin vcc (pin-fit g f))

pub refreshed-fit : (i : ℕ) (g : Gpio) (level : ℕ) (vcc : Float) → GpioFit g → level ≤ 1 → GpioFit (refreshed i g level vcc).gpio
unfolding refreshed
refreshed-fit i g level vcc f h =
    let m : McuFit (side_of g level) = side-fit g f level h in
    updated-fit i (with_mcu g (side_of g level)) vcc (record { odr = f.odr; out = m.out; value = m.value; level = f.level; sig = f.sig })
