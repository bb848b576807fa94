-- A pin's signal is one of the 256. Assumes nothing.
use mathlib.Core.Path.{◌≡◌}
use native.Mathlib.Omega.{arith}
use mathlib.Core.Bool.{Bool, true, false, cond}
use mathlib.Core.List.{List}
use Prim.Native.Nat.{ℕ, ◌≤◌, ◌<◌}
use lib.Dec.{eqb, lit<}
use lib.Ieee.{Float}
use lib.ListN.{length}
use Rattle.gpio.specs.declared.Gpio.{Gpio}
use Rattle.gpio.specs.Gpio.{signal_of}
use Rattle.gpio.specs.declared.PinCfg.{PinCfg}
use Rattle.machine.specs.Board.{plain_cfg, gpio_at, level_of}
use Rattle.state.specs.View.{view}
use Rattle.state.proofs.InRange.{bounded}

signal-small : (w : List ℕ) (x : List Float) (i : ℕ) → signal_of (gpio_at (view w x).pads i) < 256
signal-small w x i = go (eqb (gpio_at (view w x).pads i).cfg.mode 2)
  where
    go : (b : Bool) → cond b (gpio_at (view w x).pads i).sig 0 < 256
    go true = ((bounded w x).gpio-fit i).sig
    go false = lit< tt

-- that of a pin that was loaded
pub loaded-small : (w : List ℕ) (x : List Float) (i : ℕ) {g : Gpio} {s : ℕ} → g ≡ gpio_at (view w x).pads i → s ≡ signal_of g → s < 256
loaded-small w x i e f = rw (f, e) (signal-small w x i)

-- there are at most 128 pins
pub pins-small : (w : List ℕ) (x : List Float) {n : ℕ} → n ≡ (view w x).counts.pins → n ≤ 128
pins-small w x e = omega (arith, (bounded w x).pins-le)

-- a signal's level is 0 or 1
pub level-small : (w : List ℕ) (x : List Float) (s : ℕ) {l : ℕ} → l ≡ level_of (view w x).pads s → l ≤ 1
level-small w x s e = omega (arith, (bounded w x).level-le s)

-- the pads hold each of the 128 pins
pub pin-there : (w : List ℕ) (x : List Float) {i : ℕ} → i < 128 → i < length (view w x).pads.gpio
pin-there w x h = omega (arith, (bounded w x).gpio-length)

-- what a default configuration's fields are, the plain one's
pub plain : (c : PinCfg) → (c.mode ≡ 0) × ((c.open_drain ≡ false) × ((c.odr ≡ 0) × ((c.pullup ≡ false) × (c.pulldown ≡ false)))) → c ≡ plain_cfg
plain c h =
    let e : ◌≡◌ {A = PinCfg} (record { mode = c.mode; open_drain = c.open_drain; odr = c.odr; pullup = c.pullup; pulldown = c.pulldown }) plain_cfg =
    rw (h.0, h.1.0, h.1.1.0, h.1.1.1.0, h.1.1.1.1) in
    e
