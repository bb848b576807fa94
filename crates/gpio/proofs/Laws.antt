-- What a refreshed pin is. Assumes nothing.
use mathlib.Core.Path.{◌≡◌, refl, sym}
use mathlib.Core.Bool.{Bool, true, false, not}
use Prim.Native.Nat.{ℕ}
use lib.Dec.{eqb}
use Rattle.std.specs.Cmp.{first_so, second_so}
use lib.Ieee.{Float}
use borrow.Author.Tests.{eqb-true}
use Rattle.pins.specs.Pins.{resolved}
use Rattle.gpio.specs.declared.Gpio.{Gpio}
use Rattle.gpio.specs.Gpio.{signal_of, drives, side_of, changed, updated, refreshed, is_push_pull, push_pull}

-- the change is that of the level
pub level-change : (i : ℕ) (g : Gpio) (level : ℕ) (vcc : Float) → (refreshed i g level vcc).change ≡ changed i g.pin.level (refreshed i g level vcc).gpio.pin.level (refreshed i g level vcc).gpio.pin.source
unfolding refreshed updated
level-change i g level vcc = refl

not_back : (b : Bool) → not b ≡ true → b ≡ false
not_back true h = sym h
not_back false h = refl

module _ (g : Gpio) (h : is_push_pull g.cfg ≡ true) where
  mode : g.cfg.mode ≡ 2
  mode = eqb-true g.cfg.mode 2 (first_so (eqb g.cfg.mode 2) (not g.cfg.open_drain) h)

  closed : g.cfg.open_drain ≡ false
  closed = not_back g.cfg.open_drain (second_so (eqb g.cfg.mode 2) (not g.cfg.open_drain) h)

  -- its signal is the selected one
  pub own-signal : signal_of g ≡ g.sig
  own-signal = rw mode

  -- a signal that drives it decides its level
  pub signal-wins : drives g.sig ≡ true → (i level : ℕ) (vcc : Float) → (refreshed i g level vcc).gpio ≡ push_pull g level vcc
  unfolding refreshed updated side_of resolved push_pull
  signal-wins d i level vcc = rw (mode, d, closed)
