-- "One channel, one socket" (document 02, F-4): what holds of the pins on every board that calls lead to. Proved in proofs/Reach.antt
-- (`one-socket : OneSocket`).
use Rattle.std.specs.Prelude.{◌≡◌, List, ℕ}
use Rattle.gpio.specs.Gpio.{signal_of}
use Rattle.machine.specs.Board.{Pads, gpio_at, route_of, first_board}
use Rattle.machine.specs.Call.{Call}
use Rattle.machine.specs.Step.{board_after}

-- `signal_of` a pin is the signal that it selects in alternate mode, 0 in another mode
pub record Sockets (pads : Pads) : Type 0 where
  -- a pin in alternate mode with a non-zero signal selected routes it
  pub selected-routes : (p : ℕ) → (signal_of (gpio_at pads p) ≡ 0 → ⊥) → route_of pads (signal_of (gpio_at pads p)) ≡ p
  -- so two pins never select one signal
  pub one-pin : (p q : ℕ) → (signal_of (gpio_at pads p) ≡ 0 → ⊥) → signal_of (gpio_at pads p) ≡ signal_of (gpio_at pads q) → p ≡ q

abbrev pub OneSocket : Type 0
OneSocket = (cs : List Call) → Sockets (board_after first_board cs).pads
