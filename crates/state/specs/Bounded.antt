-- What is in range on every board that the arrays hold.
use Rattle.std.specs.Prelude.{◌≡◌, ℕ, ◌<◌, ◌≤◌, length, get_or}
use Rattle.tim.specs.Timer.{Fit}
use Rattle.gpio.specs.Gpio.{GpioFit}
use Rattle.machine.specs.Board.{Board, timer_at}
use Rattle.state.specs.Board.{Divided, pin_at, route_at, sig_level_at, enr_at}

pub record Bounded (b : Board) : Type 0 where
  pub timer-fit : (i : ℕ) → Fit (timer_at b i)
  pub gpio-fit : (p : ℕ) → GpioFit (pin_at b p)
  pub af-lt : (k : ℕ) → get_or b.pads.af k 0 < 256
  pub route-le : (s : ℕ) → route_at b s ≤ 128
  pub level-le : (s : ℕ) → sig_level_at b s ≤ 1
  pub enr-lt : (i : ℕ) → enr_at b i < 4294967296
  pub divided : Divided b.clocks.tree
  pub timers-le : b.counts.timers ≤ 8
  pub pins-le : b.counts.pins ≤ 128
  pub nirq-le : b.nvic.nirq ≤ 256
  pub timers-length : length b.timers ≡ 8
  pub booking-length : length b.booking ≡ 8
  pub lines-length : length b.nvic.lines ≡ 256
  pub gpio-length : length b.pads.gpio ≡ 128
  pub af-length : length b.pads.af ≡ 2048
  pub route-length : length b.pads.route ≡ 256
  pub level-length : length b.pads.sig_level ≡ 256
  pub enr-length : length b.clocks.enr ≡ 9
