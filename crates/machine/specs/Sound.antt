-- What holds of every board that calls lead to: sizes, different timers, consistent routing, and a routed pin that shows its signal.
use Rattle.std.specs.Prelude.{◌≡◌, true, false, ℕ, ◌≤◌, ◌<◌, get_or, length, Option, Some, None}
use Rattle.gpio.specs.declared.Edge.{Edge}
use Rattle.gpio.specs.Gpio.{drives, signal_side, alternate_mode}
use Rattle.machine.specs.Board.{Board, Pads, timer_at, gpio_at, route_of, level_of, no_pin}

-- pin p routes signal s: it is in alternate mode and selected s; the chip's side is that of a signal at its level; a push-pull pin shows it
pub record Routed (pads : Pads) (s p : ℕ) : Type 0 where
  pub mode : (gpio_at pads p).cfg.mode ≡ alternate_mode
  pub selects : (gpio_at pads p).sig ≡ s
  pub side : drives s ≡ true → (gpio_at pads p).pin.mcu ≡ signal_side (gpio_at pads p).pin.mcu (gpio_at pads p).cfg (level_of pads s)
  pub shows : drives s ≡ true → (gpio_at pads p).cfg.open_drain ≡ false → (gpio_at pads p).pin.level ≡ level_of pads s

pub record SoundPads (pads : Pads) : Type 0 where
  pub gpios : length pads.gpio ≡ 128
  pub routes : length pads.route ≡ 256
  pub levels : length pads.sig_level ≡ 256
  -- the table's entries are signals
  pub table : (k : ℕ) → get_or pads.af k 0 < 256
  -- 0 is no signal
  pub none : route_of pads 0 ≡ no_pin
  pub routed : (s p : ℕ) → s < 256 → p < 128 → route_of pads s ≡ p → Routed pads s p
  -- a pin that selected a signal routes it
  pub owns : (p : ℕ) → ((gpio_at pads p).sig ≡ 0 → ⊥) → route_of pads (gpio_at pads p).sig ≡ p

pub record Sound (b : Board) : Type 0 where
  pub timers : length b.timers ≡ 8
  pub few-timers : b.counts.timers ≤ 8
  pub few-pins : b.counts.pins ≤ 128
  pub distinct : (i j : ℕ) → i < b.counts.timers → j < b.counts.timers → (timer_at b i).inst.n ≡ (timer_at b j).inst.n → i ≡ j
  pub channels : (i : ℕ) → i < b.counts.timers → (timer_at b i).inst.channels ≤ 4
  -- no pin beyond the board's selected a signal
  pub beyond : (p : ℕ) → b.counts.pins ≤ p → (gpio_at b.pads p).sig ≡ 0
  pub pads : SoundPads b.pads

-- between two pads nothing was done to the signal s and the pin p that routes it (its outside drive and volts aside)
pub record Held (s p : ℕ) (a b : Pads) : Type 0 where
  pub route : route_of b s ≡ route_of a s
  pub level : level_of b s ≡ level_of a s
  pub cfg : (gpio_at b p).cfg ≡ (gpio_at a p).cfg
  pub sig : (gpio_at b p).sig ≡ (gpio_at a p).sig
  pub mcu : (gpio_at b p).pin.mcu ≡ (gpio_at a p).pin.mcu
  pub shown : (gpio_at b p).pin.level ≡ (gpio_at a p).pin.level

-- a level change that is not pin p's
abbrev pub Elsewhere : ℕ → Option Edge → Type 0
Elsewhere p None = Unit {0}
Elsewhere p (Some e) = e.pin ≡ p → ⊥
