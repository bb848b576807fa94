-- Pins, routing and outputs (sys.rs; document 01, "Output, signal, pin").
use Rattle.std.specs.Prelude.{Bool, cond, not, ◌&&◌, List, [], ◌∷◌, ℕ, zero, suc, ◌+◌, eqb, ltb, leb, replicate, Option, None}
use Rattle.tim.specs.declared.Timer.{Timer}
use Rattle.tim.specs.Change.{output}
use Rattle.gpio.specs.declared.PinCfg.{PinCfg}
use Rattle.sig.specs.Signal.{tim_signal}
use Rattle.pins.specs.declared.ExtDrive.{ExtDrive}
use Rattle.gpio.specs.declared.Edge.{Edge}
use Rattle.gpio.specs.Gpio.{signal_of, updated, refreshed, configured, connected, bit, alternate_mode}
use Rattle.book.specs.Book.{Changes}
use Rattle.machine.specs.Board.{Pads, gpio_at, route_of, level_of, function_of, with_gpio, with_route, with_sig_level, no_pin, plain_cfg, idle_levels}

-- the pads after a pin was resolved, and its level change
pub record Move : Type 0 where
  pub pads : Pads
  pub change : Option Edge

abbrev pub still : Pads → Move
still p = record { pads = p; change = None }

-- pin i resolved again
unfoldable pub update_pin : Pads → ℕ → Move
update_pin p i =
    let m = updated i (gpio_at p i) p.vcc in
    record { pads = with_gpio p i m.gpio; change = m.change }

-- what the chip drives on pin i made anew, then resolved
unfoldable pub refresh_pin : Pads → ℕ → Move
refresh_pin p i =
    let m = refreshed i (gpio_at p i) (level_of p (signal_of (gpio_at p i))) p.vcc in
    record { pads = with_gpio p i m.gpio; change = m.change }

-- pin i leaves the signal that it selected: the route goes, if it is the pin's
abbrev pub leave : Pads → ℕ → ℕ → Pads
leave p i s = cond (eqb s 0) p (cond (eqb (route_of p s) i) (with_route p s no_pin) p)

-- and takes another: the last pin to take a signal routes it
abbrev pub take : Pads → ℕ → ℕ → Pads
take p i s = cond (eqb s 0) p (with_route p s i)

-- the signal that function f of pin i selects: none unless in alternate mode
abbrev pub selected : Pads → ℕ → PinCfg → ℕ → ℕ
selected p i c f = cond (eqb c.mode alternate_mode) (function_of p i f) 0

-- "a non-zero signal that another pin now routes": signal s, for pin i
abbrev pub taken : Pads → ℕ → ℕ → Bool
taken p i s = not (eqb s 0) && (not (eqb (route_of p s) no_pin) && not (eqb (route_of p s) i))

-- "`select_af`": configuration c with function f
unfoldable pub select_af : Pads → ℕ → PinCfg → ℕ → Pads
select_af p i c f =
    let new = selected p i c f in
    take (leave (with_gpio p i (configured (gpio_at p i) c new)) i (gpio_at p i).sig) i new

-- signal s wants a level: the pin that routes it follows
unfoldable pub sig_out : Pads → ℕ → ℕ → Move
sig_out p s l =
    cond (eqb (level_of p s) l) (still p)
    (let q = with_sig_level p s l in cond (eqb (route_of p s) no_pin) (still q) (refresh_pin q (route_of p s)))

-- the pads after a timer's outputs were driven, and the changes of its four channels
pub record Drive : Type 0 where
  pub pads : Pads
  pub changes : Changes

-- channel ch of a timer at a count
unfoldable pub drive_channel : Timer → ℕ → ℕ → Pads → Move
drive_channel t cnt ch p = cond (ltb ch t.inst.channels) (sig_out p (tim_signal t.inst.n ch) (bit (output t ch cnt))) (still p)

-- "Only timers 2, 3 and 4 drive."
abbrev pub driver : ℕ → Bool
driver n = leb 2 n && leb n 4

-- the four channels, one after the other
abbrev pub four_channels : Timer → ℕ → Pads → Drive
four_channels t cnt p =
    let a = drive_channel t cnt 0 p in
    let b = drive_channel t cnt 1 a.pads in
    let c = drive_channel t cnt 2 b.pads in
    let d = drive_channel t cnt 3 c.pads in
    record { pads = d.pads; changes = record { a = a.change; b = b.change; c = c.change; d = d.change } }

abbrev pub no_changes : Changes
no_changes = record { a = None; b = None; c = None; d = None }

unfoldable pub drive_outputs : Timer → ℕ → Pads → Drive
drive_outputs t cnt p = cond (driver t.inst.n) (four_channels t cnt p) (record { pads = p; changes = no_changes })

-- pin i set: "`select_af` then `refresh_pin`"
unfoldable pub set_pin : Pads → ℕ → PinCfg → ℕ → Move
set_pin p i c f = refresh_pin (select_af p i c f) i

-- pin i driven from outside: "then `update_pin`"
unfoldable pub drive_pin : Pads → ℕ → ExtDrive → Move
drive_pin p i e = update_pin (with_gpio p i (connected (gpio_at p i) e)) i

-- ---- pin reset: no routes, signals as at the start, and each pin an input again; "Inputs from the outside world are kept".
-- The Rust sets the levels of UART and timer signals; no call ever moves another, so that is every signal's level at the start.

unfoldable pub unrouted : Pads → Pads
unrouted p = record { gpio = p.gpio; af = p.af; route = replicate 256 no_pin; sig_level = idle_levels 0 256; vcc = p.vcc }

unfoldable pub reset_pin : Pads → ℕ → Move
reset_pin p i = refresh_pin (with_gpio p i (configured (gpio_at p i) plain_cfg 0)) i

pub record Resets : Type 0 where
  pub pads : Pads
  pub changes : List (Option Edge)

-- n pins from i on
unfoldable pub reset_from : ℕ → ℕ → Pads → Resets
reset_from zero i p = record { pads = p; changes = [] }
reset_from (suc n) i p =
    let m = reset_pin p i in
    let r = reset_from n (i + 1) m.pads in
    record { pads = r.pads; changes = m.change ∷ r.changes }

unfoldable pub reset_pins : Pads → ℕ → Resets
reset_pins p pins = reset_from pins 0 (unrouted p)
