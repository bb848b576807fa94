-- A pin's change is its entry: the laws behind "An entry is made exactly when a pin's level changes". Assumes nothing.
use mathlib.Core.Path.{◌≡◌, refl, ap, sym, ◌∙◌}
use mathlib.Core.Bool.{Bool, true, false, cond}
use mathlib.Core.List.{List, [], ◌∷◌}
use Prim.Native.Nat.{ℕ, ◌<◌}
use native.Mathlib.Omega.{arith}
use lib.Dec.{eqb}
use lib.ListN.{length, set, get_or, length-set}
use lib.Seq.{get_or-set_same}
use Rattle.gpio.specs.declared.Gpio.{Gpio}
use Rattle.gpio.specs.declared.PinCfg.{PinCfg}
use Rattle.pins.specs.declared.ExtDrive.{ExtDrive}
use Rattle.std.specs.Prelude.{Some, None}
use Rattle.gpio.specs.Gpio.{updated, refreshed, configured, connected, signal_of, with_mcu, side_of, edge}
use Rattle.pins.specs.declared.Source.{Source}
use Rattle.pins.specs.Pins.{source_number, resolved}
use lib.Ieee.{Float}
use Rattle.book.specs.Book.{entry_of}
use Rattle.machine.specs.Board.{Pads, gpio_at, route_of, level_of, with_gpio, with_route, no_pin, no_gpio}
use Rattle.machine.specs.Demand1.{edge_of, pin_level, pin_source}
use Rattle.machine.specs.Sys.{update_pin, refresh_pin, select_af, selected, leave, take, set_pin, drive_pin}

entry-of : (i new : ℕ) (source : Source) (cycle : ℕ) (same : Bool)
    → entry_of cycle (cond same None (Some (edge i new source))) ≡ cond same [] (record { pin = i; level = new; cycle = cycle; source = source_number source } ∷ [])
unfolding entry_of
entry-of i new source cycle true = refl
entry-of i new source cycle false = refl

put : (p : Pads) (i : ℕ) (g : Gpio) → i < length p.gpio → gpio_at (with_gpio p i g) i ≡ g
put p i g h = get_or-set_same p.gpio i g no_gpio h

updated-edge : (i : ℕ) (g : Gpio) (vcc : Float) (cycle : ℕ)
    → entry_of cycle (updated i g vcc).change ≡ edge_of i g.pin.level (updated i g vcc).gpio.pin.level (source_number (updated i g vcc).gpio.pin.source) cycle
unfolding updated
updated-edge i g vcc cycle = entry-of i (resolved g.pin vcc).level (resolved g.pin vcc).source cycle (eqb (resolved g.pin vcc).level g.pin.level)

refreshed-edge : (i : ℕ) (g : Gpio) (level : ℕ) (vcc : Float) (cycle : ℕ)
    → entry_of cycle (refreshed i g level vcc).change ≡ edge_of i g.pin.level (refreshed i g level vcc).gpio.pin.level (source_number (refreshed i g level vcc).gpio.pin.source) cycle
unfolding refreshed
refreshed-edge i g level vcc cycle = updated-edge i (with_mcu g (side_of g level)) vcc cycle

pub update-edge : (p : Pads) (i cycle : ℕ) → i < length p.gpio
    → entry_of cycle (update_pin p i).change ≡ edge_of i (pin_level p i) (pin_level (update_pin p i).pads i) (pin_source (update_pin p i).pads i) cycle
unfolding update_pin
update-edge p i cycle h =
    updated-edge i (gpio_at p i) p.vcc cycle
    ∙ ap (λ (g : Gpio). edge_of i (pin_level p i) g.pin.level (source_number g.pin.source) cycle) (sym (put p i (updated i (gpio_at p i) p.vcc).gpio h))

pub refresh-edge : (p : Pads) (i cycle : ℕ) → i < length p.gpio
    → entry_of cycle (refresh_pin p i).change ≡ edge_of i (pin_level p i) (pin_level (refresh_pin p i).pads i) (pin_source (refresh_pin p i).pads i) cycle
unfolding refresh_pin
refresh-edge p i cycle h =
    let l = level_of p (signal_of (gpio_at p i)) in
    refreshed-edge i (gpio_at p i) l p.vcc cycle
    ∙ ap (λ (g : Gpio). edge_of i (pin_level p i) g.pin.level (source_number g.pin.source) cycle) (sym (put p i (refreshed i (gpio_at p i) l p.vcc).gpio h))

-- routing leaves the pins
leave-gpio : (p : Pads) (i s : ℕ) → (leave p i s).gpio ≡ p.gpio
leave-gpio p i s = go (eqb s 0) (eqb (route_of p s) i)
  where
    go : (a b : Bool) → (cond a p (cond b (with_route p s no_pin) p)).gpio ≡ p.gpio
    go true b = refl
    go false true = refl
    go false false = refl

take-gpio : (p : Pads) (i s : ℕ) → (take p i s).gpio ≡ p.gpio
take-gpio p i s = go (eqb s 0)
  where
    go : (a : Bool) → (cond a p (with_route p s i)).gpio ≡ p.gpio
    go true = refl
    go false = refl

pub select-gpio : (p : Pads) (i : ℕ) (c : PinCfg) (f : ℕ) → (select_af p i c f).gpio ≡ set p.gpio i (configured (gpio_at p i) c (selected p i c f))
unfolding select_af
select-gpio p i c f =
    take-gpio (leave (with_gpio p i (configured (gpio_at p i) c (selected p i c f))) i (gpio_at p i).sig) i (selected p i c f)
    ∙ leave-gpio (with_gpio p i (configured (gpio_at p i) c (selected p i c f))) i (gpio_at p i).sig

select-length : (p : Pads) (i : ℕ) (c : PinCfg) (f : ℕ) → length (select_af p i c f).gpio ≡ length p.gpio
select-length p i c f = ap length (select-gpio p i c f) ∙ simp length-set

select-level : (p : Pads) (i : ℕ) (c : PinCfg) (f : ℕ) → i < length p.gpio → pin_level (select_af p i c f) i ≡ pin_level p i
select-level p i c f h =
    ap (λ (gs : List Gpio). (get_or gs i no_gpio).pin.level) (select-gpio p i c f) ∙ ap (λ (g : Gpio). g.pin.level) (put p i _ h)

pub set-edge : (p : Pads) (i : ℕ) (c : PinCfg) (f cycle : ℕ) → i < length p.gpio
    → entry_of cycle (set_pin p i c f).change ≡ edge_of i (pin_level p i) (pin_level (set_pin p i c f).pads i) (pin_source (set_pin p i c f).pads i) cycle
unfolding set_pin
set-edge p i c f cycle h =
    refresh-edge (select_af p i c f) i cycle (omega (arith, select-length p i c f))
    ∙ ap (λ (old : ℕ). edge_of i old (pin_level (refresh_pin (select_af p i c f) i).pads i) (pin_source (refresh_pin (select_af p i c f) i).pads i) cycle) (select-level p i c f h)

pub drive-edge : (p : Pads) (i : ℕ) (e : ExtDrive) (cycle : ℕ) → i < length p.gpio
    → entry_of cycle (drive_pin p i e).change ≡ edge_of i (pin_level p i) (pin_level (drive_pin p i e).pads i) (pin_source (drive_pin p i e).pads i) cycle
unfolding drive_pin
drive-edge p i e cycle h =
    let q = with_gpio p i (connected (gpio_at p i) e) in
    update-edge q i cycle (simp length-set (h))
    ∙ ap (λ (g : Gpio). edge_of i g.pin.level (pin_level (update_pin q i).pads i) (pin_source (update_pin q i).pads i) cycle) (put p i (connected (gpio_at p i) e) h)
