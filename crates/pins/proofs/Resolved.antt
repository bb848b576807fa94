-- What a pin resolves to, by its direction. Assumes nothing.
use mathlib.Core.Path.{◌≡◌, ap}
use lib.Ieee.{Float}
use borrow.Author.Tests.{eq-eqb, ne_eqb}
use Rattle.pins.specs.declared.ExtDrive.{ExtDrive}
use Rattle.pins.specs.declared.Pin.{Pin}
use Rattle.pins.specs.Pins.{by_chip, effective_dir, driven_level, supply_at, with_level, with_ext, sensed_from, resolved}

pub input : (p : Pin) (vcc : Float) → effective_dir p ≡ 0 → resolved p vcc ≡ sensed_from p vcc p.ext
unfolding resolved
input p vcc h = rw (eq-eqb _ _ h)

pub output : (p : Pin) (vcc : Float) → (effective_dir p ≡ 0 → ⊥) → resolved p vcc ≡ with_level p (driven_level p) (supply_at vcc (driven_level p)) by_chip
unfolding resolved
output p vcc h = rw (ne_eqb _ _ h)

-- "on a push-pull pin a channel's signal wins over any outside drive": an output's level is the one it drives, whatever is connected
pub output-wins : (p : Pin) (vcc : Float) → (effective_dir p ≡ 0 → ⊥) → (e : ExtDrive) → (resolved (with_ext p e) vcc).level ≡ driven_level p
output-wins p vcc h e = ap (λ (q : Pin). q.level) (output (with_ext p e) vcc h)

-- "1 the chip (also if the outside agrees)"
pub output-is-chips : (p : Pin) (vcc : Float) → (effective_dir p ≡ 0 → ⊥) → (e : ExtDrive) → (resolved (with_ext p e) vcc).source ≡ by_chip
output-is-chips p vcc h e = ap (λ (q : Pin). q.source) (output (with_ext p e) vcc h)
