-- Parts of the list of reasons (crates/machine/specs/Why.antt, `tests`), as the code asks them.
use Rattle.std.specs.Prelude.{Bool, ◌&&◌, List, [], ◌∷◌, ℕ, eqb, Option, Some, None}
use Rattle.tim.specs.declared.Timer.{Timer}
use Rattle.gpio.specs.declared.Gpio.{Gpio}
use Rattle.why.specs.declared.Reason.{Reason}
use Rattle.why.specs.declared.Reason.TheVariants.{High, DrivesNothing, OutputsZero, SelectsNone, Released, Unfed, Unrouted, Off, Held, Counted, Unknown}
use Rattle.machine.specs.Why.{is_high, drives_nothing, outputs_zero, selects_none, is_released, is_off, is_held, counts_low}

-- 0 to 4: of the pin
abbrev pub pin_tests : Gpio → ℕ → List Bool
pin_tests g level = is_high g ∷ drives_nothing g.cfg ∷ outputs_zero g.cfg ∷ selects_none g ∷ is_released g level ∷ []

-- 7 to 9: of the channel that feeds it
abbrev pub channel_tests : Timer → ℕ → ℕ → ℕ → List Bool
channel_tests t ch level cycle = is_off t ch ∷ (is_held t ch && eqb level 0) ∷ (counts_low t ch cycle && eqb level 0) ∷ []

-- a reason's number, and that of none
abbrev pub number_of : Reason → ℕ
number_of High = 0
number_of DrivesNothing = 1
number_of OutputsZero = 2
number_of SelectsNone = 3
number_of Released = 4
number_of Unfed = 5
number_of Unrouted = 6
number_of Off = 7
number_of Held = 8
number_of Counted = 9
number_of Unknown = 10

abbrev pub number_or : ℕ → Option Reason → ℕ
number_or n None = n
number_or n (Some r) = number_of r
