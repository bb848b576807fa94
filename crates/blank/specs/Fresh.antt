-- The words of the board before set-up: the Rust's ArmSys::new with no timers, pins or lines.
use Rattle.std.specs.Prelude.{List, [], ◌∷◌, ℕ}
use Rattle.scheduler.specs.Booking.{never}
use Rattle.sig.specs.Signal.{idle_level}
use Rattle.state.specs.Parts.{listed, repeated}

-- in parts, as the view cuts them
abbrev pub blank_parts : List (List ℕ)
blank_parts =
    repeated 320 0
    ∷ repeated 4 0
    ∷ repeated 6 0
    ∷ repeated 1 0
    ∷ repeated 9 0
    ∷ repeated 8 never
    ∷ repeated 256 128
    ∷ listed idle_level 0 256
    ∷ repeated 256 0
    ∷ repeated 2048 0
    ∷ repeated 2048 0
    ∷ []
