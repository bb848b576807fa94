-- The cleared words are the machine's board without timers, pins or lines. Assumes nothing.
use mathlib.Core.Path.{◌≡◌, refl}
use mathlib.Core.List.{[]}
use Prim.Native.Nat.{ℕ}
use lib.Ieee.{Float}
use Rattle.nvic.specs.Nvic.{idle}
use Rattle.scheduler.specs.Booking.{never}
use Rattle.codec.specs.Codec.{decode_timer}
use Rattle.machine.specs.Board.{no_timer, blank_gpio, fresh_board}
use Rattle.blank.proofs.Blank.{blank_board}
use Rattle.blank.proofs.Unrouted.{alike, idle-list}

empty-timer : decode_timer [] ≡ no_timer
unfolding decode_timer
empty-timer = refl

pub first : (hz vcc : Float) → blank_board hz vcc ≡ fresh_board hz vcc 0 0 [] []
unfolding blank_board fresh_board
first hz vcc =
    rw (
      empty-timer,
      alike no_timer 0 8,
      alike never 0 8,
      alike idle 0 256,
      alike blank_gpio 0 128,
      alike {A = ℕ} 0 0 2048,
      alike {A = ℕ} 128 0 256,
      idle-list 0 256,
      alike {A = ℕ} 0 0 9,
    )
