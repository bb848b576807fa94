-- Words and their calls, by computation: one of each kind, a list that ends in no call, and a call cut short.
use mathlib.Core.Path.{◌≡◌, refl}
use mathlib.Core.List.{List, [], ◌∷◌, map}
use Prim.Native.Nat.{ℕ}
use lib.Ieee as Ieee
use lib.Ieee.{binary64}
use Rattle.machine.specs.Call.{Call, set_up, clock_tree, enable, set_pin, drive_pin, reset_pins, read, write, peek, reset_timer, deliver, query_booked, query_next, query_level, query_volts, query_line, query_time, query_why, clear_pending}
use Rattle.setup.specs.Setup.{setup_of}
use Rattle.pads.specs.Ext.{drive_of}
use Rattle.encoding.specs.Encoding.{word, word64, real64, book_call, change_call, question_call, call_with, size_of, len_of, book_of}
use Rattle.calls.specs.Taken.{calls_from, calls_of}

pub record Figure : Type 0 where
  pub words : List ℕ
  pub calls : List Call

abbrev pub figures : List Figure
figures =
    record { words = 2 ∷ 3 ∷ 1 ∷ 5 ∷ 7 ∷ 1 ∷ 4 ∷ 0 ∷ 12 ∷ 17 ∷ 8 ∷ []; calls = enable 3 1 ∷ reset_pins 4294967303 4 ∷ query_next ∷ clear_pending 8 ∷ [] }
    ∷ record { words = 3 ∷ 1 ∷ 2 ∷ 3 ∷ 4 ∷ 5 ∷ 6 ∷ 7 ∷ 8 ∷ 0 ∷ 9 ∷ 0 ∷ 9 ∷ 1 ∷ 2 ∷ 0 ∷ 3 ∷ 0 ∷ []; calls = set_pin 1 2 3 4 5 6 7 8 9 ∷ reset_timer 1 2 3 ∷ [] }
    ∷ record { words = 4 ∷ 1 ∷ 2 ∷ 0 ∷ 0 ∷ 3 ∷ 0 ∷ 4 ∷ 0 ∷ []; calls = drive_pin 1 (drive_of 2 (Ieee.of_bits binary64 0)) 3 4 ∷ [] }
    ∷ record { words = 7 ∷ 1 ∷ 2 ∷ 3 ∷ 4 ∷ 5 ∷ 0 ∷ 6 ∷ 0 ∷ 10 ∷ 1 ∷ 2 ∷ 0 ∷ 3 ∷ 0 ∷ []; calls = write 1 2 3 4 5 6 ∷ deliver 1 2 3 ∷ [] }
    ∷ record { words = 6 ∷ 1 ∷ 2 ∷ 3 ∷ 4 ∷ 0 ∷ 8 ∷ 1 ∷ 2 ∷ 3 ∷ 0 ∷ 16 ∷ 1 ∷ 0 ∷ []; calls = read 1 2 3 4 ∷ peek 1 2 3 ∷ query_time 1 ∷ [] }
    ∷ record { words = 11 ∷ 1 ∷ 13 ∷ 2 ∷ 14 ∷ 3 ∷ 15 ∷ 4 ∷ 19 ∷ 12 ∷ []; calls = query_booked 1 ∷ query_level 2 ∷ query_volts 3 ∷ query_line 4 ∷ [] }
    ∷ record { words = 18 ∷ 1 ∷ 2 ∷ 3 ∷ 12 ∷ 18 ∷ 1 ∷ []; calls = query_why 1 12884901890 ∷ query_next ∷ [] }
    ∷ record { words = 12 ∷ 16 ∷ 1 ∷ []; calls = query_next ∷ [] }
    ∷ []

pub figures-hold : map (λ (f : Figure). calls_of f.words) figures ≡ map (λ (f : Figure). f.calls) figures
unfolding word word64 real64 book_call change_call question_call call_with size_of len_of book_of calls_from
figures-hold = refl

-- set-up: one timer, in manual mode, three entries of the table
pub set-up-figure : calls_of (0 ∷ 0 ∷ 0 ∷ 0 ∷ 0 ∷ 1 ∷ 2 ∷ 1 ∷ 3 ∷ 5 ∷ 10 ∷ 11 ∷ 12 ∷ 13 ∷ 14 ∷ 15 ∷ 16 ∷ 20 ∷ 21 ∷ 22 ∷ [])
    ≡ set_up (setup_of (Ieee.of_bits binary64 0) (Ieee.of_bits binary64 0) 1 2 5 (10 ∷ 11 ∷ 12 ∷ 13 ∷ 14 ∷ 15 ∷ 16 ∷ []) (20 ∷ 21 ∷ 22 ∷ [])) ∷ []
unfolding word word64 real64 book_call change_call question_call call_with size_of len_of book_of calls_from
set-up-figure = refl

-- the clock tree: each number in its place
pub clock-figure : calls_of (1 ∷ 0 ∷ 0 ∷ 0 ∷ 0 ∷ 1 ∷ 2 ∷ 3 ∷ 4 ∷ 5 ∷ 6 ∷ 7 ∷ 0 ∷ [])
    ≡ clock_tree (record { sysclk_hz = Ieee.of_bits binary64 0; hclk_hz = Ieee.of_bits binary64 0; ppre1 = 1; ppre2 = 2; ppre3 = 3; ppre4 = 4; tim1 = 5; tim2 = 6 }) 7 ∷ []
unfolding word word64 real64 book_call change_call question_call call_with size_of len_of book_of calls_from
clock-figure = refl
