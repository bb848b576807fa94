-- The board that the lent words and reals hold. Every content is a board: a number counts by its remainder, or is cut off at its bound.
-- How the arrays are cut is this crate's own affair.
use Rattle.std.specs.Prelude.{List, [], ◌∷◌, map, ℕ, ◌+◌, ◌%◌, min, get_or, drop, Float}
use Rattle.std.specs.Float.{nan}
use Rattle.clk.specs.declared.ClockTree.{ClockTree}
use Rattle.pins.specs.declared.ClockModel.{ClockModel}
use Rattle.nvic.specs.Nvic.{nvic_of}
use Rattle.gpio.specs.declared.Gpio.{Gpio}
use Rattle.codec.specs.Codec.{decode_timer}
use Rattle.codec.specs.Pin.{decode_gpio}
use Rattle.machine.specs.Board.{Board, Counts}
use Rattle.state.specs.Parts.{parts, blocks}

-- the words: 8 timers of 40; the counts of timers, pins and lines, and the last cycle; six dividers; the clock's cycle; nine enable words;
-- 8 bookings; 256 routes; 256 signal levels; 256 lines; 128 pins of 16; the signal table. 64 spare words follow.
abbrev pub sizes : List ℕ
sizes = 320 ∷ 4 ∷ 6 ∷ 1 ∷ 9 ∷ 8 ∷ 256 ∷ 256 ∷ 256 ∷ 2048 ∷ 2048 ∷ []

-- the reals: two of each pin; the supply; SYSCLK and HCLK; the clock's frequency and time. 3 spare reals follow.
abbrev pub real_sizes : List ℕ
real_sizes = 256 ∷ 1 ∷ 2 ∷ 2 ∷ []

-- a divider's word holds one less
abbrev pub divider_held : ℕ → ℕ
divider_held w = w % 8192 + 1

abbrev pub tree_of : List ℕ → List Float → ClockTree
tree_of ds fs = record {
  sysclk_hz = get_or fs 0 nan;
  hclk_hz = get_or fs 1 nan;
  ppre1 = divider_held (get_or ds 0 0);
  ppre2 = divider_held (get_or ds 1 0);
  ppre3 = divider_held (get_or ds 2 0);
  ppre4 = divider_held (get_or ds 3 0);
  tim1 = divider_held (get_or ds 4 0);
  tim2 = divider_held (get_or ds 5 0);
}

abbrev pub clock_of : List ℕ → List Float → ClockModel
clock_of cs fs = record { hz = get_or fs 0 nan; seg_cycle = get_or cs 0 0; seg_time = get_or fs 1 nan }

abbrev pub counts_of : List ℕ → Counts
counts_of cs = record { timers = min (get_or cs 0 0) 8; pins = min (get_or cs 1 0) 128; last = get_or cs 3 0 }

-- 128 is no pin
abbrev pub held_pin : ℕ → ℕ
held_pin w = min w 128

abbrev pub held_level : ℕ → ℕ
held_level w = w % 2

abbrev pub held_signal : ℕ → ℕ
held_signal w = w % 256

abbrev pub held_enable : ℕ → ℕ
held_enable w = w % 4294967296

-- the pins of blocks of words and of reals
unfoldable pub gpios_of : List (List ℕ) → List (List Float) → List Gpio
gpios_of [] rs = []
gpios_of (b ∷ bs) rs = decode_gpio b (get_or (get_or rs 0 []) 0 nan) (get_or (get_or rs 0 []) 1 nan) ∷ gpios_of bs (drop 1 rs)

-- the board of the parts of the words and of the reals
abbrev pub board_of : List (List ℕ) → List (List Float) → Board
board_of ws rs = record {
  timers = map decode_timer (blocks 0 8 40 (get_or ws 0 []));
  booking = get_or ws 5 [];
  nvic = nvic_of (min (get_or (get_or ws 1 []) 2 0) 256) (get_or ws 8 []);
  pads = record {
    gpio = gpios_of (blocks 0 128 16 (get_or ws 9 [])) (blocks nan 128 2 (get_or rs 0 []));
    af = map held_signal (get_or ws 10 []);
    route = map held_pin (get_or ws 6 []);
    sig_level = map held_level (get_or ws 7 []);
    vcc = get_or (get_or rs 1 []) 0 nan;
  };
  clocks = record { tree = tree_of (get_or ws 2 []) (get_or rs 2 []); clock = clock_of (get_or ws 3 []) (get_or rs 3 []); enr = map held_enable (get_or ws 4 []) };
  counts = counts_of (get_or ws 1 []);
}

unfoldable pub view : List ℕ → List Float → Board
view w x = board_of (parts 0 sizes w) (parts nan real_sizes x)
