-- A call as words of 32 bits: its number, then its arguments in the order of docs/CALLS.md. A 64-bit argument is two words, low then high;
-- a float is its 64 bits.
use Rattle.std.specs.Prelude.{Bool, cond, ◌||◌, List, ℕ, ◌+◌, ◌*◌, eqb, leb, Float, get_or, length, take, drop}
use Rattle.std.specs.Float.Ieee as Ieee
use Rattle.std.specs.Float.{binary64}
use Rattle.clk.specs.declared.ClockTree.{ClockTree}
use Rattle.pads.specs.Ext.{drive_of}
use Rattle.setup.specs.Setup.{setup_of}
use Rattle.machine.specs.Call.{Call, Setup, set_up, clock_tree, enable, set_pin, drive_pin, reset_pins, read, write, peek, reset_timer, deliver, query_booked, query_next, query_level, query_volts, query_line, query_time, query_why, clear_pending}

-- ---- arguments

unfoldable pub word : List ℕ → ℕ → ℕ
word ns k = get_or ns k 0

unfoldable pub word64 : List ℕ → ℕ → ℕ
word64 ns k = word ns k + word ns (k + 1) * 4294967296

unfoldable pub real64 : List ℕ → ℕ → Float
real64 ns k = Ieee.of_bits binary64 (word64 ns k)

-- set-up: HZ VCC PINS LINES N LEN MASK, then seven numbers a timer, then the signal table
abbrev pub setup_at : List ℕ → Setup
setup_at ns =
    setup_of (real64 ns 1) (real64 ns 3) (word ns 5) (word ns 6) (word ns 9) (take (word ns 7 * 7) (drop 10 ns)) (take (word ns 8) (drop (10 + word ns 7 * 7) ns))

-- SYS HCLK PPRE1 PPRE2 PPRE3 PPRE4 TIM1 TIM2
abbrev pub tree_at : List ℕ → ClockTree
tree_at ns = record {
  sysclk_hz = real64 ns 1;
  hclk_hz = real64 ns 3;
  ppre1 = word ns 5;
  ppre2 = word ns 6;
  ppre3 = word ns 7;
  ppre4 = word ns 8;
  tim1 = word ns 9;
  tim2 = word ns 10;
}

-- ---- the calls, by their first word

-- a call that is lent a book: 3 pin, 4 drive, 5 reset-pins, 7 write, 9 reset, 10 deliver
abbrev pub has_book : ℕ → Bool
has_book op = eqb op 3 || (eqb op 4 || (eqb op 5 || (eqb op 7 || (eqb op 9 || eqb op 10))))

unfoldable pub book_call : ℕ → List ℕ → ℕ → Call
book_call op ns places =
    cond (eqb op 3) (set_pin (word ns 1) (word ns 2) (word ns 3) (word ns 4) (word ns 5) (word ns 6) (word ns 7) (word64 ns 8) places)
    (cond (eqb op 4) (drive_pin (word ns 1) (drive_of (word ns 2) (real64 ns 3)) (word64 ns 5) places)
    (cond (eqb op 5) (reset_pins (word64 ns 1) places)
    (cond (eqb op 7) (write (word ns 1) (word ns 2) (word ns 3) (word ns 4) (word64 ns 5) places)
    (cond (eqb op 9) (reset_timer (word ns 1) (word64 ns 2) places)
    (deliver (word ns 1) (word64 ns 2) places)))))

-- a change that is lent none: 0 setup, 1 clock, 2 enable, 17 clear
abbrev pub is_change : ℕ → Bool
is_change op = eqb op 0 || (eqb op 1 || (eqb op 2 || eqb op 17))

unfoldable pub change_call : ℕ → List ℕ → Call
change_call op ns =
    cond (eqb op 0) (set_up (setup_at ns))
    (cond (eqb op 1) (clock_tree (tree_at ns) (word64 ns 11))
    (cond (eqb op 2) (enable (word ns 1) (word ns 2))
    (clear_pending (word ns 1))))

-- a question: 6 read, 8 peek, 11 booked, 13 level, 14 volts, 15 line, 16 time, 18 why, 12 next
unfoldable pub question_call : ℕ → List ℕ → Call
question_call op ns =
    cond (eqb op 6) (read (word ns 1) (word ns 2) (word ns 3) (word64 ns 4))
    (cond (eqb op 8) (peek (word ns 1) (word ns 2) (word64 ns 3))
    (cond (eqb op 11) (query_booked (word ns 1))
    (cond (eqb op 13) (query_level (word ns 1))
    (cond (eqb op 14) (query_volts (word ns 1))
    (cond (eqb op 15) (query_line (word ns 1))
    (cond (eqb op 16) (query_time (word64 ns 1))
    (cond (eqb op 18) (query_why (word ns 1) (word64 ns 2))
    query_next)))))))

-- the call that the words begin with, lent so many places
unfoldable pub call_with : List ℕ → ℕ → Call
call_with ns places =
    cond (has_book (word ns 0)) (book_call (word ns 0) ns places) (cond (is_change (word ns 0)) (change_call (word ns 0) ns) (question_call (word ns 0) ns))

-- ---- how many words it has

-- 0 where the first word is no call's
unfoldable pub size_of : ℕ → List ℕ → ℕ
size_of op ns =
    cond (eqb op 0) (10 + word ns 7 * 7 + word ns 8)
    (cond (eqb op 1) 13
    (cond (eqb op 2) 3
    (cond (eqb op 3) 12
    (cond (eqb op 4) 9
    (cond (eqb op 5) 5
    (cond (eqb op 6) 6
    (cond (eqb op 7) 9
    (cond (eqb op 8) 5
    (cond (eqb op 9) 6
    (cond (eqb op 10) 6
    (cond (eqb op 11) 2
    (cond (eqb op 12) 1
    (cond (eqb op 13) 2
    (cond (eqb op 14) 2
    (cond (eqb op 15) 2
    (cond (eqb op 16) 3
    (cond (eqb op 17) 2
    (cond (eqb op 18) 4 0))))))))))))))))))

-- 0 where they are no call, or a call cut short
unfoldable pub len_of : List ℕ → ℕ
len_of ns = cond (leb (size_of (word ns 0) ns) (length ns)) (size_of (word ns 0) ns) 0

-- BOOK, the last argument of a call that is lent a book; 0 places for another call
unfoldable pub book_of : List ℕ → ℕ
book_of ns =
    cond (eqb (word ns 0) 3) (word64 ns 10)
    (cond (eqb (word ns 0) 4) (word64 ns 7)
    (cond (eqb (word ns 0) 5) (word64 ns 3)
    (cond (eqb (word ns 0) 7) (word64 ns 7)
    (cond (eqb (word ns 0) 9) (word64 ns 4)
    (cond (eqb (word ns 0) 10) (word64 ns 4) 0)))))

-- the first call
abbrev pub call_of : List ℕ → Call
call_of ns = call_with ns (book_of ns)
