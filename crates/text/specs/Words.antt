-- Words, the calls they name and the numbers of each call: the table of docs/CALLS.md, in its order.
use Rattle.std.specs.Prelude.{Bool, true, false, cond, ◌&&◌, ◌||◌, List, [], ◌∷◌, ℕ, ◌+◌, eqb, Option, slice_get, slice_index_or}
use lib.Chars.{codes}
use Rattle.text.specs.declared.NumberError.{NumberError}
use Rattle.text.specs.declared.NumberError.TheVariants as Word
use Rattle.text.specs.declared.Reason.{Reason}
use Rattle.text.specs.declared.Reason.TheVariants.{UnknownWord, MissingNumber, SurplusNumber, NotANumber, TooLarge}
use Rattle.text.specs.declared.Command.{Command}
use Rattle.text.specs.declared.Command.TheVariants.{Setup, Clock, Enable, Pin, Drive, ResetPins, Read, Write, Peek, Reset, Deliver, Booked, Next, Level, Volts, Line, Time, Clear, Why, Pilot, Record, Unrecord, Unrecord1}
use Rattle.text.specs.declared.Operand.{Operand}
use Rattle.text.specs.declared.Operand.TheVariants.{Short, Wide, Kind, Bytes}

-- "and so are spaces and tabs anywhere"
abbrev pub is_space : ℕ → Bool
is_space b = eqb b 32 || eqb b 9

unfoldable pub same_word : List ℕ → List ℕ → Bool
same_word [] [] = true
same_word [] (y ∷ ys) = false
same_word (x ∷ xs) [] = false
same_word (x ∷ xs) (y ∷ ys) = eqb x y && same_word xs ys

-- the place of a word among others; their count if it is none of them
unfoldable pub place_in : List ℕ → List (List ℕ) → ℕ
place_in w [] = 0
place_in w (x ∷ xs) = cond (same_word w x) 0 (place_in w xs + 1)

-- the words of the table; "Words are written as in the table, in small letters": setup, clock, enable, pin, drive, reset-pins, read, write,
-- peek, reset, deliver, booked, next, level, volts, line, time, clear, why; then what asks the board nothing: pilot, record,
-- unrecord, unrecord1
abbrev pub calls : List (List ℕ)
calls =
    (115 ∷ 101 ∷ 116 ∷ 117 ∷ 112 ∷ [])
    ∷ (99 ∷ 108 ∷ 111 ∷ 99 ∷ 107 ∷ [])
    ∷ (101 ∷ 110 ∷ 97 ∷ 98 ∷ 108 ∷ 101 ∷ [])
    ∷ (112 ∷ 105 ∷ 110 ∷ [])
    ∷ (100 ∷ 114 ∷ 105 ∷ 118 ∷ 101 ∷ [])
    ∷ (114 ∷ 101 ∷ 115 ∷ 101 ∷ 116 ∷ 45 ∷ 112 ∷ 105 ∷ 110 ∷ 115 ∷ [])
    ∷ (114 ∷ 101 ∷ 97 ∷ 100 ∷ [])
    ∷ (119 ∷ 114 ∷ 105 ∷ 116 ∷ 101 ∷ [])
    ∷ (112 ∷ 101 ∷ 101 ∷ 107 ∷ [])
    ∷ (114 ∷ 101 ∷ 115 ∷ 101 ∷ 116 ∷ [])
    ∷ (100 ∷ 101 ∷ 108 ∷ 105 ∷ 118 ∷ 101 ∷ 114 ∷ [])
    ∷ (98 ∷ 111 ∷ 111 ∷ 107 ∷ 101 ∷ 100 ∷ [])
    ∷ (110 ∷ 101 ∷ 120 ∷ 116 ∷ [])
    ∷ (108 ∷ 101 ∷ 118 ∷ 101 ∷ 108 ∷ [])
    ∷ (118 ∷ 111 ∷ 108 ∷ 116 ∷ 115 ∷ [])
    ∷ (108 ∷ 105 ∷ 110 ∷ 101 ∷ [])
    ∷ (116 ∷ 105 ∷ 109 ∷ 101 ∷ [])
    ∷ (99 ∷ 108 ∷ 101 ∷ 97 ∷ 114 ∷ [])
    ∷ (119 ∷ 104 ∷ 121 ∷ [])
    ∷ (112 ∷ 105 ∷ 108 ∷ 111 ∷ 116 ∷ [])
    ∷ (114 ∷ 101 ∷ 99 ∷ 111 ∷ 114 ∷ 100 ∷ [])
    ∷ (117 ∷ 110 ∷ 114 ∷ 101 ∷ 99 ∷ 111 ∷ 114 ∷ 100 ∷ [])
    ∷ (117 ∷ 110 ∷ 114 ∷ 101 ∷ 99 ∷ 111 ∷ 114 ∷ 100 ∷ 49 ∷ [])
    ∷ []

-- the calls in the table's order: a call's number is its place
abbrev pub commands : List Command
commands = Setup ∷ Clock ∷ Enable ∷ Pin ∷ Drive ∷ ResetPins ∷ Read ∷ Write ∷ Peek ∷ Reset ∷ Deliver ∷ Booked ∷ Next ∷ Level ∷ Volts ∷ Line ∷ Time ∷ Clear ∷ Why ∷ Pilot ∷ Record ∷ Unrecord ∷ Unrecord1 ∷ []

unfoldable pub command_at : ℕ → Option Command
command_at n = slice_get commands n

-- the call that a word names
unfoldable pub call_of : List ℕ → Option Command
call_of w = command_at (place_in w calls)

abbrev pub number_of : Command → ℕ
number_of Setup = 0
number_of Clock = 1
number_of Enable = 2
number_of Pin = 3
number_of Drive = 4
number_of ResetPins = 5
number_of Read = 6
number_of Write = 7
number_of Peek = 8
number_of Reset = 9
number_of Deliver = 10
number_of Booked = 11
number_of Next = 12
number_of Level = 13
number_of Volts = 14
number_of Line = 15
number_of Time = 16
number_of Clear = 17
number_of Why = 18
number_of Pilot = 19
number_of Record = 20
number_of Unrecord = 21
number_of Unrecord1 = 22

-- the word that names a call
abbrev pub word_of : Command → List ℕ
word_of Setup = 115 ∷ 101 ∷ 116 ∷ 117 ∷ 112 ∷ []
word_of Clock = 99 ∷ 108 ∷ 111 ∷ 99 ∷ 107 ∷ []
word_of Enable = 101 ∷ 110 ∷ 97 ∷ 98 ∷ 108 ∷ 101 ∷ []
word_of Pin = 112 ∷ 105 ∷ 110 ∷ []
word_of Drive = 100 ∷ 114 ∷ 105 ∷ 118 ∷ 101 ∷ []
word_of ResetPins = 114 ∷ 101 ∷ 115 ∷ 101 ∷ 116 ∷ 45 ∷ 112 ∷ 105 ∷ 110 ∷ 115 ∷ []
word_of Read = 114 ∷ 101 ∷ 97 ∷ 100 ∷ []
word_of Write = 119 ∷ 114 ∷ 105 ∷ 116 ∷ 101 ∷ []
word_of Peek = 112 ∷ 101 ∷ 101 ∷ 107 ∷ []
word_of Reset = 114 ∷ 101 ∷ 115 ∷ 101 ∷ 116 ∷ []
word_of Deliver = 100 ∷ 101 ∷ 108 ∷ 105 ∷ 118 ∷ 101 ∷ 114 ∷ []
word_of Booked = 98 ∷ 111 ∷ 111 ∷ 107 ∷ 101 ∷ 100 ∷ []
word_of Next = 110 ∷ 101 ∷ 120 ∷ 116 ∷ []
word_of Level = 108 ∷ 101 ∷ 118 ∷ 101 ∷ 108 ∷ []
word_of Volts = 118 ∷ 111 ∷ 108 ∷ 116 ∷ 115 ∷ []
word_of Line = 108 ∷ 105 ∷ 110 ∷ 101 ∷ []
word_of Time = 116 ∷ 105 ∷ 109 ∷ 101 ∷ []
word_of Clear = 99 ∷ 108 ∷ 101 ∷ 97 ∷ 114 ∷ []
word_of Why = 119 ∷ 104 ∷ 121 ∷ []
word_of Pilot = 112 ∷ 105 ∷ 108 ∷ 111 ∷ 116 ∷ []
word_of Record = 114 ∷ 101 ∷ 99 ∷ 111 ∷ 114 ∷ 100 ∷ []
word_of Unrecord = 117 ∷ 110 ∷ 114 ∷ 101 ∷ 99 ∷ 111 ∷ 114 ∷ 100 ∷ []
word_of Unrecord1 = 117 ∷ 110 ∷ 114 ∷ 101 ∷ 99 ∷ 111 ∷ 114 ∷ 100 ∷ 49 ∷ []

-- what stands in each number's place: a number of 32 bits, one of 64 bits, one that is at most 3, bytes. Of `setup` those before its timers.
abbrev pub shapes : List (List Operand)
shapes =
    (Wide ∷ Wide ∷ Short ∷ Short ∷ Short ∷ [])
    ∷ (Wide ∷ Wide ∷ Short ∷ Short ∷ Short ∷ Short ∷ Short ∷ Short ∷ Wide ∷ [])
    ∷ (Short ∷ Short ∷ [])
    ∷ (Short ∷ Short ∷ Short ∷ Short ∷ Short ∷ Short ∷ Short ∷ Wide ∷ Wide ∷ [])
    ∷ (Short ∷ Kind ∷ Wide ∷ Wide ∷ Wide ∷ [])
    ∷ (Wide ∷ Wide ∷ [])
    ∷ (Short ∷ Short ∷ Short ∷ Wide ∷ [])
    ∷ (Short ∷ Short ∷ Short ∷ Short ∷ Wide ∷ Wide ∷ [])
    ∷ (Short ∷ Short ∷ Wide ∷ [])
    ∷ (Short ∷ Wide ∷ Wide ∷ [])
    ∷ (Short ∷ Wide ∷ Wide ∷ [])
    ∷ (Short ∷ [])
    ∷ ([])
    ∷ (Short ∷ [])
    ∷ (Short ∷ [])
    ∷ (Short ∷ [])
    ∷ (Wide ∷ [])
    ∷ (Short ∷ [])
    ∷ (Short ∷ Wide ∷ [])
    ∷ (Short ∷ Short ∷ [])
    ∷ (Wide ∷ Wide ∷ Wide ∷ Wide ∷ Wide ∷ Wide ∷ Wide ∷ Wide ∷ Wide ∷ [])
    ∷ (Bytes ∷ [])
    ∷ (Bytes ∷ [])
    ∷ []

-- None where no number stands
unfoldable pub field_of : ℕ → ℕ → Option Operand
field_of call k = slice_get (slice_index_or shapes call []) k

-- the words that tell why a line is no call
abbrev pub words_of : Reason → List ℕ
words_of UnknownWord = codes "unknown word"
words_of MissingNumber = codes "missing number"
words_of SurplusNumber = codes "surplus number"
words_of NotANumber = codes "not a number"
words_of TooLarge = codes "number too large"

-- why a word in a number's place is none, as the reason of its line
abbrev pub reason_of : NumberError → Reason
reason_of Word.NotANumber = NotANumber
reason_of Word.TooLarge = TooLarge
