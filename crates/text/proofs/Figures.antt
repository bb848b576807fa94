-- Words and numbers beside what the definitions make of them, computed.
use mathlib.Core.Path.{◌≡◌, refl}
use mathlib.Core.List.{List, [], ◌∷◌, map}
use Prim.Native.Nat.{ℕ}
use Rattle.std.specs.Prelude.{None, Some, Ok, Err}
use Rattle.text.specs.declared.NumberError.TheVariants.{NotANumber, TooLarge}
use Rattle.text.specs.declared.Command.TheVariants.{Setup, ResetPins, Reset, Clear, Why, Pilot, Unrecord1}
use Rattle.text.specs.declared.Operand.TheVariants.{Short, Wide, Kind}
use Rattle.text.specs.Numbers.{Number, digit_of, are_digits, value_from, fitted, told_from, number_in, value_of}
use Rattle.text.specs.Digits.{places_in, last_digits, digits_of}
use Rattle.text.specs.Words.{same_word, place_in, call_of, command_at, field_of}

-- the empty word, 0, 007, 0x1F, 0Xff, 0x, 00x1, 1f, -1, 18446744073709551615, 18446744073709551616, 0x10000000000000000, 99999999999999999999x
words : List (List ℕ)
words =
    ([])
    ∷ (48 ∷ [])
    ∷ (48 ∷ 48 ∷ 55 ∷ [])
    ∷ (48 ∷ 120 ∷ 49 ∷ 70 ∷ [])
    ∷ (48 ∷ 88 ∷ 102 ∷ 102 ∷ [])
    ∷ (48 ∷ 120 ∷ [])
    ∷ (48 ∷ 48 ∷ 120 ∷ 49 ∷ [])
    ∷ (49 ∷ 102 ∷ [])
    ∷ (45 ∷ 49 ∷ [])
    ∷ (49 ∷ 56 ∷ 52 ∷ 52 ∷ 54 ∷ 55 ∷ 52 ∷ 52 ∷ 48 ∷ 55 ∷ 51 ∷ 55 ∷ 48 ∷ 57 ∷ 53 ∷ 53 ∷ 49 ∷ 54 ∷ 49 ∷ 53 ∷ [])
    ∷ (49 ∷ 56 ∷ 52 ∷ 52 ∷ 54 ∷ 55 ∷ 52 ∷ 52 ∷ 48 ∷ 55 ∷ 51 ∷ 55 ∷ 48 ∷ 57 ∷ 53 ∷ 53 ∷ 49 ∷ 54 ∷ 49 ∷ 54 ∷ [])
    ∷ (48 ∷ 120 ∷ 49 ∷ 48 ∷ 48 ∷ 48 ∷ 48 ∷ 48 ∷ 48 ∷ 48 ∷ 48 ∷ 48 ∷ 48 ∷ 48 ∷ 48 ∷ 48 ∷ 48 ∷ 48 ∷ 48 ∷ [])
    ∷ (57 ∷ 57 ∷ 57 ∷ 57 ∷ 57 ∷ 57 ∷ 57 ∷ 57 ∷ 57 ∷ 57 ∷ 57 ∷ 57 ∷ 57 ∷ 57 ∷ 57 ∷ 57 ∷ 57 ∷ 57 ∷ 57 ∷ 57 ∷ 120 ∷ [])
    ∷ []

told : List Number
told =
    Err NotANumber ∷ Ok 0 ∷ Ok 7 ∷ Ok 31 ∷ Ok 255 ∷ Err NotANumber ∷ Err NotANumber ∷ Err NotANumber ∷ Err NotANumber ∷ Ok 18446744073709551615 ∷ Err TooLarge ∷ Err TooLarge ∷ Err NotANumber ∷ []

as_read : map value_of words ≡ told
unfolding words told value_of number_in told_from are_digits value_from digit_of fitted
as_read = refl

-- 0, 10, 2^64 − 1
as_written : map digits_of (0 ∷ 10 ∷ 18446744073709551615 ∷ []) ≡ (48 ∷ []) ∷ (49 ∷ 48 ∷ []) ∷ (49 ∷ 56 ∷ 52 ∷ 52 ∷ 54 ∷ 55 ∷ 52 ∷ 52 ∷ 48 ∷ 55 ∷ 51 ∷ 55 ∷ 48 ∷ 57 ∷ 53 ∷ 53 ∷ 49 ∷ 54 ∷ 49 ∷ 53 ∷ []) ∷ []
unfolding places_in last_digits
as_written = refl

-- setup, reset-pins, reset, clear, why, pilot, unrecord1, Reset
named : map call_of ((115 ∷ 101 ∷ 116 ∷ 117 ∷ 112 ∷ []) ∷ (114 ∷ 101 ∷ 115 ∷ 101 ∷ 116 ∷ 45 ∷ 112 ∷ 105 ∷ 110 ∷ 115 ∷ []) ∷ (114 ∷ 101 ∷ 115 ∷ 101 ∷ 116 ∷ []) ∷ (99 ∷ 108 ∷ 101 ∷ 97 ∷ 114 ∷ []) ∷ (119 ∷ 104 ∷ 121 ∷ []) ∷ (112 ∷ 105 ∷ 108 ∷ 111 ∷ 116 ∷ []) ∷ (117 ∷ 110 ∷ 114 ∷ 101 ∷ 99 ∷ 111 ∷ 114 ∷ 100 ∷ 49 ∷ []) ∷ (82 ∷ 101 ∷ 115 ∷ 101 ∷ 116 ∷ []) ∷ []) ≡ Some Setup ∷ Some ResetPins ∷ Some Reset ∷ Some Clear ∷ Some Why ∷ Some Pilot ∷ Some Unrecord1 ∷ None ∷ []
unfolding call_of command_at place_in same_word
named = refl

-- a drive's KIND and VOLTS, and what stands behind its BOOK
a-drive : map (field_of 4) (0 ∷ 1 ∷ 2 ∷ 3 ∷ 4 ∷ 5 ∷ []) ≡ Some Short ∷ Some Kind ∷ Some Wide ∷ Some Wide ∷ Some Wide ∷ None ∷ []
unfolding field_of
a-drive = refl
