-- Numbers as docs/CALLS.md reads them: "Decimal digits, or `0x` or `0X` and hexadecimal digits of either case; at least one digit".
use Rattle.std.specs.Prelude.{Bool, true, false, cond, ◌&&◌, ◌||◌, List, [], ◌∷◌, ℕ, ◌+◌, ◌-◌, ◌*◌, ◌^◌, ltb, eqb, Option, None, Some, unwrap_or, Result, Ok, Err}
use Rattle.text.specs.declared.NumberError.{NumberError}
use Rattle.text.specs.declared.NumberError.TheVariants.{NotANumber, TooLarge}
use Rattle.text.specs.declared.Reading.{Reading}
use Rattle.text.specs.declared.Reading.TheVariants.{Empty, Zero, Prefix, Digits, Large, Wrong}

-- a number of 64 bits, or why there is none
abbrev pub Number : Type 0
Number = Result ℕ NumberError

-- the digit that a byte is: `0` to `9`, `A` to `F`, `a` to `f`
unfoldable pub digit_of : ℕ → Option ℕ
digit_of b =
    cond (ltb b 48) None (cond (ltb b 58) (Some (b - 48)) (cond (ltb b 65) None (cond (ltb b 71) (Some (b - 55)) (cond (ltb b 97) None (cond (ltb b 103) (Some (b - 87)) None)))))

abbrev pub below : ℕ → Option ℕ → Bool
below base None = false
below base (Some d) = ltb d base

-- whether a byte is a digit of the base, and the digit
abbrev pub is_digit : ℕ → ℕ → Bool
is_digit base b = below base (digit_of b)

abbrev pub digit_value : ℕ → ℕ
digit_value b = unwrap_or (digit_of b) 0

-- whether every byte is a digit of the base
unfoldable pub are_digits : ℕ → List ℕ → Bool
are_digits base [] = true
are_digits base (b ∷ bs) = is_digit base b && are_digits base bs

-- what digits add behind a value, however large
unfoldable pub value_from : ℕ → ℕ → List ℕ → ℕ
value_from base v [] = v
value_from base v (b ∷ bs) = value_from base (v * base + digit_value b) bs

-- "and fits 64 bits"
unfoldable pub fitted : ℕ → Number
fitted v = cond (ltb v (2 ^ 64)) (Ok v) (Err TooLarge)

-- "a word that is not written as a number is never too large"
unfoldable pub told_from : ℕ → ℕ → List ℕ → Number
told_from base v bs = cond (are_digits base bs) (fitted (value_from base v bs)) (Err NotANumber)

-- digits of a base, at least one
unfoldable pub number_in : ℕ → List ℕ → Number
number_in base [] = Err NotANumber
number_in base (b ∷ bs) = told_from base 0 (b ∷ bs)

abbrev pub is_x : ℕ → Bool
is_x b = eqb b 120 || eqb b 88

-- what a word in a number's place is
unfoldable pub value_of : List ℕ → Number
value_of [] = Err NotANumber
value_of (b ∷ []) = number_in 10 (b ∷ [])
value_of (b ∷ x ∷ bs) = cond (eqb b 48 && is_x x) (number_in 16 bs) (number_in 10 (b ∷ x ∷ bs))

-- ---- the same, byte by byte

abbrev pub start : Reading
start = Empty

-- digits with a value, or too many
unfoldable pub held : ℕ → ℕ → Reading
held base v = cond (ltb v (2 ^ 64)) (Digits base v) (Large base)

unfoldable pub more_of : ℕ → ℕ → ℕ → Reading
more_of base v b = cond (is_digit base b) (held base (v * base + digit_value b)) Wrong

-- a digit behind digits that are too many
unfoldable pub large_of : ℕ → ℕ → Reading
large_of base b = cond (is_digit base b) (Large base) Wrong

-- the first byte, and the byte behind a single 0
unfoldable pub first_of : ℕ → Reading
first_of b = cond (eqb b 48) Zero (more_of 10 0 b)

unfoldable pub second_of : ℕ → Reading
second_of b = cond (is_x b) Prefix (more_of 10 0 b)

-- a byte more
abbrev pub next_of : Reading → ℕ → Reading
next_of Empty b = first_of b
next_of Zero b = second_of b
next_of Prefix b = more_of 16 0 b
next_of (Digits base v) b = more_of base v b
next_of (Large base) b = large_of base b
next_of Wrong b = Wrong

-- what the word is if it ends here
abbrev pub told_of : Reading → Number
told_of Empty = Err NotANumber
told_of Zero = Ok 0
told_of Prefix = Err NotANumber
told_of (Digits base v) = Ok v
told_of (Large base) = Err TooLarge
told_of Wrong = Err NotANumber

unfoldable pub reading_of : Reading → List ℕ → Reading
reading_of r [] = r
reading_of r (b ∷ bs) = reading_of (next_of r b) bs
