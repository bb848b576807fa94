-- Floats as document 01 speaks of them, in IEEE 754's binary64. A float is `nan`, an infinity, or `fin s m e`: m × 2^e, negative where s is true.
use Rattle.std.specs.Prelude.{ℕ, Bool, false, cond, pos, Float}
use Rattle.std.specs.Float.Ieee as Ieee
use Rattle.std.specs.Float.{binary64, nan, inf, fin}

-- 0.0, by its bits
abbrev pub zero_float : Float
zero_float = Ieee.of_bits binary64 0

-- "finite and above 0": a frequency, and the supply volts
unfoldable pub positive : Float → Bool
positive nan = false
positive (inf s) = false
positive (fin s m e) = Ieee.lt zero_float (fin s m e)

-- "the float's 64 bits": not-a-number is always 0x7ff8_0000_0000_0000
abbrev pub bits_of : Float → ℕ
bits_of f = cond (Ieee.is_nan f) 0x7ff8_0000_0000_0000 (Ieee.to_bits binary64 f)

-- "A cycle above 2^53 becomes the nearest float, ties to even": a cycle as a float
abbrev pub nearest_to : ℕ → Float
nearest_to cycle = Ieee.of_int binary64 (pos cycle)
