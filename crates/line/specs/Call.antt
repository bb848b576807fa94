-- What holds of a call's words, whatever the line says.
use Rattle.std.specs.Prelude.{◌≡◌, ℕ, ◌+◌, ◌-◌, ◌*◌, ◌/◌, ◌%◌, ◌^◌, List, Option, None, Some, cond, leb, length, slice_get, slice_index, slice_set}
use Rattle.text.specs.declared.Command.{Command}
use Rattle.text.specs.Words.{number_of}

-- the first word is the call's number
abbrev pub Begins : Command → List ℕ → Type 0
Begins command words = slice_get words 0 ≡ Some (number_of command)

-- the number of 64 bits that the last two words behind the call's number are, the low word first
abbrev pub last_wide : List ℕ → Option ℕ
last_wide words = cond (leb 3 (length words)) (Some (2 ^ 32 * slice_index words (length words - 1) + slice_index words (length words - 2))) None

-- the words with another number in its place
abbrev pub with_last_wide : ℕ → List ℕ → List ℕ
with_last_wide x words = cond (leb 3 (length words)) (slice_set (slice_set words (length words - 2) (x % 2 ^ 32)) (length words - 1) (x / 2 ^ 32)) words
